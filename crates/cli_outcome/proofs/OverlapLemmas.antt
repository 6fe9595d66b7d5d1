-- How many calls are open, and were at the invocations, with one event more.
use Rattle.std.proofs.Common.{◌≡◌, ℕ, ◌+◌, ◌-◌, ◌^◌, ◌<◌, ◌≤◌, min, List, [], ◌∷◌, ◌++◌, length, take, get_or, refl, sym, ap, ◌∙◌}
use Rattle.std.proofs.Common.{subst, inl, inr, arith, length-take-le}
use Rattle.std.proofs.Math.Nat.{min-eq_left, min_comm}
use Rattle.std.proofs.lemmas.Bool.{cases_lt}
use Rattle.std.proofs.lemmas.List.{take_more}
use Rattle.events.specs.declared.event.Call.{Call}
use Rattle.events.specs.declared.event.Reply.{Reply}
use Rattle.events.specs.declared.event.Event.{Event}
use Rattle.events.specs.declared.event.Event.TheVariants.{Invoke, Answer}
use Rattle.cli_outcome.specs.Overlaps.{pending_after, overlap_after, overlap_of}

pub pending-invoke : (n : ℕ) (events : List Event) (p : ℕ) (call : Call)
    → pending_after n (events ++ Invoke p call ∷ []) ≡ pending_after n events + 1
pending-invoke n [] p call = refl
pending-invoke n (Invoke q x ∷ events) p call = pending-invoke (n + 1) events p call
pending-invoke n (Answer q x ∷ events) p call = pending-invoke (n - 1) events p call

pub pending-answer : (n : ℕ) (events : List Event) (p : ℕ) (reply : Reply)
    → pending_after n (events ++ Answer p reply ∷ []) ≡ pending_after n events - 1
pending-answer n [] p reply = refl
pending-answer n (Invoke q x ∷ events) p reply = pending-answer (n + 1) events p reply
pending-answer n (Answer q x ∷ events) p reply = pending-answer (n - 1) events p reply

pub pending_le : (n : ℕ) (events : List Event) → pending_after n events ≤ n + length events
pending_le n [] = omega arith
pending_le n (Invoke q x ∷ events) = let more = pending_le (n + 1) events in omega arith
pending_le n (Answer q x ∷ events) = let more = pending_le (n - 1) events in omega arith

pub overlap-invoke : (n : ℕ) (events : List Event) (p : ℕ) (call : Call)
    → overlap_after n (events ++ Invoke p call ∷ []) ≡ overlap_after n events + pending_after n events
overlap-invoke n [] p call = omega arith
overlap-invoke n (Invoke q x ∷ events) p call = let more = overlap-invoke (n + 1) events p call in omega arith
overlap-invoke n (Answer q x ∷ events) p call = overlap-invoke (n - 1) events p call

pub overlap-answer : (n : ℕ) (events : List Event) (p : ℕ) (reply : Reply)
    → overlap_after n (events ++ Answer p reply ∷ []) ≡ overlap_after n events
overlap-answer n [] p reply = refl
overlap-answer n (Invoke q x ∷ events) p reply = let more = overlap-answer (n + 1) events p reply in omega arith
overlap-answer n (Answer q x ∷ events) p reply = overlap-answer (n - 1) events p reply

-- ---- sums that stop at a limit

min_right : (a b : ℕ) → b ≤ a → min a b ≡ b
min_right a b le = min_comm a b ∙ min-eq_left le

pub min_sum : (a b limit : ℕ) → min (min a limit + b) limit ≡ min (a + b) limit
min_sum a b limit = elim (cases_lt limit a) [
  | inl less ↦ ap (λ (x : ℕ). min (x + b) limit) (min_right a limit (omega arith))
      ∙ (min_right (limit + b) limit (omega arith) ∙ sym (min_right (a + b) limit (omega arith)))
  | inr le ↦ ap (λ (x : ℕ). min (x + b) limit) (min-eq_left (let this : a ≤ limit = omega arith in this))
]

-- the counts of 64 bits, after an invocation
pub pending-room : (events : List Event) (p : ℕ) (call : Call) (pending : ℕ) → length events < 2 ^ 64 - 1
    → pending ≡ pending_after 0 events
    → min (pending + 1) (2 ^ 64 - 1) ≡ pending_after 0 (events ++ Invoke p call ∷ [])
pending-room events p call pending few is =
    let bound = pending_le 0 events in
    let small : pending_after 0 events + 1 ≤ 2 ^ 64 - 1 = omega arith in
    ap (λ (n : ℕ). min (n + 1) (2 ^ 64 - 1)) is ∙ (min-eq_left small ∙ sym (pending-invoke 0 events p call))

pub overlap-room : (events : List Event) (p : ℕ) (call : Call) (pending overlap : ℕ) → pending ≡ pending_after 0 events
    → overlap ≡ overlap_of events → min (overlap + pending) (2 ^ 64 - 1) ≡ overlap_of (events ++ Invoke p call ∷ [])
overlap-room events p call pending overlap pending_is overlap_is =
    ap (λ (n : ℕ). min (n + pending) (2 ^ 64 - 1)) overlap_is
    ∙ (ap (λ (n : ℕ). min (overlap_of events + n) (2 ^ 64 - 1)) pending_is
    ∙ (min_sum (overlap_after 0 events) (pending_after 0 events) (2 ^ 64 - 1)
    ∙ ap (λ (n : ℕ). min n (2 ^ 64 - 1)) (sym (overlap-invoke 0 events p call))))

pub overlap-kept : (events : List Event) (p : ℕ) (reply : Reply) (overlap : ℕ) → overlap ≡ overlap_of events
    → overlap ≡ overlap_of (events ++ Answer p reply ∷ [])
overlap-kept events p reply overlap is = is ∙ ap (λ (n : ℕ). min n (2 ^ 64 - 1)) (sym (overlap-answer 0 events p reply))

pub pending-kept : (events : List Event) (p : ℕ) (reply : Reply) (pending : ℕ) → pending ≡ pending_after 0 events
    → pending - 1 ≡ pending_after 0 (events ++ Answer p reply ∷ [])
pending-kept events p reply pending is = ap (λ (n : ℕ). n - 1) is ∙ sym (pending-answer 0 events p reply)

-- ---- the first events, with the next one

-- how many calls are open after the first events, and were at their invocations
abbrev pub IsCounted : List Event → ℕ → ℕ → ℕ → Type 0
IsCounted events place pending overlap = (pending ≡ pending_after 0 (take place events)) × (overlap ≡ overlap_of (take place events))

next_is : (events : List Event) (place : ℕ) (e : Event) → place < length events → get_or events place e ≡ e
    → take (place + 1) events ≡ take place events ++ e ∷ []
next_is events place e within is = take_more events place e within ∙ ap (λ (x : Event). take place events ++ x ∷ []) is

pub counted-invoke : (events : List Event) (place : ℕ) (p : ℕ) (call : Call) (pending overlap : ℕ) → place < length events
    → place < 2 ^ 64 - 1 → get_or events place (Invoke p call) ≡ Invoke p call → IsCounted events place pending overlap
    → IsCounted events (place + 1) (min (pending + 1) (2 ^ 64 - 1)) (min (overlap + pending) (2 ^ 64 - 1))
counted-invoke events place p call pending overlap within room is h =
    let size = length-take-le place events (omega (arith, within)) in
    let few : length (take place events) < 2 ^ 64 - 1 = omega (arith, size, room) in
    subst (λ (es : List Event). (min (pending + 1) (2 ^ 64 - 1) ≡ pending_after 0 es) × (min (overlap + pending) (2 ^ 64 - 1) ≡ overlap_of es))
    (sym (next_is events place (Invoke p call) within is))
    (pending-room (take place events) p call pending few h.0, overlap-room (take place events) p call pending overlap h.0 h.1)

pub counted-answer : (events : List Event) (place : ℕ) (p : ℕ) (reply : Reply) (pending overlap : ℕ) → place < length events
    → get_or events place (Answer p reply) ≡ Answer p reply → IsCounted events place pending overlap
    → IsCounted events (place + 1) (pending - 1) overlap
counted-answer events place p reply pending overlap within is h =
    subst (λ (es : List Event). (pending - 1 ≡ pending_after 0 es) × (overlap ≡ overlap_of es))
    (sym (next_is events place (Answer p reply) within is))
    (pending-kept (take place events) p reply pending h.0, overlap-kept (take place events) p reply overlap h.1)
