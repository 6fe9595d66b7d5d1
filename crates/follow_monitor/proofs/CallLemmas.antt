-- The open call of a process is answered: of the calls only it changes.
use Rattle.follow_monitor.proofs.Common.{invoked_from, response_found, turns_later, operations-invoke, operations-answer, same_call, begun_at}
use Rattle.follow_monitor.proofs.Common.{answered_at, Contains-from_map, IsWellFormed-push, Contains-nil, Contains-cases, Contains-first}
use Rattle.follow_monitor.proofs.Common.{Contains-later, inv_rises, process_of, is_invocation, events_of, events_alternate, IsWellFormed}
use Rattle.follow_monitor.proofs.Common.{ends_waiting, has_open_call, response_from, operation_of, operations_from, operations, Call, Event, Invoke}
use Rattle.follow_monitor.proofs.Common.{Answer, Reply, Operation, IsOpenCall, ◌≡◌, ◌≢◌, ℕ, zero, suc, ◌+◌, ◌==◌, Bool, true, false, cond, not, List}
use Rattle.follow_monitor.proofs.Common.{[], ◌∷◌, ◌++◌, length, map, Some, None, refl, sym, ap, ◌∙◌, subst, ⊎_elim, inl, inr, arith, and_parts}
use Rattle.follow_monitor.proofs.Common.{cases_order, eq-eqb, ne_eqb, Contains-append_cases, none-some, same_Some, ◌⊎◌, Contains, slice_get}

-- ---- the open call

-- a list parts at an element
pub split_at : {X : Type 0} (xs : List X) (i : ℕ) (x : X) → slice_get xs i ≡ Some x → (front : List X) × (back : List X)
    × (xs ≡ front ++ x ∷ back) × (length front ≡ i)
split_at [] i x h = absurd (none-some x h)
split_at {X} (y ∷ xs) zero x h = ([], xs, ap (λ (z : X). z ∷ xs) (same_Some y x h), refl)
split_at {X} (y ∷ xs) (suc i) x h =
    let (front, back, is, long) = split_at xs i x h in
    (y ∷ front, back, ap (λ (l : List X). y ∷ l) is, omega (arith, long))

-- the call of an invocation
call_there : (i : ℕ) (before : List Event) (process : ℕ) (call : Call) (between : List Event)
    → Contains (operations_from i (before ++ Invoke process call ∷ between)) (operation_of process call (i + length before) between)
call_there i [] process call between =
    let same : i ≡ i + 0 = omega arith in
    subst (λ (k : ℕ). Contains (operations_from i (Invoke process call ∷ between)) (operation_of process call k between)) same
    (Contains-first (operation_of process call i between) (operations_from (suc i) between))
call_there i (Answer q reply ∷ before) process call between =
    let same : suc i + length before ≡ i + suc (length before) = omega arith in
    subst (λ (k : ℕ). Contains (operations_from (suc i) (before ++ Invoke process call ∷ between)) (operation_of process call k between)) same
    (call_there (suc i) before process call between)
call_there i (Invoke q other ∷ before) process call between =
    let same : suc i + length before ≡ i + suc (length before) = omega arith in
    let rest = before ++ Invoke process call ∷ between in
    subst (λ (k : ℕ). Contains (operations_from i (Invoke q other ∷ rest)) (operation_of process call k between)) same
    (Contains-later (operation_of q other i rest) (operations_from (suc i) rest) (operation_of process call (suc i + length before) between)
    (call_there (suc i) before process call between))

-- the call itself
pub open_call : (events : List Event) (process place : ℕ) (call : Call) → IsOpenCall events process place call
    → (a : Operation) × Contains (operations events) a × (a.inv ≡ place) × (a.call ≡ call) × (a.response ≡ None)
open_call events process place call h =
    let (before, between, is, long) = split_at events place (Invoke process call) h.invoked in
    let a : Operation = operation_of process call (0 + length before) between in
    let there : Contains (operations events) a =
    subst (λ (l : List Event). Contains (operations l) a) (sym is) (call_there 0 before process call between) in
    let at : a.inv ≡ place = omega (arith, long) in
    (a, there, at, refl, h.pending a there at)

-- ---- the calls after its answer

-- if the events of a process take turns, its next event after an invocation is an answer
turns_after : (process : ℕ) (reply : Reply) (before : List Event) (call : Call) (between : List Event) (waiting : Bool)
    → events_alternate waiting (events_of process (before ++ Invoke process call ∷ between)) ≡ true
    → events_alternate true (events_of process between) ≡ true
turns_after process reply [] call between waiting turns =
    (and_parts (not waiting) (events_alternate true (events_of process between)) (rw (eq-eqb process process refl) at turns)).1
turns_after process reply (e ∷ before) call between waiting turns =
    let (then, later) = turns_later process reply e (before ++ Invoke process call ∷ between) waiting turns in
    turns_after process reply before call between then later

-- if a call is open, no event of its process comes after it
none_after : (before : List Event) (process : ℕ) (call : Call) (between : List Event) (reply : Reply) (a : Operation)
    → IsWellFormed (before ++ Invoke process call ∷ between) → Contains (operations (before ++ Invoke process call ∷ between)) a
    → a.inv ≡ length before → a.response ≡ None → events_of process between ≡ []
none_after before process call between reply a well a_is place pending = by_events (events_of process between) refl
  where
    by_events : (l : List Event) → events_of process between ≡ l → events_of process between ≡ []
    by_events [] e = e
    by_events (x ∷ l) e =
        let (r, found) = response_found process (suc (0 + length before)) between
        (turns_after process reply before call between false (well process)) (λ none. let f : x ∷ l ≡ [] = sym e ∙ none in cc) in
        let own = operation_of process call (0 + length before) between in
        let same : a ≡ own = same_call (operations (before ++ Invoke process call ∷ between)) a own
        (inv_rises (before ++ Invoke process call ∷ between)) a_is (call_there 0 before process call between) (omega (arith, place)) in
        absurd (none-some r (sym pending ∙ (ap (λ (b : Operation). b.response) same ∙ found)))

pub answered_calls : (events : List Event) (process place : ℕ) (call : Call) (reply : Reply) → IsOpenCall events process place call
    → operations (events ++ Answer process reply ∷ []) ≡ map (answered_at place (length events) reply) (operations events)
answered_calls events process place call reply h =
    let (before, between, is, long) = split_at events place (Invoke process call) h.invoked in
    let (a, a_is, at, which, pending) = open_call events process place call h in
    let whole = before ++ Invoke process call ∷ between in
    let well : IsWellFormed whole = subst IsWellFormed is h.well_formed in
    let none = none_after before process call between reply a well (subst (λ (l : List Event). Contains (operations l) a) is a_is)
    (at ∙ sym long) pending in
    subst (λ (l : List Event). operations (l ++ Answer process reply ∷ []) ≡ map (answered_at place (length l) reply) (operations l)) (sym is)
    (subst (λ (k : ℕ). operations (whole ++ Answer process reply ∷ []) ≡ map (answered_at k (length whole) reply) (operations whole)) long
    (operations-answer before between process call reply (well process) none))

-- ---- a call of one event more

pub invoked_later : (events : List Event) (process : ℕ) (call : Call) (b : Operation)
    → Contains (operations (events ++ Invoke process call ∷ [])) b → Contains (operations events) b ⊎ (b ≡ begun_at (length events) call)
invoked_later events process call b is =
    let new = begun_at (length events) call in
    ⊎_elim
    (λ old. inl old)
    (λ last. ⊎_elim (λ same. inr (sym same)) (λ none. absurd (Contains-nil b none)) (Contains-cases new [] b last))
    (Contains-append_cases (operations events) (new ∷ []) b
    (subst (λ (l : List Operation). Contains l b) (operations-invoke events process call) is))

-- the open call with its answer
abbrev pub with_answer : List Event → ℕ → Call → Reply → Operation
with_answer events place call reply = record { call = call; inv = place; response = Some (record { res = length events; reply = reply }) }

pub answered_later : (events : List Event) (process place : ℕ) (call : Call) (reply : Reply) (b : Operation)
    → IsOpenCall events process place call → Contains (operations (events ++ Answer process reply ∷ [])) b
    → (b ≡ with_answer events place call reply) ⊎ (Contains (operations events) b × (b.inv ≢ place))
answered_later events process place call reply b begun is =
    let (a, a_is, same) = Contains-from_map (answered_at place (length events) reply) (operations events) b
    (subst (λ (l : List Operation). Contains l b) (answered_calls events process place call reply begun) is) in
    by_test a a_is same
  where
    by_test : (a : Operation) → Contains (operations events) a → answered_at place (length events) reply a ≡ b
        → (b ≡ with_answer events place call reply) ⊎ (Contains (operations events) b × (b.inv ≢ place))
    by_test a a_is same = ⊎_elim
        (λ at_place.
        let (own, own_is, own_inv, own_call, own_open) = open_call events process place call begun in
        let one = same_call (operations events) a own (inv_rises events) a_is own_is (at_place ∙ sym own_inv) in
        let which : a.call ≡ call = ap (λ (c : Operation). c.call) one ∙ own_call in
        let new = λ (c : Call) (n : ℕ). with_answer events n c reply in
        inl (sym same ∙ (rw (eq-eqb a.inv place at_place) refl ∙ (ap (λ c. new c a.inv) which ∙ ap (new call) at_place))))
        (λ other.
        let apart : a.inv ≢ place = λ at. ⊎_elim (λ less. absurd (omega (arith, at, less))) (λ more. absurd (omega (arith, at, more))) other in
        let as_it_was : a ≡ b = sym (rw (ne_eqb a.inv place apart) refl) ∙ same in
        inr (subst (Contains (operations events)) as_it_was a_is, λ at. apart (ap (λ (c : Operation). c.inv) as_it_was ∙ at)))
        (cases_order a.inv place)

-- ---- events stay well formed after the answer of an open call

-- events take turns after the first
turns_from : (waiting : Bool) (e : Event) (events : List Event) → events_alternate waiting (e ∷ events) ≡ true → events_alternate (is_invocation e) events ≡ true
turns_from waiting (Invoke p call) events h = (and_parts (not waiting) (events_alternate true events) h).1
turns_from waiting (Answer p reply) events h = (and_parts waiting (events_alternate false events) h).1

-- if no response follows, no event of the process does
none_follow : (p i : ℕ) (events : List Event) → events_alternate true (events_of p events) ≡ true → response_from p i events ≡ None → events_of p events ≡ []
none_follow p i events turns none = by_events (events_of p events) refl
  where
    by_events : (l : List Event) → events_of p events ≡ l → events_of p events ≡ []
    by_events [] e = e
    by_events (x ∷ l) e =
        let (r, found) = response_found p i events turns (λ nothing. let wrong : x ∷ l ≡ [] = sym e ∙ nothing in cc) in
        absurd (none-some r (sym none ∙ found))

-- the last event of a process with an open call is an invocation
ends_open : (p : ℕ) (call : Call) (i : ℕ) (events : List Event) (waiting : Bool) (j : ℕ) (a : Operation)
    → events_alternate waiting (events_of p events) ≡ true → slice_get events j ≡ Some (Invoke p call) → Contains (operations_from i events) a
    → a.inv ≡ i + j → a.response ≡ None → ends_waiting waiting (events_of p events) ≡ true
ends_open p call i [] waiting j a turns here is at pending = absurd (Contains-nil a is)
ends_open p call i (e ∷ events) waiting zero a turns here is at pending =
    first e (same_Some e (Invoke p call) here) turns is
  where
    first : (e : Event) → e ≡ Invoke p call → events_alternate waiting (events_of p (e ∷ events)) ≡ true → Contains (operations_from i (e ∷ events)) a
        → ends_waiting waiting (events_of p (e ∷ events)) ≡ true
    first (Answer q reply) same turns is = cc
    first (Invoke q other) same turns is =
        let process : q ≡ p = cc in
        let test = eq-eqb q p process in
        let own : (a.response ≡ None) → response_from q (suc i) events ≡ None = λ none. ⊎_elim
        (λ (one : operation_of q other i events ≡ a). ap (λ (b : Operation). b.response) one ∙ none)
        (λ later. let from = invoked_from (suc i) events a later in absurd (omega (arith, from, at)))
        (Contains-cases (operation_of q other i events) (operations_from (suc i) events) a is) in
        let rest = turns_from waiting (Invoke q other) (events_of p events)
        (subst (λ (t : Bool). events_alternate waiting (cond t (Invoke q other ∷ events_of p events) (events_of p events)) ≡ true) test turns) in
        let none = none_follow p (suc i) events rest (subst (λ (n : ℕ). response_from n (suc i) events ≡ None) process (own pending)) in
        rw (test, none) refl
ends_open p call i (e ∷ events) waiting (suc j) a turns here is at pending =
    by_test (λ next rest. ends_open p call (suc i) events next j a rest here (later e is) (omega (arith, at)) pending) (process_of e == p) refl
  where
    later : (e : Event) → Contains (operations_from i (e ∷ events)) a → Contains (operations_from (suc i) events) a
    later (Answer q reply) is = is
    later (Invoke q other) is = ⊎_elim
        (λ one. let place = ap (λ (b : Operation). b.inv) one in absurd (omega (arith, place, at)))
        (λ rest. rest)
        (Contains-cases (operation_of q other i events) (operations_from (suc i) events) a is)

    by_test : ((next : Bool) → events_alternate next (events_of p events) ≡ true → ends_waiting next (events_of p events) ≡ true) → (test : Bool) → (process_of e == p) ≡ test → ends_waiting waiting (events_of p (e ∷ events)) ≡ true
    by_test on true same = subst (λ (t : Bool). ends_waiting waiting (cond t (e ∷ events_of p events) (events_of p events)) ≡ true) (sym same)
        (on (is_invocation e) (turns_from waiting e (events_of p events)
        (subst (λ (t : Bool). events_alternate waiting (cond t (e ∷ events_of p events) (events_of p events)) ≡ true) same turns)))
    by_test on false same = subst (λ (t : Bool). ends_waiting waiting (cond t (e ∷ events_of p events) (events_of p events)) ≡ true) (sym same)
        (on waiting (subst (λ (t : Bool). events_alternate waiting (cond t (e ∷ events_of p events) (events_of p events)) ≡ true) same turns))

pub well_formed_on : (events : List Event) (process place : ℕ) (call : Call) (reply : Reply) → IsOpenCall events process place call
    → IsWellFormed (events ++ Answer process reply ∷ [])
well_formed_on events process place call reply h =
    let (a, a_is, at, which, pending) = open_call events process place call h in
    let waits : has_open_call process events ≡ true = ends_open process call 0 events false place a (h.well_formed process) h.invoked a_is
    (omega (arith, at)) pending in
    IsWellFormed-push events (Answer process reply) h.well_formed (ap not waits)
