-- A history grows by one event at a time.
use Rattle.events.specs.declared.fault.HistoryFault.TheVariants as faults
use Rattle.events.proofs.Common.{◌≡◌, ℕ, ◌+◌, ◌<◌, ◌≤◌, Bool, true, false, not, ◌&&◌, ◌||◌, ◌==◌, cond, List, [], ◌∷◌, ◌++◌, length, Some, None}
use Rattle.events.proofs.Common.{IsTrue, refl, sym, ◌∙◌, arith, subst, eqb-true, eq-eqb, leb-false, append-nil, filter-append, list_all-append}
use Rattle.events.proofs.Common.{sum_by-append, nat_tests, and_parts, Event, Invoke, Answer, HistoryFault, call_limit, process_of, is_invocation}
use Rattle.events.proofs.Common.{events_of, events_alternate, IsWellFormed, is_shaped, is_small, call_count, AreHistoryEvents, ends_waiting}
use Rattle.events.proofs.Common.{has_open_call, is_out_of_turn, is_call_too_many, event_fault, fault_after, list_all}

-- a process's events, with one event more
events_of-push : (p : ℕ) (before : List Event) (e : Event)
    → events_of p (before ++ e ∷ []) ≡ events_of p before ++ cond (process_of e == p) (e ∷ []) []
events_of-push p before e = filter-append (λ e. process_of e == p) before (e ∷ [])

ends_waiting-push : (w : Bool) (xs : List Event) (e : Event) → ends_waiting w (xs ++ e ∷ []) ≡ is_invocation e
ends_waiting-push w [] e = refl
ends_waiting-push w (x ∷ xs) e = ends_waiting-push (is_invocation x) xs e

open_after : (b : Bool) (xs : List Event) (e : Event)
    → ends_waiting false (xs ++ cond b (e ∷ []) []) ≡ cond b (is_invocation e) (ends_waiting false xs)
open_after true xs e = ends_waiting-push false xs e
open_after false xs e = rw (append-nil xs) refl

-- whether a process has an open call, after one event more
pub has_open_call-push : (p : ℕ) (before : List Event) (e : Event)
    → has_open_call p (before ++ e ∷ []) ≡ cond (process_of e == p) (is_invocation e) (has_open_call p before)
has_open_call-push p before e = rw (events_of-push p before e) (open_after (process_of e == p) (events_of p before) e)

events_alternate-push : (w : Bool) (xs : List Event) (e : Event)
    → events_alternate w (xs ++ e ∷ []) ≡ (events_alternate w xs && not (is_out_of_turn (ends_waiting w xs) e))
events_alternate-push true [] (Invoke p call) = refl
events_alternate-push false [] (Invoke p call) = refl
events_alternate-push true [] (Answer p reply) = refl
events_alternate-push false [] (Answer p reply) = refl
events_alternate-push true (Invoke p call ∷ xs) e = refl
events_alternate-push false (Invoke p call ∷ xs) e = events_alternate-push true xs e
events_alternate-push true (Answer p reply ∷ xs) e = events_alternate-push false xs e
events_alternate-push false (Answer p reply ∷ xs) e = refl

turns_after : (w b : Bool) (xs : List Event) (e : Event) → IsTrue (events_alternate w xs)
    → (b ≡ true → is_out_of_turn (ends_waiting w xs) e ≡ false)
    → IsTrue (events_alternate w (xs ++ cond b (e ∷ []) []))
turns_after w true xs e h turn = rw (events_alternate-push w xs e, turn refl, h) refl
turns_after w false xs e h turn = rw (append-nil xs) h

-- well formed with one event more, where it does not come out of turn
pub IsWellFormed-push : (before : List Event) (e : Event) → IsWellFormed before
    → is_out_of_turn (has_open_call (process_of e) before) e ≡ false
    → IsWellFormed (before ++ e ∷ [])
IsWellFormed-push before e h turn p =
    let now =
    λ (same : (process_of e == p) ≡ true). subst (λ (q : ℕ). is_out_of_turn (has_open_call q before) e ≡ false)
    (eqb-true (process_of e) p same) turn in
    rw (events_of-push p before e) (turns_after false (process_of e == p) (events_of p before) e (h p) now)

pub call_count-push : (before : List Event) (e : Event) → call_count (before ++ e ∷ []) ≡ call_count before + cond (is_invocation e) 1 0
call_count-push before e = sum_by-append (λ x. cond (is_invocation x) 1 0) before (e ∷ []) ∙ omega arith

-- no events are those of a history
pub AreHistoryEvents-none : AreHistoryEvents []
AreHistoryEvents-none = record { shaped = refl; small = refl; calls = omega arith; well_formed = λ p. refl }

-- what it means that nothing is wrong with an event
record IsSound (calls : ℕ) (has_open : Bool) (e : Event) : Type 0 where
  shaped : is_shaped e ≡ true
  small : is_small e ≡ true
  calls_left : is_call_too_many calls e ≡ false
  in_turn : is_out_of_turn has_open e ≡ false

four_tests : (s m c t : Bool) (x y z : HistoryFault)
    → cond (not s) (Some x) (cond (not m || c) (Some y) (cond t (Some z) None)) ≡ None → (s ≡ true)
    × (m ≡ true) × (c ≡ false) × (t ≡ false)
four_tests false m c t x y z h = cc
four_tests true false c t x y z h = cc
four_tests true true true t x y z h = cc
four_tests true true false true x y z h = cc
four_tests true true false false x y z h = (refl, refl, refl, refl)

IsSound-from_none : (place calls : ℕ) (has_open : Bool) (e : Event) → event_fault place calls has_open e ≡ None → IsSound calls has_open e
IsSound-from_none place calls has_open e h =
    let t = four_tests (is_shaped e) (is_small e) (is_call_too_many calls e) (is_out_of_turn has_open e) (faults.Shape place) faults.TooMany
    (faults.NotWellFormed place) h in
    record { shaped = t.0; small = t.1; calls_left = t.2; in_turn = t.3 }

none-from_IsSound : (place calls : ℕ) (has_open : Bool) (e : Event) → IsSound calls has_open e → event_fault place calls has_open e ≡ None
none-from_IsSound place calls has_open e h = rw (h.shaped, h.small, h.calls_left, h.in_turn) refl

room : (calls : ℕ) (e : Event) → is_call_too_many calls e ≡ false → calls ≤ call_limit → calls + cond (is_invocation e) 1 0 ≤ call_limit
room calls (Invoke p call) h within = let below = leb-false call_limit calls h in omega arith
room calls (Answer p reply) h within = omega arith

-- a history with one event more, where nothing is wrong with it
pub AreHistoryEvents-push : (before : List Event) (e : Event) → AreHistoryEvents before → fault_after before e ≡ None
    → AreHistoryEvents (before ++ e ∷ [])
AreHistoryEvents-push before e h none =
    let sound = IsSound-from_none (length before) (call_count before) (has_open_call (process_of e) before) e none in
    record {
      shaped = rw (list_all-append is_shaped before (e ∷ []), h.shaped, sound.shaped) refl;
      small = rw (list_all-append is_small before (e ∷ []), h.small, sound.small) refl;
      calls = rw (call_count-push before e) (room (call_count before) e sound.calls_left h.calls);
      well_formed = IsWellFormed-push before e h.well_formed sound.in_turn;
    }

-- ---- and back: each event of a history is sound after those before it

passes_at : (test : Event → Bool) (before : List Event) (e : Event) (rest : List Event)
    → list_all test (before ++ e ∷ rest) ≡ true → test e ≡ true
passes_at test before e rest h = (and_parts (test e) _ ((and_parts (list_all test before) _ (sym (list_all-append test before (e ∷ rest)) ∙ h)).1)).0

in_turn_at : (w : Bool) (xs : List Event) (e : Event) (ys : List Event) → events_alternate w (xs ++ e ∷ ys) ≡ true
    → is_out_of_turn (ends_waiting w xs) e ≡ false
in_turn_at true [] (Invoke p call) ys h = cc
in_turn_at false [] (Invoke p call) ys h = refl
in_turn_at true [] (Answer p reply) ys h = refl
in_turn_at false [] (Answer p reply) ys h = cc
in_turn_at true (Invoke p call ∷ xs) e ys h = cc
in_turn_at false (Invoke p call ∷ xs) e ys h = in_turn_at true xs e ys h
in_turn_at true (Answer p reply ∷ xs) e ys h = in_turn_at false xs e ys h
in_turn_at false (Answer p reply ∷ xs) e ys h = cc

some_left : (calls more : ℕ) (e : Event) → calls + (cond (is_invocation e) 1 0 + more) ≤ call_limit → is_call_too_many calls e ≡ false
some_left calls more (Invoke p call) h = let above : calls < call_limit = omega arith in grind (arith, nat_tests)
some_left calls more (Answer p reply) h = refl

calls_before : (before : List Event) (e : Event) (rest : List Event) → call_count (before ++ e ∷ rest) ≤ call_limit
    → call_count before + (cond (is_invocation e) 1 0 + call_count rest) ≤ call_limit
calls_before before e rest h =
    let p = sum_by-append (λ x. cond (is_invocation x) 1 0) before (e ∷ rest) in
    let q = sum_by-append (λ x. cond (is_invocation x) 1 0) (e ∷ []) rest in
    omega (arith, p, q)

own_events : (before : List Event) (e : Event) (rest : List Event)
    → events_alternate false (events_of (process_of e) (before ++ e ∷ rest)) ≡ true
    → events_alternate false (events_of (process_of e) before ++ e ∷ events_of (process_of e) rest) ≡ true
own_events before e rest h =
    let own : (process_of e == process_of e) ≡ true = eq-eqb (process_of e) (process_of e) refl in
    rw own at (rw (filter-append (λ x. process_of x == process_of e) before (e ∷ rest)) at h)

-- nothing is wrong with an event of a history, after those before it
pub AreHistoryEvents-next : (before rest : List Event) (e : Event) → AreHistoryEvents (before ++ e ∷ rest) → fault_after before e ≡ None
AreHistoryEvents-next before rest e h = none-from_IsSound (length before) (call_count before) (has_open_call (process_of e)
    before) e (record {
      shaped = passes_at is_shaped before e rest h.shaped;
      small = passes_at is_small before e rest h.small;
      calls_left = some_left (call_count before) (call_count rest) e (calls_before before e rest h.calls);
      in_turn = in_turn_at false (events_of (process_of e) before) e (events_of (process_of e) rest)
          (own_events before e rest (h.well_formed (process_of e)));
    })
