-- The processes of the calls of events: calls of one process take turns.
use Rattle.explain_histories.proofs.Common.{◌≡◌, ℕ, zero, suc, ◌<◌, ◌≤◌, Bool, true, false, not, cond, ◌==◌, List, [], ◌∷◌, length, Some, refl, sym, ap}
use Rattle.explain_histories.proofs.Common.{◌∙◌, subst, arith, All, IfSome, nat_lt, nat_le, slice_get, and_parts, eq-eqb, ltb-true, leb-true, lt-ltb}
use Rattle.explain_histories.proofs.Common.{false≢true, All-nil, All-cons, none-some, same_Some, Event, Invoke, Answer, Operation, process_of}
use Rattle.explain_histories.proofs.Common.{events_of, events_alternate, has_range, pair_count, is_shaped, is_small, process_limit, pair_limit}
use Rattle.explain_histories.proofs.Common.{response_from, operation_of, operations_from, is_before, precedes, Contains-at, invoked_from}
use Rattle.std.specs.List.{list_all}
use Rattle.events.specs.declared.event.Call.{Call}

-- the processes of the calls, by number
abbrev pub owners : List Event → List ℕ
owners [] = []
owners (Answer p reply ∷ events) = owners events
owners (Invoke p call ∷ events) = p ∷ owners events

pub length-owners : (i : ℕ) (events : List Event) → length (owners events) ≡ length (operations_from i events)
length-owners i [] = refl
length-owners i (Answer p reply ∷ events) = length-owners (suc i) events
length-owners i (Invoke p call ∷ events) = ap suc (length-owners (suc i) events)

-- ---- within the limits

pub owners_known : (events : List Event) → list_all is_small events ≡ true → All (λ p. p < process_limit) (owners events)
owners_known [] h = All-nil (λ p. p < process_limit)
owners_known (Answer p reply ∷ events) h = owners_known events (and_parts (is_small (Answer p reply)) (list_all is_small events) h).1
owners_known (Invoke p call ∷ events) h =
    let both = and_parts (is_small (Invoke p call)) (list_all is_small events) h in
    All-cons (λ p. p < process_limit) p (owners events) (ltb-true p process_limit both.0) (owners_known events both.1)

pub calls_shaped : (i : ℕ) (events : List Event) → list_all is_shaped events ≡ true
    → All (λ a. has_range a.call ≡ true) (operations_from i events)
calls_shaped i [] h = All-nil (λ (a : Operation). has_range a.call ≡ true)
calls_shaped i (Answer p reply ∷ events) h = calls_shaped (suc i) events h
calls_shaped i (Invoke p call ∷ events) h =
    let both = and_parts (has_range call) (list_all is_shaped events) h in
    All-cons (λ (a : Operation). has_range a.call ≡ true) (operation_of p call i events) (operations_from (suc i) events) both.0
    (calls_shaped (suc i) events both.1)

response_small : (p i : ℕ) (events : List Event) → list_all is_small events ≡ true
    → IfSome (response_from p i events) (λ response. pair_count response.reply ≤ pair_limit)
response_small p i [] h = tt
response_small p i (Invoke q call ∷ events) h =
    response_small p (suc i) events (and_parts (is_small (Invoke q call)) (list_all is_small events) h).1
response_small p i (Answer q reply ∷ events) h =
    let both = and_parts (is_small (Answer q reply)) (list_all is_small events) h in
    by_test (q == p) (and_parts (nat_lt q process_limit) (nat_le (pair_count reply) pair_limit) both.0).1 (response_small p (suc i) events both.1)
  where
    by_test : (t : Bool) → nat_le (pair_count reply) pair_limit ≡ true
        → IfSome (response_from p (suc i) events) (λ response. pair_count response.reply ≤ pair_limit)
        → IfSome (cond t (Some (record { res = i; reply = reply })) (response_from p (suc i) events))
        (λ response. pair_count response.reply ≤ pair_limit)
    by_test true small rest = leb-true (pair_count reply) pair_limit small
    by_test false small rest = rest

pub replies_small : (i : ℕ) (events : List Event) → list_all is_small events ≡ true
    → All (λ a. IfSome a.response (λ response. pair_count response.reply ≤ pair_limit)) (operations_from i events)
replies_small i [] h = All-nil (λ (a : Operation). IfSome a.response (λ response. pair_count response.reply ≤ pair_limit))
replies_small i (Answer p reply ∷ events) h = replies_small (suc i) events (and_parts (is_small (Answer p reply)) (list_all is_small events) h).1
replies_small i (Invoke p call ∷ events) h =
    let rest = (and_parts (is_small (Invoke p call)) (list_all is_small events) h).1 in
    All-cons (λ (a : Operation). IfSome a.response (λ response. pair_count response.reply ≤ pair_limit)) (operation_of p call i events)
    (operations_from (suc i) events) (response_small p (suc i) events rest) (replies_small (suc i) events rest)

-- ---- turns

-- if a process has a call open, the response to it comes before each later call of the process
answered_before : (p i : ℕ) (events : List Event) (n : ℕ) (c : Operation) → events_alternate true (events_of p events) ≡ true
    → slice_get (owners events) n ≡ Some p → slice_get (operations_from i events) n ≡ Some c
    → is_before (response_from p i events) c.inv ≡ true
answered_before p i [] n c turns own at = absurd (none-some c at)
answered_before p i (Invoke q call ∷ events) n c turns own at =
    by_test (λ turns m own at. answered_before p (suc i) events m c turns own at) (q == p) refl turns n own at
  where
    Goes : Type 0
    Goes = events_alternate true (events_of p events) ≡ true → (m : ℕ) → slice_get (owners events) m ≡ Some p
        → slice_get (operations_from (suc i) events) m ≡ Some c → is_before (response_from p (suc i) events) c.inv ≡ true

    by_number : Goes → (q == p) ≡ false → events_alternate true (events_of p events) ≡ true → (m : ℕ) → slice_get (q ∷ owners events) m ≡ Some p
        → slice_get (operation_of q call i events ∷ operations_from (suc i) events) m ≡ Some c
        → is_before (response_from p (suc i) events) c.inv ≡ true
    by_number go other turns zero own at = absurd (false≢true (sym other ∙ eq-eqb q p (same_Some q p own)))
    by_number go other turns (suc m) own at = go turns m own at

    by_test : Goes → (t : Bool) → (q == p) ≡ t → events_alternate true (cond t (Invoke q call ∷ events_of p events) (events_of p events)) ≡ true
        → (m : ℕ) → slice_get (q ∷ owners events) m ≡ Some p
        → slice_get (operation_of q call i events ∷ operations_from (suc i) events) m ≡ Some c
        → is_before (response_from p (suc i) events) c.inv ≡ true
    by_test go true same turns m own at = absurd (false≢true turns)
    by_test go false same turns m own at = by_number go same turns m own at
answered_before p i (Answer q reply ∷ events) n c turns own at =
    by_test (λ turns. answered_before p (suc i) events n c turns own at) (q == p) turns
  where
    by_test : (events_alternate true (events_of p events) ≡ true → is_before (response_from p (suc i) events) c.inv ≡ true) → (t : Bool)
        → events_alternate true (cond t (Answer q reply ∷ events_of p events) (events_of p events)) ≡ true
        → is_before (cond t (Some (record { res = i; reply = reply })) (response_from p (suc i) events)) c.inv ≡ true
    by_test go true turns =
        let from = invoked_from (suc i) events c (Contains-at (operations_from (suc i) events) n c at) in lt-ltb i c.inv (omega arith)
    by_test go false turns = go turns

-- the events of each process take turns, whichever process begins
abbrev pub TakeTurns : List Event → Type 0
TakeTurns events = (p : ℕ) → (waiting : Bool) × (events_alternate waiting (events_of p events) ≡ true)

turns_on : (e : Event) (events : List Event) → TakeTurns (e ∷ events) → TakeTurns events
turns_on e events turns p = by_test (process_of e == p) (turns p).0 (turns p).1
  where
    behind : (waiting : Bool) (e : Event) → events_alternate waiting (e ∷ events_of p events) ≡ true
        → (then : Bool) × (events_alternate then (events_of p events) ≡ true)
    behind waiting (Invoke q call) h = (true, (and_parts (not waiting) (events_alternate true (events_of p events)) h).1)
    behind waiting (Answer q reply) h = (false, (and_parts waiting (events_alternate false (events_of p events)) h).1)

    by_test : (t : Bool) (waiting : Bool) → events_alternate waiting (cond t (e ∷ events_of p events) (events_of p events)) ≡ true
        → (then : Bool) × (events_alternate then (events_of p events) ≡ true)
    by_test true waiting h = behind waiting e h
    by_test false waiting h = (waiting, h)

-- the process of an invocation has a call open after it
open_behind : (p : ℕ) (call : Call) (events : List Event) → TakeTurns (Invoke p call ∷ events) → events_alternate true (events_of p events) ≡ true
open_behind p call events turns =
    let (waiting, h) = turns p in
    let own : (p == p) ≡ true = eq-eqb p p refl in
    (and_parts (not waiting) (events_alternate true (events_of p events))
    (subst (λ (t : Bool). events_alternate waiting (cond t (Invoke p call ∷ events_of p events) (events_of p events)) ≡ true) own h)).1

-- the first of two calls of one process precedes the other
pub one_after_other : (i : ℕ) (events : List Event) (m n p : ℕ) (c d : Operation) → TakeTurns events → m < n
    → slice_get (owners events) m ≡ Some p → slice_get (owners events) n ≡ Some p → slice_get (operations_from i events) m ≡ Some c
    → slice_get (operations_from i events) n ≡ Some d → precedes c d ≡ true
one_after_other i [] m n p c d turns less own also c_at d_at = absurd (none-some c c_at)
one_after_other i (Answer q reply ∷ events) m n p c d turns less own also c_at d_at =
    one_after_other (suc i) events m n p c d (turns_on (Answer q reply) events turns) less own also c_at d_at
one_after_other i (Invoke q call ∷ events) m zero p c d turns less own also c_at d_at = absurd (omega (arith, less))
one_after_other i (Invoke q call ∷ events) (suc m) (suc n) p c d turns less own also c_at d_at =
    one_after_other (suc i) events m n p c d (turns_on (Invoke q call) events turns) (omega arith) own also c_at d_at
one_after_other i (Invoke q call ∷ events) zero (suc n) p c d turns less own also c_at d_at =
    let same : q ≡ p = same_Some q p own in
    let first = answered_before q (suc i) events n d (open_behind q call events turns) (also ∙ ap (λ (k : ℕ). Some k) (sym same)) d_at in
    ap (λ (x : Operation). is_before x.response d.inv) (sym (same_Some (operation_of q call i events) c c_at)) ∙ first
