-- The calls that a list of events makes: how many there are, and what each event adds.
use Rattle.events.proofs.Common.{◌≡◌, ℕ, suc, ◌+◌, ◌<◌, ◌≤◌, cond, List, [], ◌∷◌, ◌++◌, length, get_or, drop, None, refl, ap, ◌∙◌, arith, add-one}
use Rattle.events.proofs.Common.{drop-cons, sum_by-cons, Event, Invoke, Answer, call_limit, is_invocation, call_count, AreHistoryEvents, Operation}
use Rattle.events.proofs.Common.{response_from, operation_of, operations_from, operations}
use Rattle.events.specs.declared.event.Call.{Call}

pub length-operations_from : (i : ℕ) (events : List Event) → length (operations_from i events) ≡ call_count events
length-operations_from i [] = refl
length-operations_from i (Answer p reply ∷ events) = length-operations_from (suc i) events
length-operations_from i (Invoke p call ∷ events) =
    let more = sum_by-cons (λ x. cond (is_invocation x) 1 0) (Invoke p call) events in omega (arith, length-operations_from (suc i) events)

-- a history has at most the calls that the limit allows
pub length-operations_le : (events : List Event) → AreHistoryEvents events → length (operations events) ≤ call_limit
length-operations_le events h = omega (arith, length-operations_from 0 events, h.calls)

-- an invocation adds its call, and a response none
pub operations_from-invocation : (events : List Event) (i p : ℕ) (call : Call) → i < length events
    → Invoke p call ≡ get_or events i (Invoke p call)
    → operations_from i (drop i events)
    ≡ record { call = call; inv = i; response = response_from p (i + 1) (drop (i + 1) events) } ∷ operations_from (i + 1) (drop (i + 1) events)
operations_from-invocation events i p call inside is = rw (add-one, drop-cons events i (Invoke p call) inside, ← is) refl

pub operations_from-response : (events : List Event) (i : ℕ) (e : Event) → i < length events → e ≡ get_or events i e
    → ((p : ℕ) (call : Call) → e ≡ Invoke p call → ⊥)
    → operations_from i (drop i events) ≡ operations_from (i + 1) (drop (i + 1) events)
operations_from-response events i (Invoke p call) inside is other = absurd (other p call refl)
operations_from-response events i (Answer p reply) inside is other = rw (add-one, drop-cons events i (Answer p reply) inside, ← is) refl

-- an invocation after events answers none of their calls
response_from-invoke : (p i q : ℕ) (call : Call) (events : List Event)
    → response_from p i (events ++ Invoke q call ∷ []) ≡ response_from p i events
response_from-invoke p i q call [] = refl
response_from-invoke p i q call (Invoke r other ∷ events) = response_from-invoke p (suc i) q call events
response_from-invoke p i q call (Answer r reply ∷ events) = rw (response_from-invoke p (suc i) q call events) refl

-- a pending call by its place
abbrev pending_call : Call → ℕ → Operation
pending_call call place = record { call = call; inv = place; response = None }

-- the calls of events with one invocation more: one more, which is pending
pub operations_from-invoke : (i q : ℕ) (call : Call) (events : List Event)
    → operations_from i (events ++ Invoke q call ∷ []) ≡ operations_from i events ++ record
    { call = call; inv = i + length events; response = None } ∷ []
operations_from-invoke i q call [] = let same : i ≡ i + 0 = omega arith in ap (λ place. pending_call call place ∷ []) same
operations_from-invoke i q call (Answer r reply ∷ events) =
    let same : suc i + length events ≡ i + suc (length events) = omega arith in
    operations_from-invoke (suc i) q call events ∙ ap (λ place. operations_from (suc i) events ++ pending_call call place ∷ []) same
operations_from-invoke i q call (Invoke r other ∷ events) =
    let same : suc i + length events ≡ i + suc (length events) = omega arith in
    rw (response_from-invoke r (suc i) q call events)
    (ap (λ (rest : List Operation). operation_of r other i events ∷ rest)
    (operations_from-invoke (suc i) q call events ∙ ap (λ place. operations_from (suc i) events ++ pending_call call place ∷ []) same))
