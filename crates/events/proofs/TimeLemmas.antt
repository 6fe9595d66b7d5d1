-- When the calls of a history are invoked and answered.
use Rattle.events.proofs.Common.{◌≡◌, ℕ, suc, ◌<◌, ◌≤◌, Bool, true, false, cond, ◌==◌, List, [], ◌∷◌, Option, Some, None, refl, ⊎_elim, arith}
use Rattle.events.proofs.Common.{slice_get, IfSome, All, AllPairs, le-ltb, cases_order, IfSome_then, All-nil, All-cons, All-weaker, Event, Invoke}
use Rattle.events.proofs.Common.{Answer, Operation, Response, response_from, operation_of, operations_from, operations, AllPairs-cons}
use Rattle.events.proofs.Lists.{AllPairs-nil, AllPairs-at}
use Rattle.events.specs.Precedence.{is_before, precedes, NonePrecedesItself}

-- a response that is looked for from a place on is there or later
response_from-at_least : (p i : ℕ) (events : List Event) → IfSome (response_from p i events) (λ r. i ≤ r.res)
response_from-at_least p i [] = tt
response_from-at_least p i (Invoke q call ∷ events) =
    IfSome_then (response_from p (suc i) events) (response_from-at_least p (suc i) events) (λ r later. omega arith)
response_from-at_least p i (Answer q reply ∷ events) =
    first_or (q == p) (record { res = i; reply = reply }) (response_from p (suc i) events) (omega arith)
    (IfSome_then (response_from p (suc i) events) (response_from-at_least p (suc i) events) (λ r later. omega arith))
  where
    first_or : (b : Bool) (x : Response) (rest : Option Response) → i ≤ x.res → IfSome rest (λ r. i ≤ r.res)
        → IfSome (cond b (Some x) rest) (λ r. i ≤ r.res)
    first_or true x rest h k = h
    first_or false x rest h k = k

-- the calls of a list that starts at a place are invoked there or later
pub inv-at_least : (i : ℕ) (events : List Event) → All (λ a. i ≤ a.inv) (operations_from i events)
inv-at_least i [] = All-nil (λ a. i ≤ a.inv)
inv-at_least i (Answer p reply ∷ events) =
    All-weaker (λ a. suc i ≤ a.inv) (λ a. i ≤ a.inv) (λ a later. omega arith) (operations_from (suc i) events) (inv-at_least (suc i) events)
inv-at_least i (Invoke p call ∷ events) =
    All-cons (λ a. i ≤ a.inv) (operation_of p call i events) (operations_from (suc i) events) (omega arith)
    (All-weaker (λ a. suc i ≤ a.inv) (λ a. i ≤ a.inv) (λ a later. omega arith) (operations_from (suc i) events)
    (inv-at_least (suc i) events))

inv_rises_from : (i : ℕ) (events : List Event) → AllPairs (λ a b. a.inv < b.inv) (operations_from i events)
inv_rises_from i [] = AllPairs-nil (λ a b. a.inv < b.inv)
inv_rises_from i (Answer p reply ∷ events) = inv_rises_from (suc i) events
inv_rises_from i (Invoke p call ∷ events) =
    AllPairs-cons (λ a b. a.inv < b.inv) (operation_of p call i events) (operations_from (suc i) events)
    (All-weaker (λ a. suc i ≤ a.inv) (λ a. i < a.inv) (λ a later. omega arith) (operations_from (suc i) events)
    (inv-at_least (suc i) events))
    (inv_rises_from (suc i) events)

response_later_from : (i : ℕ) (events : List Event) → All (λ a. IfSome a.response (λ r. a.inv < r.res)) (operations_from i events)
response_later_from i [] = All-nil (λ a. IfSome a.response (λ r. a.inv < r.res))
response_later_from i (Answer p reply ∷ events) = response_later_from (suc i) events
response_later_from i (Invoke p call ∷ events) =
    All-cons (λ a. IfSome a.response (λ r. a.inv < r.res)) (operation_of p call i events) (operations_from (suc i) events)
    (IfSome_then (response_from p (suc i) events) (response_from-at_least p (suc i) events) (λ r later. omega arith))
    (response_later_from (suc i) events)

-- calls are numbered by their invocations: a later call is invoked later
pub inv_rises : (events : List Event) → AllPairs (λ a b. a.inv < b.inv) (operations events)
inv_rises events = inv_rises_from 0 events

-- calls whose invocations rise are one where they are invoked at one place
pub same_number : (calls : List Operation) (m n : ℕ) (a b : Operation) → AllPairs (λ a b. a.inv < b.inv) calls → slice_get calls m ≡ Some a
    → slice_get calls n ≡ Some b
    → a.inv ≡ b.inv → m ≡ n
same_number calls m n a b rise m_here n_here same = ⊎_elim (λ equal. equal) (λ differ. ⊎_elim
    (λ before. let less = AllPairs-at (λ a b. a.inv < b.inv) calls m n a b rise before m_here n_here in absurd (omega arith))
    (λ after. let less = AllPairs-at (λ a b. a.inv < b.inv) calls n m b a rise after n_here m_here in absurd (omega arith))
    differ) (cases_order m n)

-- each response comes after the invocation that it answers
pub response_later : (events : List Event) → All (λ a. IfSome a.response (λ r. a.inv < r.res)) (operations events)
response_later events = response_later_from 0 events

-- no call of a history precedes itself
pub NonePrecedesItself-operations : (events : List Event) → NonePrecedesItself (operations events)
NonePrecedesItself-operations events =
    All-weaker (λ a. IfSome a.response (λ r. a.inv < r.res)) (λ a. precedes a a ≡ false) (λ a later. not_before a.response a.inv later)
    (operations events)
    (response_later events)
  where
    not_before : (response : Option Response) (inv : ℕ) → IfSome response (λ r. inv < r.res) → is_before response inv ≡ false
    not_before None inv h = refl
    not_before (Some r) inv h = le-ltb r.res inv (omega arith)
