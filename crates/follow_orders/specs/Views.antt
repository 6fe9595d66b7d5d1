-- A kept order, as its callers see it.
use Rattle.std.specs.Prelude.{◌≡◌, ◌≢◌, ℕ, ◌<◌, false, List, ◌∷◌, ◌++◌, Option, Some, None, slice_get, slice_set, All, AllPairs, ⊤}
use Rattle.events.specs.declared.operation.Operation.{Operation}
use Rattle.events.specs.declared.operation.Response.{Response}
use Rattle.events.specs.Precedence.{precedes, NonePrecedesItself}
use Rattle.map_object.specs.MapObject.{Contents}
use Rattle.orders.specs.Orders.{IsOrder}

-- the pairs that the calls start from, the calls by rising invocation, and an order of them, by their places
pub record StoredOrderView : Type 0 where
  pub start : Contents
  pub calls : List Operation
  pub order : List ℕ

-- what is true of each kept order
pub record IsKeptOrder (kept : StoredOrderView) : Type 0 where
  pub rising : AllPairs (λ a b. a.inv < b.inv) kept.calls
  pub apart : NonePrecedesItself kept.calls
  pub order : IsOrder kept.start kept.calls kept.order

-- a call with this response
abbrev pub answered_call : Operation → Response → Operation
answered_call a response = record { call = a.call; inv = a.inv; response = Some response }

-- the calls, where the one at a place has this response
abbrev pub set_answer : List Operation → ℕ → Response → Option Operation → List Operation
set_answer calls place response None = calls
set_answer calls place response (Some a) = slice_set calls place (answered_call a response)

abbrev pub answered : List Operation → ℕ → Response → List Operation
answered calls place response = set_answer calls place response (slice_get calls place)

-- a response is above a place
abbrev pub IsAbove : ℕ → Option Response → Type 0
IsAbove place None = ⊤
IsAbove place (Some response) = response.res < place

-- a call may be given this response: it is pending, and the response comes after all that the calls have so far
pub record MayBeAnswered (calls : List Operation) (place : ℕ) (response : Response) : Type 0 where
  pub call : Operation
  pub here : slice_get calls place ≡ Some call
  pub pending : call.response ≡ None
  pub after_invocations : All (λ a. a.inv < response.res) calls
  pub after_responses : All (λ a. IsAbove response.res a.response) calls

-- a completed call may come to the calls: none has its invocation, all were invoked before its response, and it does not precede itself
pub record MayCome (calls : List Operation) (operation : Operation) : Type 0 where
  pub response : Response
  pub completed : operation.response ≡ Some response
  pub other : All (λ a. a.inv ≢ operation.inv) calls
  pub after_invocations : All (λ a. a.inv < response.res) calls
  pub apart : precedes operation operation ≡ false

-- a call came to the calls, at its place by rising invocation
pub record HasCome (operation : Operation) (calls more : List Operation) : Type 0 where
  pub front : List Operation
  pub back : List Operation
  pub before : calls ≡ front ++ back
  pub less : All (λ a. a.inv < operation.inv) front
  pub greater : All (λ a. operation.inv < a.inv) back
  pub after : more ≡ front ++ operation ∷ back
