-- The first fault of a list of numbers that is not an order of the calls.
use Rattle.std.specs.Prelude.{◌≡◌, ℕ, ◌<◌, ◌≤◌, true, List, length, take, Some, slice_get, Any, Contains}
use Rattle.events.specs.declared.operation.Operation.{Operation}
use Rattle.events.specs.Precedence.{precedes}
use Rattle.map_object.specs.MapObject.{Contents}
use Rattle.orders.specs.Orders.{IsLegalOrder, IsCompletedAt, IsLegalCall, after_calls, calls_at}

-- a call precedes a call with one of these numbers
abbrev pub PrecedesSome : List Operation → List ℕ → Operation → Type 0
PrecedesSome calls numbers a = Any (λ b. precedes a b ≡ true) (calls_at calls numbers)

-- the numbers before a place are a legal order, and this number is at the place
pub record IsNextAt (start : Contents) (calls : List Operation) (order : List ℕ) (place number : ℕ) : Type 0 where
  pub sound : IsLegalOrder start calls (take place order)
  pub here : slice_get order place ≡ Some number

-- fault 1: no call has the number at the place
pub record IsUnknownAt (start : Contents) (calls : List Operation) (order : List ℕ) (place : ℕ) : Type 0 where
  pub number : ℕ
  pub next : IsNextAt start calls order place number
  pub unknown : length calls ≤ number

-- fault 2: the number at the place is also at an earlier place
pub record IsRepeatedAt (start : Contents) (calls : List Operation) (order : List ℕ) (place : ℕ) : Type 0 where
  pub number : ℕ
  pub next : IsNextAt start calls order place number
  pub known : number < length calls
  pub repeated : Contains (take place order) number

-- a call that is there for the first time
pub record IsNewAt (start : Contents) (calls : List Operation) (order : List ℕ) (place : ℕ) (a : Operation) : Type 0 where
  pub number : ℕ
  pub next : IsNextAt start calls order place number
  pub call : slice_get calls number ≡ Some a
  pub new : Contains (take place order) number → ⊥

-- fault 3: the call at the place precedes one at an earlier place
pub record BreaksPrecedenceAt (start : Contents) (calls : List Operation) (order : List ℕ) (place : ℕ) : Type 0 where
  pub a : Operation
  pub next : IsNewAt start calls order place a
  pub precedes_earlier : PrecedesSome calls (take place order) a

-- fault 4: the call at the place may not be answered there as it was recorded
pub record IsIllegalAt (start : Contents) (calls : List Operation) (order : List ℕ) (place : ℕ) : Type 0 where
  pub a : Operation
  pub next : IsNewAt start calls order place a
  pub keeps_precedence : PrecedesSome calls (take place order) a → ⊥
  pub illegal : IsLegalCall (after_calls start (calls_at calls (take place order))) a.call a.response → ⊥

-- fault 5: the list is a legal order, and this is the least completed call that it does not have
pub record IsLeastMissing (start : Contents) (calls : List Operation) (order : List ℕ) (number : ℕ) : Type 0 where
  pub sound : IsLegalOrder start calls order
  pub completed : IsCompletedAt calls number
  pub missing : Contains order number → ⊥
  pub least : (m : ℕ) → m < number → IsCompletedAt calls m → Contains order m
