-- Completed calls that leave the map as it is: they may go first.
use Rattle.std.specs.Prelude.{◌≡◌, ◌↔◌, ℕ, Bool, true, false, List, [], ◌∷◌, ◌++◌, Option, Some, None, slice_get, Contains}
use Rattle.events.specs.declared.operation.Operation.{Operation}
use Rattle.events.specs.declared.operation.Response.{Response}
use Rattle.events.specs.Precedence.{is_completed}
use Rattle.events.specs.Told.{is_complete}
use Rattle.map_object.specs.MapObject.{Contents, IsRising}
use Rattle.orders.specs.Orders.{IsLegalCall, after_call, IsOrder}
use Rattle.memo.specs.Fronts.{PrecedesAt}
use Rattle.search.specs.Standing.{pairs_after}

-- what is left has an order where these calls lead: they go on to an order of all calls
abbrev pub HasOrderAfter : Contents → List Operation → List ℕ → Type 0
HasOrderAfter start calls path = (tail : List ℕ) × IsOrder start calls (path ++ tail)

-- a call leaves the pairs as they are wherever it may be answered so
abbrev pub LeavesAll : Operation → Type 0
LeavesAll a = (m : Contents) → IsRising m → IsLegalCall m a.call a.response → after_call m a.call a.response ≡ m

-- a completed call that is left and that no call that is left precedes; it gives its reply where
-- these calls lead, and leaves the pairs as they are wherever it may be answered so
pub record IsReadNext (start : Contents) (calls : List Operation) (path : List ℕ) (n : ℕ) : Type 0 where
  pub call : Operation
  pub here : slice_get calls n ≡ Some call
  pub completed : is_completed call ≡ true
  pub new : Contains path n → ⊥
  pub preceded : (m : ℕ) → PrecedesAt calls m n → Contains path m
  pub legal : IsLegalCall (pairs_after start calls path) call.call call.response
  pub leaves : LeavesAll call

-- what is left has an order exactly where it has one that begins with such a call
abbrev pub ReadsGoFirst : Type 0
ReadsGoFirst =
    (start : Contents) (calls : List Operation) (path : List ℕ) (n : ℕ) → IsRising start → IsReadNext start calls path n
    → HasOrderAfter start calls path ↔ HasOrderAfter start calls (path ++ n ∷ [])

-- whether a response reports all that the map answers
abbrev pub is_told_response : Option Response → Bool
is_told_response None = false
is_told_response (Some response) = is_complete response.reply

-- a call with such a response leaves the pairs as they are wherever it may be answered so, where it
-- leaves them so once
abbrev pub ToldCallsLeaveAll : Type 0
ToldCallsLeaveAll =
    (m : Contents) (a : Operation) → is_told_response a.response ≡ true → IsLegalCall m a.call a.response
    → after_call m a.call a.response ≡ m → LeavesAll a
