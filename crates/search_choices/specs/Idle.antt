-- Pending calls that need not be tried in the state of a search: no completed call that could be
-- the next one waits for them.
use Rattle.std.specs.Prelude.{◌≡◌, ◌⊎◌, ℕ, ◌≤◌, ◌∷◌, ◌++◌, Bool, true, List, Some, None, slice_get, All, Contains, IsSomeAnd}
use Rattle.events.specs.declared.operation.Operation.{Operation}
use Rattle.events.specs.Keys.{low_key, high_key}
use Rattle.events.specs.Precedence.{is_completed}
use Rattle.map_object.specs.MapObject.{Contents, after, value_at}
use Rattle.orders.specs.Orders.{IsLegalCall, IsOrder, after_calls}
use Rattle.search.specs.Standing.{pairs_after}
use Rattle.orders.proofs.RangeLemmas.{IsOutside}

-- a pending call that is left, and was not invoked after a place: it may come next where that is
-- the earliest answer
pub record IsOpenNext (calls : List Operation) (path : List ℕ) (answered : ℕ) (p : Operation) : Type 0 where
  pub n : ℕ
  pub here : slice_get calls n ≡ Some p
  pub new : Contains path n → ⊥
  pub pending : p.response ≡ None
  pub early : p.inv ≤ answered

-- none of them changes a key from low to high
abbrev pub IsFree : List Operation → List ℕ → ℕ → ℕ → ℕ → Type 0
IsFree calls path answered low high = (p : Operation) → IsOpenNext calls path answered p → IsOutside low high p.call

-- a call is not legal, whichever of them are taken before it
abbrev pub IsBarred : Contents → List Operation → List ℕ → ℕ → Operation → Type 0
IsBarred m calls path answered a =
    (front : List Operation) → All (IsOpenNext calls path answered) front → IsLegalCall (after_calls m front) a.call a.response → ⊥

-- a call waits for none of them: they change none of its keys, or it is not legal after any of
-- them
abbrev pub WaitsForNone : Contents → List Operation → List ℕ → ℕ → Operation → Type 0
WaitsForNone m calls path answered a =
    IsFree calls path answered (low_key a.call) (high_key a.call) ⊎ IsBarred m calls path answered a

-- a completed call that is left, and was not invoked after the place
pub record IsDoneNext (calls : List Operation) (path : List ℕ) (answered n : ℕ) (a : Operation) : Type 0 where
  pub here : slice_get calls n ≡ Some a
  pub new : Contains path n → ⊥
  pub completed : is_completed a ≡ true
  pub early : a.inv ≤ answered

-- no completed call that could come next waits for one of the pending ones
abbrev pub AreIdle : Contents → List Operation → List ℕ → ℕ → Type 0
AreIdle m calls path answered = (n : ℕ) (a : Operation) → IsDoneNext calls path answered n a → WaitsForNone m calls path answered a

-- a pair is within a range of keys, and not in the map, and none of the pending calls changes its
-- key
pub record IsMissing (m : Contents) (calls : List Operation) (path : List ℕ) (answered low high key value : ℕ) : Type 0 where
  pub above : low ≤ key
  pub below : key ≤ high
  pub missing : value_at m key ≡ Some value → ⊥
  pub free : IsFree calls path answered key key

-- one of these pairs is so
abbrev pub MissesPair : Contents → List Operation → List ℕ → ℕ → ℕ → ℕ → Contents → Type 0
MissesPair m calls path answered low high pairs =
    (pair : ℕ × ℕ) × Contains pairs pair × IsMissing m calls path answered low high pair.0 pair.1

-- a pending call would change nothing
abbrev pub IsVain : Contents → List Operation → ℕ → Type 0
IsVain m calls n = IsSomeAnd (slice_get calls n) (λ p. (p.response ≡ None) × (after m p.call ≡ m))

-- a call is passed over: it is pending, and pending ones are idle, or it would change nothing
abbrev pub IsPassedOver : Bool → Contents → List Operation → ℕ → Type 0
IsPassedOver idle m calls n = ((idle ≡ true) × IsSomeAnd (slice_get calls n) (λ p. p.response ≡ None)) ⊎ IsVain m calls n

-- a pending call that would change nothing is left out: what is left has an order without it
abbrev pub VainCallsAreLeftOut : Type 0
VainCallsAreLeftOut =
    (start : Contents) (calls : List Operation) (path tail : List ℕ) (n : ℕ) → IsVain (pairs_after start calls path) calls n
    → IsOrder start calls (path ++ n ∷ tail) → IsOrder start calls (path ++ tail)
