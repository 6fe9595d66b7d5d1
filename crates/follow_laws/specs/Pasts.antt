-- What a monitor keeps of a past of some keys: what the keys hold, the calls that are left, and what pending calls found that took effect.
use Rattle.std.specs.Prelude.{◌≡◌, ◌⊎◌, ◌↔◌, ℕ, ◌≤◌, true, false, List, [], ◌∷◌, Option, None, Some, Contains, All}
use Rattle.std.specs.List.{AllZip}
use Rattle.events.specs.declared.operation.Operation.{Operation}
use Rattle.events.specs.declared.operation.Response.{Response}
use Rattle.events.specs.Keys.{low_key, high_key}
use Rattle.map_object.specs.MapObject.{Contents, value_at}
use Rattle.orders.specs.Orders.{after_call}
use Rattle.follow_laws.specs.KeyedCalls.{KeyedCall, is_completed, keyed}
use Rattle.follow_laws.specs.Choices.{Choice}
use Rattle.follow_laws.specs.Cuts.{Keys}
use Rattle.follow_laws.specs.Apart.{IsAlikeAt, IsRead}
use Rattle.follow_laws.specs.Parts.{AgreesAt, left_at}
use Rattle.follow_laws.specs.Steps.{IsLeftAt}
use Rattle.follow_laws.specs.Operations.{AreLeftCalls, AreOfLeftCalls, without_call}
use Rattle.follow_laws.specs.Left.{HasKeysIn, HaveTheirKeys}

-- what a call found at a key when it took effect
pub record FoundAt : Type 0 where
  pub inv : ℕ
  pub key : ℕ
  pub value : Option ℕ

pub record KeptPast : Type 0 where
  pub pairs : Contents
  pub left : List Operation
  pub found : List FoundAt

-- a get or a scan that is pending
abbrev pub IsOpenRead : KeyedCall → Type 0
IsOpenRead a = (is_completed a ≡ false) × IsRead a

-- what is left of calls that were not refused is among the operations, except for pending reads
abbrev pub AreAllKept : Keys → Choice → List KeyedCall → List Operation → Type 0
AreAllKept keys past calls left =
    (a : KeyedCall) → Contains calls a → a.refused ≡ false → IsLeftAt keys past a
    → ((o : Operation) × Contains left o × IsAlikeAt keys (left_at keys past a) (keyed o)) ⊎ IsOpenRead a

-- no call of these keys is pending in the list but such of one key
abbrev pub ArePointsOrAnswered : List Operation → Type 0
ArePointsOrAnswered left = All (λ o. (o.response ≡ None) → low_key o.call ≡ high_key o.call) left

-- for pending calls that took effect at these keys, the past keeps what they found
pub record AreFound (keys : Keys) (past : Choice) (calls : List KeyedCall) (found : List FoundAt) : Type 0 where
  pub right : (f : FoundAt) → Contains found f → (keys f.key ≡ true) × (past.taken f.inv f.key ≡ true) × (past.found f.inv f.key ≡ f.value)
  pub whole : (a : KeyedCall) (key : ℕ) → Contains calls a → is_completed a ≡ false → keys key ≡ true → past.taken a.inv key ≡ true
      → (f : FoundAt) × Contains found f × (f.inv ≡ a.inv) × (f.key ≡ key)

-- a past as code sees it, `kept`, is this choice of the laws, at some keys and after these calls
pub record IsPast (keys : Keys) (calls : List KeyedCall) (kept : KeptPast) (past : Choice) : Type 0 where
  pub alike : AreLeftCalls keys past calls kept.pairs kept.left
  pub owned : AreOfLeftCalls keys past calls kept.left
  pub whole : AreAllKept keys past calls kept.left
  pub agrees : All (AgreesAt keys past) calls
  pub own : HaveTheirKeys calls kept.left
  pub within : All (HasKeysIn keys) kept.left
  pub points : ArePointsOrAnswered kept.left
  pub untaken : (o : Operation) (key : ℕ) → Contains kept.left o → keys key ≡ true → past.taken o.inv key ≡ false
  pub known : (inv key : ℕ) → keys key ≡ true → past.taken inv key ≡ true
      → (a : KeyedCall) × Contains calls a × (a.inv ≡ inv) × (a.concerns key ≡ true)
  pub found : AreFound keys past calls kept.found

-- pasts as code sees them are these choices of the laws
abbrev pub ArePasts : Keys → List KeyedCall → List KeptPast → List Choice → Type 0
ArePasts keys calls kept pasts = AllZip (IsPast keys calls) kept pasts

-- what an operation finds that takes effect at these pairs: nothing is saved of it if the operation was answered
abbrev pub found_by : Contents → Operation → Option Response → List FoundAt
found_by pairs o None = record { inv = o.inv; key = low_key o.call; value = value_at pairs (low_key o.call) } ∷ []
found_by pairs o (Some response) = []

-- a past after an operation that is left
pub record IsPastAfter (kept : KeptPast) (o : Operation) (next : KeptPast) : Type 0 where
  pub pairs : next.pairs ≡ after_call kept.pairs o.call o.response
  pub left : next.left ≡ without_call o.inv kept.left
  pub found : (f : FoundAt) → Contains next.found f ↔ (Contains kept.found f ⊎ Contains (found_by kept.pairs o o.response) f)

-- a past has a call left, or keeps what it found at its key
abbrev pub IsLeftOrFound : KeptPast → Operation → Type 0
IsLeftOrFound kept o = Contains kept.left o ⊎ ((f : FoundAt) × Contains kept.found f × (f.inv ≡ o.inv) × (f.key ≡ low_key o.call))

-- some operation of a list has this invocation
abbrev pub HasInvocation : List Operation → ℕ → Type 0
HasInvocation left inv = (o : Operation) × Contains left o × (o.inv ≡ inv)

-- two pasts are alike: calls of the same invocations are left, and the same was found
pub record AreKeptAlike (kept other : KeptPast) : Type 0 where
  pub pairs : other.pairs ≡ kept.pairs
  pub left : (inv : ℕ) → HasInvocation kept.left inv ↔ HasInvocation other.left inv
  pub found : (f : FoundAt) → Contains kept.found f ↔ Contains other.found f

-- a past has a call of one key left, or keeps what it found there
abbrev pub IsNameKept : KeptPast → KeyedCall → Type 0
IsNameKept kept a =
    HasInvocation kept.left a.inv
    ⊎ ((f : FoundAt) × Contains kept.found f × (f.inv ≡ a.inv) × ((key : ℕ) → a.concerns key ≡ true → f.key ≡ key))

-- Pending reads of these keys began no earlier than a place, unless the past has them. A replacement of a value by the same value is a read
-- that the past may have.
abbrev pub OpenReadsBeganAfter : Keys → ℕ → List KeyedCall → KeptPast → Type 0
OpenReadsBeganAfter keys limit calls kept =
    (a : KeyedCall) (key : ℕ) → Contains calls a → IsOpenRead a → keys key ≡ true → a.concerns key ≡ true → (limit ≤ a.inv) ⊎ IsNameKept kept a
