-- All that is known of what is left at some keys, if a past has a map and operations.
use Rattle.std.specs.Prelude.{◌≡◌, ◌⊎◌, ℕ, ◌<◌, true, false, if◌then◌else◌, List, filter, Some, All, AllPairs, Contains}
use Rattle.events.specs.declared.operation.Operation.{Operation}
use Rattle.events.specs.declared.operation.Response.{Response}
use Rattle.map_object.specs.MapObject.{Contents, IsRising, value_at}
use Rattle.follow_laws.specs.KeyedCalls.{KeyedCall, concerns_key}
use Rattle.follow_laws.specs.Choices.{Choice}
use Rattle.follow_laws.specs.Cuts.{Keys}
use Rattle.follow_laws.specs.Parts.{AgreesAt}
use Rattle.follow_laws.specs.Operations.{AreLeftCalls, AreOfLeftCalls, AreAllLeft, HasSomeKeyIn}

-- a past of some keys, as a map of what they hold and the operations that are left of calls: of those that began before a limit all are there
pub record IsLeft (keys : Keys) (past : Choice) (limit : ℕ) (calls : List KeyedCall) (pairs : Contents) (left : List Operation) : Type 0 where
  pub alike : AreLeftCalls keys past calls pairs left
  pub owned : AreOfLeftCalls keys past calls left
  pub whole : AreAllLeft keys past limit calls left
  pub agrees : All (AgreesAt keys past) calls

-- all keys of a call are among these, or none
abbrev pub HasKeysIn : Keys → Operation → Type 0
HasKeysIn keys o = (key : ℕ) → concerns_key o.call key ≡ true → keys key ≡ true

abbrev pub HasNoKeyIn : Keys → Operation → Type 0
HasNoKeyIn keys o = (key : ℕ) → keys key ≡ true → concerns_key o.call key ≡ false

-- operations that began before a place, and have some key among these, have all
abbrev pub HaveKeysTogether : Keys → ℕ → List Operation → Type 0
HaveKeysTogether keys place left = (o : Operation) → Contains left o → o.inv < place → HasSomeKeyIn keys o → HasKeysIn keys o

-- an operation that is left has all keys of the call of its name
abbrev pub HaveTheirKeys : List KeyedCall → List Operation → Type 0
HaveTheirKeys calls left =
    (o : Operation) (a : KeyedCall) → Contains left o → Contains calls a → a.inv ≡ o.inv → (key : ℕ) → a.concerns key ≡ true
    → concerns_key o.call key ≡ true

-- a call that is pending is not taken at any of these keys, or it is at all of its own
abbrev pub IsNotTakenAt : Keys → Choice → ℕ → Type 0
IsNotTakenAt keys past inv = (key : ℕ) → keys key ≡ true → past.taken inv key ≡ false

abbrev pub IsTakenAt : Keys → Choice → Operation → Type 0
IsTakenAt keys past o = (key : ℕ) → keys key ≡ true → concerns_key o.call key ≡ true → past.taken o.inv key ≡ true

-- an operation with this answer
abbrev pub answered : Response → Operation → Operation
answered response o = record { inv = o.inv; call = o.call; response = Some response }

-- the pairs and the operations of two sets of keys together
pub record AreTogether (keys : Keys) (pairs others both : Contents) (left other_left all : List Operation) : Type 0 where
  pub rises : IsRising both
  pub values : (key : ℕ) → value_at both key ≡ (if keys key then value_at pairs key else value_at others key)
  pub rising : AllPairs (λ o p. o.inv < p.inv) all
  pub from : (o : Operation) → Contains all o → Contains left o ⊎ Contains other_left o
  pub first : (o : Operation) → Contains left o → Contains all o
  pub second : (o : Operation) → Contains other_left o → Contains all o

-- those at some keys only
abbrev pub pairs_at : Keys → Contents → Contents
pairs_at keys pairs = filter (λ pair. keys pair.0) pairs
