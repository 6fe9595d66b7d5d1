-- What a monitor keeps of the calls so far: parts of the keys, each with the pasts that its keys may have.
use Rattle.std.specs.Prelude.{◌≡◌, ℕ, ◌<◌, true, List, [], None, map, All, AllPairs, Contains}
use Rattle.std.specs.List.{AllZip}
use Rattle.events.specs.declared.operation.Operation.{Operation}
use Rattle.events.specs.Keys.{low_key, may_change}
use Rattle.map_object.specs.MapObject.{Contents, value_at}
use Rattle.follow_laws.specs.KeyedCalls.{keyed}
use Rattle.follow_laws.specs.Forms.{HaveForms}
use Rattle.follow_laws.specs.Growth.{HaveGrown}
use Rattle.follow_laws.specs.Cuts.{Keys}
use Rattle.follow_laws.specs.Parts.{Part, Represent}
use Rattle.follow_laws.specs.Pasts.{FoundAt, KeptPast, ArePasts, IsLeftOrFound}

-- keys that have their pasts in common, and those pasts
pub record KeptPart : Type 0 where
  pub keys : Keys
  pub pasts : List KeptPast

-- a past of no calls: the keys hold these pairs
abbrev pub at_rest : Contents → KeptPast
at_rest pairs = record { pairs = pairs; left = []; found = [] }

-- the calls of a stream, before its event at this place
pub record AreCallsBefore (place : ℕ) (calls : List Operation) : Type 0 where
  pub grown : HaveGrown place (map keyed calls) (map keyed calls)
  pub rising : AllPairs (λ a b. a.inv < b.inv) calls
  pub forms : HaveForms calls

-- A call that is left is a call of the stream, and no pending read. What was found was found by a pending call that may change the map.
pub record IsOfCalls (calls : List Operation) (kept : KeptPast) : Type 0 where
  pub left : All (Contains calls) kept.left
  pub changes : All (λ o. o.response ≡ None → may_change o.call ≡ true) kept.left
  pub found : (f : FoundAt) → Contains kept.found f
      → (a : Operation) × Contains calls a × (a.inv ≡ f.inv) × (a.response ≡ None) × (may_change a.call ≡ true)

-- A past of some keys is one of the calls. A pending call that may change the map, and has its key there, is left, or the past has what it
-- found.
pub record IsOwn (keys : Keys) (calls : List Operation) (kept : KeptPast) : Type 0 where
  pub of_calls : IsOfCalls calls kept
  pub whole : (o : Operation) → Contains calls o → o.response ≡ None → may_change o.call ≡ true → keys (low_key o.call) ≡ true
      → IsLeftOrFound kept o

-- a part as code sees it is this part of the laws
pub record IsKeptAs (calls : List Operation) (kept : KeptPart) (part : Part) : Type 0 where
  pub keys : part.keys ≡ kept.keys
  pub pasts : ArePasts kept.keys (map keyed calls) kept.pasts part.pasts
  pub own : All (IsOwn kept.keys calls) kept.pasts

-- Parts are kept for the calls of a stream before its event at a place. That is, some choices that have these pasts represent these calls,
-- whatever events follow.
pub record AreKept (start : Contents) (place : ℕ) (calls : List Operation) (kept : List KeptPart) : Type 0 where
  pub are_calls : AreCallsBefore place calls
  pub parts : List Part
  pub are_parts : AllZip (IsKeptAs calls) kept parts
  pub stand : Represent (value_at start) place (map keyed calls) parts
