-- Which of the pairs that calls report come from outside of these calls. Cerone, Bernardi and
-- Gotsman 2015 call such reads of a transaction external.
use Rattle.std.specs.Prelude.{◌≡◌, ◌⊎◌, ◌↔◌, ℕ, ◌==◌, ◌<◌, Bool, false, not, ◌&&◌, ◌||◌, List, Option, Some, None, is_some, AllPairs, Contains}
use Rattle.std.specs.List.{list_any}
use Rattle.events.specs.declared.operation.Operation.{Operation}
use Rattle.events.specs.Keys.{low_key}
use Rattle.map_object.specs.MapObject.{Contents, value_at, is_just}
use Rattle.explain_shrink.specs.Tells.{put_of}
use Rattle.explain_reads_from.specs.Reported.{all_reported}

-- whether this value is put at a key
abbrev pub is_put : Option (Option ℕ) → ℕ → Bool
is_put None value = false
is_put (Some put) value = is_just put value

-- whether a call, as far as its answer says, may put this value at this key in place of another
-- one, or of none
abbrev pub may_put : ℕ × ℕ → Operation → Bool
may_put pair a = low_key a.call == pair.0 && is_put (put_of a.call a.response) pair.1

-- whether a call, as far as its answer says, may put anything at this key, or remove its value
abbrev pub may_change : ℕ → Operation → Bool
may_change key a = low_key a.call == key && is_some (put_of a.call a.response)

-- whether a map with these pairs holds this one
abbrev pub holds : Contents → ℕ × ℕ → Bool
holds m pair = is_just (value_at m pair.0) pair.1

-- whether a pair is the calls' own: one of them may put it, or the map holds it at the start and
-- none of them may change its key
abbrev pub is_internal : Contents → List Operation → ℕ × ℕ → Bool
is_internal start calls pair = list_any (may_put pair) calls || (holds start pair && not (list_any (may_change pair.0) calls))

-- whether a pair comes before another: by key, and at one key by value
abbrev pub IsBelow : ℕ × ℕ → ℕ × ℕ → Type 0
IsBelow p q = (p.0 < q.0) ⊎ ((p.0 ≡ q.0) × (p.1 < q.1))

-- the pairs that the calls report and that are not their own, each once, by rising key and value
pub record AreExternal (start : Contents) (calls : List Operation) (pairs : List (ℕ × ℕ)) : Type 0 where
  pub rising : AllPairs IsBelow pairs
  pub each : (pair : ℕ × ℕ) → Contains pairs pair ↔ (Contains (all_reported calls) pair × (is_internal start calls pair ≡ false))
