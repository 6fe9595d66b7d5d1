-- How parts become one.
use Rattle.std.specs.Prelude.{◌≡◌, ◌⊎◌, ◌↔◌, ℕ, ◌<◌, ◌&&◌, ◌||◌, true, not, if◌then◌else◌, List, [], ◌∷◌, ◌++◌, map, None, All, AllPairs, Any, Contains}
use Rattle.std.specs.List.{AllZip}
use Rattle.events.specs.declared.operation.Operation.{Operation}
use Rattle.map_object.specs.MapObject.{Contents, IsRising, value_at}
use Rattle.follow_laws.specs.Cuts.{Keys}
use Rattle.follow_laws.specs.Left.{pairs_at}
use Rattle.follow_laws.specs.Pasts.{KeptPast}
use Rattle.follow_laws.specs.KeptParts.{KeptPart, AreKept, at_rest}
use Rattle.follow_cuts.specs.PartCuts.{kept_of}
use Rattle.follow_cuts.specs.declared.past.Past.{Past}
use Rattle.follow_pasts.specs.Ranges.{covered, from_to, or_else}
use Rattle.follow_pasts.specs.Views.{kept_part}
use Rattle.follow_pasts.specs.declared.part.Part.{Part}
use Rattle.follow_pasts.specs.declared.ranges.Range.{Range}
use Rattle.follow_pasts.specs.declared.uniting.United.{United}

-- the pairs of a range were taken out
pub record ArePairsOf (low high : ℕ) (old new pairs : Contents) : Type 0 where
  pub taken : pairs ≡ pairs_at (from_to low high) old
  pub left : IsRising new
  pub values : (key : ℕ) → value_at new key ≡ (if from_to low high key then None else value_at old key)

-- the keys at rest of a range, as a part
pub record IsTakenFrom (low high : ℕ) (old new : Contents) (united : United) : Type 0 where
  pub pairs : Contents
  pub taken : ArePairsOf low high old new pairs
  pub keys : (key : ℕ) → covered united.ranges.items key ≡ from_to low high key
  pub pasts : map kept_of united.pasts.items ≡ at_rest pairs ∷ []

-- two pasts of different keys as one
pub record AreOne (past other one : Past) : Type 0 where
  pub rises : IsRising one.map
  pub pairs : (key : ℕ) → value_at one.map key ≡ or_else (value_at other.map key) (value_at past.map key)
  pub rising : AllPairs (λ o p. o.inv < p.inv) one.calls.items
  pub left : (o : Operation) → Contains one.calls.items o ↔ (Contains past.calls.items o ⊎ Contains other.calls.items o)
  pub found : one.found.items ≡ past.found.items ++ other.found.items

-- a past with each of others was added to pasts
pub record HasRow (past : Past) (others old new : List Past) : Type 0 where
  pub row : List Past
  pub is : new ≡ old ++ row
  pub each : AllZip (AreOne past) others row

-- all pairs of two lists of pasts, one after another
abbrev pub AreAllPairs : List Past → List Past → List Past → Type 0
AreAllPairs [] others all = all ≡ []
AreAllPairs (past ∷ pasts) others all =
    (front : List Past) × (back : List Past) × (all ≡ front ++ back) × AllZip (AreOne past) others front × AreAllPairs pasts others back

-- a part was united with others
pub record IsTogetherWith (united : United) (part : Part) (next : United) : Type 0 where
  pub keys : (key : ℕ) → covered next.ranges.items key ≡ (covered united.ranges.items key || covered part.ranges.items key)
  pub own : List Past
  pub own_is : map kept_of own ≡ (kept_part part).pasts
  pub pairs : AreAllPairs united.pasts.items own next.pasts.items

-- a key is one of these parts'
abbrev pub IsIn : List Part → ℕ → Type 0
IsIn parts key = Any (λ part. covered part.ranges.items key ≡ true) parts

-- keys at rest, as a part of the laws
abbrev pub resting : Keys → Contents → KeptPart
resting keys pairs = record { keys = keys; pasts = at_rest pairs ∷ [] }

-- some keys without others
abbrev pub outside : Keys → Keys → Keys
outside keys others key = keys key && not (others key)

-- Parts that meet a range and the keys at rest became a part of these keys and pasts. It has all keys of the range and of the parts. All keys
-- of the range are at rest or in one of these parts.
pub record Become (low high : ℕ) (old new : Contents) (met : List Part) (ranges : List Range) (pasts : List KeptPast) : Type 0 where
  pub rises : IsRising new
  pub spans : (key : ℕ) → from_to low high key ≡ true → covered ranges key ≡ true
  pub within : (key : ℕ) → covered ranges key ≡ true → (from_to low high key ≡ true) ⊎ IsIn met key
  pub of_parts : (key : ℕ) → IsIn met key → covered ranges key ≡ true
  pub leads : (start : Contents) (place : ℕ) (calls : List Operation) (keys : Keys) (more : List KeptPart)
      → ((key : ℕ) → from_to low high key ≡ true → (keys key ≡ true) ⊎ IsIn met key)
      → AreKept start place calls (resting keys old ∷ map kept_part met ++ more)
      → AreKept start place calls (resting (outside keys (covered ranges)) new ∷ record { keys = covered ranges; pasts = pasts } ∷ more)
  pub own : All (λ past. All (λ o. Any (λ part. Any (λ other. Contains other.left o) (kept_part part).pasts) met) past.left) pasts

abbrev pub IsUnited : ℕ → ℕ → Contents → Contents → List Part → United → Type 0
IsUnited low high old new met united = Become low high old new met united.ranges.items (map kept_of united.pasts.items)
