-- What cuts make of the pasts of some keys, as they are kept.
use Rattle.std.specs.Prelude.{◌≡◌, ℕ, ◌<◌, ◌≤◌, false, List, ◌++◌, length, map, All, AllPairs, Any, Contains, ⊤}
use Rattle.events.specs.Precedence.{is_before, NonePrecedesItself}
use Rattle.follow_laws.specs.Pasts.{FoundAt, KeptPast, AreKeptAlike}
use Rattle.follow_laws.specs.Leads.{Leads, IsMadeOf}
use Rattle.follow_cuts.specs.declared.past.Found.{Found}
use Rattle.follow_cuts.specs.declared.past.Past.{Past}
use Rattle.follow_cuts.specs.declared.cut.Cut.{Cut}
use Rattle.follow_cuts.specs.declared.cut.Cut.TheVariants.{Pasts, Spent}

-- what is kept of a past
abbrev pub found_at : Found → FoundAt
found_at f = record { inv = f.inv; key = f.key; value = f.value }

abbrev pub kept_of : Past → KeptPast
kept_of past = record { pairs = past.map; left = past.calls.items; found = map found_at past.found.items }

-- the calls of pasts are sorted by invocation, and none precedes itself
abbrev pub AreShaped : List Past → Type 0
AreShaped pasts = All (λ past. AllPairs (λ a b. a.inv < b.inv) past.calls.items × NonePrecedesItself past.calls.items) pasts

-- at the moment, these pasts may replace those, among any further ones
abbrev pub Becomes : ℕ → List KeptPast → List KeptPast → Type 0
Becomes moment kept nexts = (others : List KeptPast) → Leads moment (kept ++ others) (nexts ++ others)

-- some of the pasts, among which each is kept alike
pub record AreEnough (kept some : List KeptPast) : Type 0 where
  pub there : (a : KeptPast) → Contains kept a → (b : KeptPast) × Contains some b × AreKeptAlike a b
  pub back : (b : KeptPast) → Contains some b → Contains kept b

-- nothing is left that ended before the moment
abbrev pub IsCutAt : ℕ → KeptPast → Type 0
IsCutAt moment kept = All (λ o. is_before o.response moment ≡ false) kept.left

-- pasts at the moment, which replace the others: each is made of one of these, with nothing left
-- that ended before the moment
pub record AreCut (moment most : ℕ) (pasts made : List Past) : Type 0 where
  pub leads : Leads moment (map kept_of pasts) (map kept_of made)
  pub made_of : All (λ next. Any (λ past. IsMadeOf past next) (map kept_of pasts)) (map kept_of made)
  pub cut : All (λ past. IsCutAt moment (kept_of past)) made
  pub shaped : AreShaped made
  pub few : length made ≤ most

-- what becomes of a cut: pasts at the moment, no more than allowed; or it is spent
abbrev pub IsMade : ℕ → ℕ → List Past → Cut → Type 0
IsMade moment most pasts (Pasts made) = AreCut moment most pasts made.items
IsMade moment most pasts Spent = ⊤
