-- Which keys are at rest.
use Rattle.std.specs.Prelude.{◌≡◌, ◌⊎◌, ◌↔◌, ℕ, ◌==◌, ◌&&◌, ◌||◌, true, false, not, nat_le, List, [], ◌∷◌, Some, All, Any}
use Rattle.std.specs.List.{AllZip, list_any}
use Rattle.events.specs.declared.operation.Operation.{Operation}
use Rattle.events.specs.Keys.{low_key, high_key}
use Rattle.map_object.specs.MapObject.{Contents, value_at}
use Rattle.follow_laws.specs.KeyedCalls.{concerns_key}
use Rattle.follow_laws.specs.Cuts.{Keys}
use Rattle.follow_laws.specs.Left.{pairs_at}
use Rattle.follow_cuts.specs.declared.past.Found.{Found}
use Rattle.follow_cuts.specs.declared.past.Past.{Past}
use Rattle.follow_pasts.specs.Ranges.{covered}
use Rattle.follow_pasts.specs.declared.ranges.Range.{Range}

-- busy keys are those of calls that are left, those where something was found, and those where a past differs from the first one
pub record IsBusyFor (first past : Past) (busy : Keys) : Type 0 where
  pub calls : All (λ o. (key : ℕ) → concerns_key o.call key ≡ true → busy key ≡ true) past.calls.items
  pub found : All (λ f. busy f.key ≡ true) past.found.items
  pub same : (key : ℕ) → busy key ≡ false → value_at past.map key ≡ value_at first.map key

-- a past says something of a key
abbrev pub IsOfKey : ℕ → Past → Type 0
IsOfKey key past =
    Any (λ o. concerns_key o.call key ≡ true) past.calls.items ⊎ Any (λ f. f.key ≡ key) past.found.items
    ⊎ ((value : ℕ) × (value_at past.map key ≡ Some value))

abbrev pub AreBusyFor : List Past → Keys → Type 0
AreBusyFor [] busy = (key : ℕ) → busy key ≡ false
AreBusyFor (first ∷ pasts) busy = All (λ past. IsBusyFor first past busy) (first ∷ pasts)

pub record AreBusy (pasts : List Past) (busy : Keys) : Type 0 where
  pub all : AreBusyFor pasts busy
  pub only : (key : ℕ) → busy key ≡ true → Any (IsOfKey key) pasts

abbrev pub AreResting : Keys → Contents → Contents → Type 0
AreResting busy pairs left = left ≡ pairs_at (λ key. not (busy key)) pairs

-- a past with the pairs of busy keys only
pub record IsOnly (busy : Keys) (past only : Past) : Type 0 where
  pub pairs : only.map ≡ pairs_at busy past.map
  pub calls : only.calls.items ≡ past.calls.items
  pub found : only.found.items ≡ past.found.items

abbrev pub AreOnly : Keys → List Past → List Past → Type 0
AreOnly busy pasts left = AllZip (IsOnly busy) pasts left

-- the keys of calls, of what was found, and of pairs that are not among other pairs, in further ranges
abbrev pub HasCalls : List Operation → List Range → List Range → Type 0
HasCalls calls old new =
    (key : ℕ) → covered new key ≡ (covered old key || list_any (λ o. nat_le (low_key o.call) key && nat_le key (high_key o.call)) calls)

abbrev pub HasFound : List Found → List Range → List Range → Type 0
HasFound found old new = (key : ℕ) → covered new key ≡ (covered old key || list_any (λ f. f.key == key) found)

abbrev pub HasDiffering : Contents → Contents → List Range → List Range → Type 0
HasDiffering pairs others old new =
    (key : ℕ) → (covered new key ≡ true)
    ↔ ((covered old key ≡ true) ⊎ ((value : ℕ) × (value_at pairs key ≡ Some value) × (value_at others key ≡ Some value → ⊥)))
