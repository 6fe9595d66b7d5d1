-- Sets of keys that are judged apart: each call concerns only one of both, or is a scan that the calls of one of both do not disturb.
use Rattle.std.specs.Prelude.{◌≡◌, ◌⊎◌, ℕ, true, false, not, ◌&&◌, if◌then◌else◌, List, Option, None, All, AllPairs, Contains}
use Rattle.follow_laws.specs.KeyedCalls.{KeyedCall, IsNoEffect, no_effect, is_completed, precedes}
use Rattle.follow_laws.specs.KeyedOrders.{AreDistinct}
use Rattle.follow_laws.specs.Cuts.{Keys, IsWithin, IsOutside}

-- a call as it is at some keys only
abbrev pub only : Keys → KeyedCall → KeyedCall
only keys a = record {
  inv = a.inv;
  res = a.res;
  refused = a.refused;
  concerns = λ key. keys key && a.concerns key;
  effect = λ key. if keys key then a.effect key else no_effect;
}

-- the other keys
abbrev pub other_keys : Keys → Keys
other_keys keys key = not (keys key)

-- if it fits, a call leaves the key as it is
abbrev pub IsQuiet : KeyedCall → ℕ → Type 0
IsQuiet a key = (value : Option ℕ) → (a.effect key).fits value ≡ true → (a.effect key).leaves value ≡ value

abbrev pub IsRead : KeyedCall → Type 0
IsRead a = (key : ℕ) → IsQuiet a key

-- none of the calls that may change one of these keys overlaps a scan over it: each of them precedes the scan, or the scan precedes it
abbrev pub IsUndisturbed : Keys → List KeyedCall → KeyedCall → Type 0
IsUndisturbed keys calls s =
    (a : KeyedCall) (key : ℕ) → Contains calls a → keys key ≡ true → s.concerns key ≡ true
    → IsQuiet a key ⊎ (precedes a s ≡ true) ⊎ (precedes s a ≡ true)

-- a call parts both sets
abbrev pub Parts : Keys → List KeyedCall → KeyedCall → Type 0
Parts keys calls s =
    IsWithin keys s ⊎ IsOutside keys s
    ⊎ (IsRead s × ((is_completed s ≡ false) ⊎ IsUndisturbed keys calls s ⊎ IsUndisturbed (other_keys keys) calls s))

-- no key is of both sets
abbrev pub AreApart : Keys → Keys → Type 0
AreApart keys others = (key : ℕ) → keys key ≡ true → others key ≡ false

-- Many sets of keys. No two of them share a key, and each call parts each of them from the others. At other keys no call has an effect.
pub record AreParts (parts : List Keys) (calls : List KeyedCall) : Type 0 where
  pub apart : AllPairs AreApart parts
  pub parted : All (λ keys. All (Parts keys calls) calls) parts
  pub elsewhere : (a : KeyedCall) (key : ℕ) → Contains calls a → All (λ keys. keys key ≡ false) parts → IsNoEffect (a.effect key)

-- At some keys a call is like another: it has the same places, and the same effect there. Elsewhere one has no effect, and the other leaves a
-- key without a value as it is. A scan that reported no such key does that.
pub record IsAlikeAt (keys : Keys) (a b : KeyedCall) : Type 0 where
  pub inv : b.inv ≡ a.inv
  pub res : b.res ≡ a.res
  pub fits : (key : ℕ) (value : Option ℕ) → keys key ≡ true → (b.effect key).fits value ≡ (a.effect key).fits value
  pub leaves : (key : ℕ) (value : Option ℕ) → keys key ≡ true → (b.effect key).leaves value ≡ (a.effect key).leaves value
  pub none : (key : ℕ) → keys key ≡ false → IsNoEffect (a.effect key)
  pub fits_none : (key : ℕ) → keys key ≡ false → (b.effect key).fits None ≡ true
  pub leaves_none : (key : ℕ) → keys key ≡ false → (b.effect key).leaves None ≡ None

-- calls that are alike at some keys, and what these keys hold, while the other keys hold nothing
pub record AreAlike (keys : Keys) (held other : ℕ → Option ℕ) (calls alike : List KeyedCall) : Type 0 where
  pub same : (key : ℕ) → keys key ≡ true → other key ≡ held key
  pub nothing : (key : ℕ) → keys key ≡ false → other key ≡ None
  pub there : (a : KeyedCall) → Contains calls a → (b : KeyedCall) × Contains alike b × IsAlikeAt keys a b
  pub back : (b : KeyedCall) → Contains alike b → (a : KeyedCall) × Contains calls a × IsAlikeAt keys a b
  pub one : AreDistinct calls
  pub other_one : AreDistinct alike
