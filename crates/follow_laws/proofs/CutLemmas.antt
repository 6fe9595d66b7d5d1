-- Walks up to a past moment.
use Rattle.follow_laws.proofs.Common.{◌≡◌, ℕ, Bool, true, false, not, ◌&&◌, cond, List, [], ◌∷◌, map, Option, inl, inr, refl, ◌⊎◌, KeyedCall}
use Rattle.follow_laws.proofs.Common.{no_effect, IsNoEffect, IsFormed, FitInTurn, Choice, rest_of, Keys, IsWithin, IsOutside, only}
use Rattle.follow_laws.proofs.EffectRestLemmas.{none_none}

bool_cases : (b : Bool) → (b ≡ true) ⊎ (b ≡ false)
bool_cases true = inl refl
bool_cases false = inr refl

-- with some keys only, calls fit there as they do, one after another, and leave what they leave
-- there
pub fit_only : (keys : Keys) (key : ℕ) (calls : List KeyedCall) (value : Option ℕ) → FitInTurn key value calls
    → FitInTurn key value (map (only keys) calls)
fit_only keys key calls value fit = by_key (bool_cases (keys key)) calls value fit
  where
    same : keys key ≡ true → (xs : List KeyedCall) (v : Option ℕ) → FitInTurn key v xs → FitInTurn key v (map (only keys) xs)
    same is [] v fits = tt
    same is (x ∷ xs) v fits = rw is (fits.0, same is xs ((x.effect key).leaves v) fits.1)

    none : keys key ≡ false → (xs : List KeyedCall) (v : Option ℕ) → FitInTurn key v (map (only keys) xs)
    none is [] v = tt
    none is (x ∷ xs) v = rw is (refl, none is xs v)

    by_key : (keys key ≡ true) ⊎ (keys key ≡ false) → (xs : List KeyedCall) (v : Option ℕ) → FitInTurn key v xs → FitInTurn key v (map (only keys) xs)
    by_key (inl is) xs v fits = same is xs v fits
    by_key (inr is) xs v fits = none is xs v

-- what is left of a call that concerns only other keys has no effect at these
pub outside_none : (keys : Keys) (w : Choice) (a : KeyedCall) → IsFormed a → IsOutside keys (rest_of w a) → (key : ℕ) → keys key ≡ true
    → IsNoEffect ((rest_of w a).effect key)
outside_none keys w a formed outside key is = by_taken (w.taken a.inv key) refl (outside key is)
  where
    by_taken : (t : Bool) → w.taken a.inv key ≡ t → (not (w.taken a.inv key) && a.concerns key) ≡ false
        → IsNoEffect (cond (w.taken a.inv key) no_effect (a.effect key))
    by_taken true t_is never = rw t_is none_none
    by_taken false t_is never = rw t_is (formed.elsewhere key (rw t_is at never))

pub within_none : (keys : Keys) (w : Choice) (a : KeyedCall) → IsFormed a → IsWithin keys (rest_of w a) → (key : ℕ) → keys key ≡ false
    → IsNoEffect ((rest_of w a).effect key)
within_none keys w a formed within key is = by_taken (w.taken a.inv key) refl (within key is)
  where
    by_taken : (t : Bool) → w.taken a.inv key ≡ t → (not (w.taken a.inv key) && a.concerns key) ≡ false
        → IsNoEffect (cond (w.taken a.inv key) no_effect (a.effect key))
    by_taken true t_is never = rw t_is none_none
    by_taken false t_is never = rw t_is (formed.elsewhere key (rw t_is at never))
