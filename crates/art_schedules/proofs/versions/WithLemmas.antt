-- A row put among rows.
use Rattle.art_schedules.proofs.Common.{HeldRow, IsAmong, IsWith, List, [], ap, inl, inr, refl, subst, sym, ◌++◌, ◌∙◌, ◌∷◌, ◌≡◌, ◌≢◌}
use Rattle.std.specs.Prelude.{◌⊎◌}
use Rattle.art_schedules.proofs.Common.{AreDistinct}

pub with-here : (h : HeldRow) (rest all : List HeldRow) → IsWith h rest all → IsAmong h all
with-here h rest [] w = absurd w
with-here h rest (x ∷ xs) (inl e) = inl (sym e.0)
with-here h rest (x ∷ xs) (inr w) = inr (with-here h w.0 xs w.2)

pub with-more : (h : HeldRow) (rest all : List HeldRow) (y : HeldRow) → IsWith h rest all → IsAmong y rest → IsAmong y all
with-more h rest [] y w a = absurd w
with-more h rest (x ∷ xs) y (inl e) a = inr (subst (IsAmong y) e.1 a)
with-more h rest (x ∷ xs) y (inr w) a = elim (subst (IsAmong y) w.1 a) [
  | inl e ↦ inl e
  | inr b ↦ inr (with-more h w.0 xs y w.2 b)
]

pub with-split : (h : HeldRow) (rest all : List HeldRow) (y : HeldRow) → IsWith h rest all → IsAmong y all → (y ≡ h) ⊎ IsAmong y rest
with-split h rest [] y w a = absurd w
with-split h rest (x ∷ xs) y (inl e) (inl s) = inl (s ∙ e.0)
with-split h rest (x ∷ xs) y (inl e) (inr b) = inr (subst (IsAmong y) (sym e.1) b)
with-split h rest (x ∷ xs) y (inr w) (inl s) = inr (subst (IsAmong y) (sym w.1) (inl s))
with-split h rest (x ∷ xs) y (inr w) (inr b) = elim (with-split h w.0 xs y w.2 b) [
  | inl t ↦ inl t
  | inr t ↦ inr (subst (IsAmong y) (sym w.1) (inr t))
]

pub distinct-with : (h : HeldRow) (rest all : List HeldRow) → IsWith h rest all → AreDistinct rest
    → ((y : HeldRow) → IsAmong y rest → h.base ≢ y.base)
    → AreDistinct all
distinct-with h rest [] w d away = absurd w
distinct-with h rest (x ∷ xs) (inl e) d away =
    ((λ z a same. away z (subst (IsAmong z) (sym e.1) a) (ap (λ v. v.base) (sym e.0) ∙ same)), subst AreDistinct e.1 d)
distinct-with h rest (x ∷ xs) (inr w) d away = (
  (λ z a. first z (with-split h w.0 xs z w.2 a)),
  distinct-with h w.0 xs w.2 parts.1
      (λ y b. away y (subst (IsAmong y) (sym w.1) (inr b))),
)
  where
    parts : AreDistinct (x ∷ w.0)
    parts = subst AreDistinct w.1 d

    first : (z : HeldRow) → (z ≡ h) ⊎ IsAmong z w.0 → x.base ≢ z.base
    first z (inl s) same = away x (subst (IsAmong x) (sym w.1) (inl refl)) (ap (λ v. v.base) (sym s) ∙ sym same)
    first z (inr b) same = parts.0 z b same

pub distinct-without : (h : HeldRow) (rest all : List HeldRow) → IsWith h rest all → AreDistinct all
    → AreDistinct rest × ((y : HeldRow) → IsAmong y rest → h.base ≢ y.base)
distinct-without h rest [] w d = absurd w
distinct-without h rest (x ∷ xs) (inl e) d =
    (subst AreDistinct (sym e.1) d.1, λ y a same. d.0 y (subst (IsAmong y) e.1 a) (ap (λ v. v.base) e.0 ∙ same))
distinct-without h rest (x ∷ xs) (inr w) d =
    let later = distinct-without h w.0 xs w.2 d.1 in
    (subst AreDistinct (sym w.1) ((λ z a. d.0 z (with-more h w.0 xs z w.2 a)), later.0), λ y a. apart later.1 y (subst (IsAmong y) w.1 a))
  where
    apart : ((y : HeldRow) → IsAmong y w.0 → h.base ≢ y.base) → (y : HeldRow) → IsAmong y (x ∷ w.0) → h.base ≢ y.base
    apart later y (inl s) same = d.0 h (with-here h w.0 xs w.2) (ap (λ v. v.base) (sym s) ∙ sym same)
    apart later y (inr b) same = later y b same

pub with-last : (h : HeldRow) (xs : List HeldRow) → IsWith h xs (xs ++ h ∷ [])
with-last h [] = inl (refl, refl)
with-last h (x ∷ xs) = inr (xs, refl, with-last h xs)
