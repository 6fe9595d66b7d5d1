-- What holds of the elements of two lists, pair by pair.
use Rattle.events.proofs.Common.{◌≡◌, ℕ, zero, suc, List, [], ◌∷◌, Some, refl, subst, slice_get, AllZip, none-some, same_Some}

-- each element of the first of two lists has the one of the second at its place
pub zip_left : {A B : Type 0} (R : A → B → Type 0) (xs : List A) (ys : List B) (i : ℕ) (x : A) → AllZip R xs ys
    → slice_get xs i ≡ Some x → (y : B)
    × (slice_get ys i ≡ Some y) × R x y
zip_left R [] ys i x h is = absurd (none-some x is)
zip_left R (z ∷ xs) [] i x h is = absurd h
zip_left R (z ∷ xs) (y ∷ ys) zero x h is = (y, refl, subst (λ w. R w y) (same_Some z x is) h.0)
zip_left R (z ∷ xs) (y ∷ ys) (suc i) x h is = zip_left R xs ys i x h.1 is

-- each element of the second of two lists has the one of the first at its place
pub zip_right : {A B : Type 0} (R : A → B → Type 0) (xs : List A) (ys : List B) (i : ℕ) (y : B) → AllZip R xs ys
    → slice_get ys i ≡ Some y → (x : A)
    × (slice_get xs i ≡ Some x) × R x y
zip_right R xs [] i y h is = absurd (none-some y is)
zip_right R [] (z ∷ ys) i y h is = absurd h
zip_right R (x ∷ xs) (z ∷ ys) zero y h is = (x, refl, subst (λ w. R x w) (same_Some z y is) h.0)
zip_right R (x ∷ xs) (z ∷ ys) (suc i) y h is = zip_right R xs ys i y h.1 is
