-- A list cut at a place.
use Rattle.events.proofs.Common.{◌≡◌, ℕ, ◌+◌, ◌<◌, List, ◌∷◌, ◌++◌, length, take, drop, get_or, sym, ap, ◌∙◌, add-one, drop-cons, take-append-drop}

-- what comes before a place, the element there, and what comes after it
pub parts_at : {A : Type 0} (xs : List A) (i : ℕ) (x : A) → i < length xs → x ≡ get_or xs i x → xs ≡ take i xs ++ x ∷ drop (i + 1) xs
parts_at xs i x within here = sym (take-append-drop i xs) ∙ ap (λ rest. take i xs ++ rest) (drop-cons xs i x within ∙ rw (add-one, ← here))
