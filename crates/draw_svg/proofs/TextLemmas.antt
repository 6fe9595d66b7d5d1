-- Texts that grow piece by piece.
use Rattle.std.proofs.Common.{◌≡◌, ℕ, ◌+◌, ◌<◌, List, [], ◌∷◌, ◌++◌, length, map, get_or, take, sym, ap, ◌∙◌}
use Rattle.std.specs.List.{concat}
use Rattle.std.proofs.lemmas.List.{append_assoc, append-nil, map_more}
use Rattle.std.proofs.lemmas.List.Folds.{concat-append}

-- two pieces, one after the other
pub appended : (s0 s1 s2 a b : List ℕ) → s1 ≡ s0 ++ a → s2 ≡ s1 ++ b → s2 ≡ s0 ++ (a ++ b)
appended s0 s1 s2 a b first second = second ∙ (ap (λ s. s ++ b) first ∙ append_assoc s0 a b)

-- one more of the pieces that the elements of a list give
pub pieces-more : {X : Type 0} (piece : X → List ℕ) (xs : List X) (i : ℕ) (d : X) (s0 s1 s2 : List ℕ) → i < length xs
    → s1 ≡ s0 ++ concat (map piece (take i xs)) → s2 ≡ s1 ++ piece (get_or xs i d) → s2 ≡ s0 ++ concat (map piece (take (i + 1) xs))
pieces-more piece xs i d s0 s1 s2 below before step =
    let all : concat (map piece (take (i + 1) xs)) ≡ concat (map piece (take i xs)) ++ piece (get_or xs i d) =
    ap concat (map_more piece xs i d below)
    ∙ (concat-append (map piece (take i xs)) (piece (get_or xs i d) ∷ [])
    ∙ ap (λ rest. concat (map piece (take i xs)) ++ rest) (append-nil (piece (get_or xs i d)))) in
    appended s0 s1 s2 _ _ before step ∙ ap (λ rest. s0 ++ rest) (sym all)
