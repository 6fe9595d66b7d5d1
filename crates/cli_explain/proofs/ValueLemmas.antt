-- The values of a list, pushed one by one.
use Rattle.cli_explain.proofs.Common.{◌≡◌, ℕ, ◌+◌, ◌<◌, List, [], ◌∷◌, ◌++◌, length, map, take, sym, ap, ◌∙◌, slice_index_or, map-append, map_more}
use Rattle.cli_explain.proofs.Common.{view}
use Rattle.serde_json.specs.Data.{Data}
use Rattle.serde_json.specs.declared.value.Value.{Value}

-- after the values of those so far, that of the next
pub pushed : {X : Type 0} (f : X → Data) (items : List Value) (value : Value) (xs : List X) (i : ℕ) (x : X) → i < length xs
    → x ≡ slice_index_or xs i x → map view items ≡ map f (take i xs) → view value ≡ f x
    → map view (items ++ value ∷ []) ≡ map f (take (i + 1) xs)
pushed f items value xs i x below is so_far told =
    map-append view items (value ∷ [])
    ∙ ((λ j. so_far j ++ told j ∷ [])
    ∙ (ap (λ y. map f (take i xs) ++ f y ∷ []) is ∙ sym (map_more f xs i x below)))

-- after the values of those so far, a copy of that of the next
pub pushed_copy : {X : Type 0} (f : X → Data) (items : List Value) (value : Value) (xs : List X) (i : ℕ) (other : X) → i < length xs
    → map view items ≡ map f (take i xs) → view value ≡ f (slice_index_or xs i other)
    → map view (items ++ value ∷ []) ≡ map f (take (i + 1) xs)
pushed_copy f items value xs i other below so_far told =
    map-append view items (value ∷ []) ∙ ((λ j. so_far j ++ told j ∷ []) ∙ sym (map_more f xs i other below))

-- after the numbers so far, the next
pub pushed_number : (f : ℕ → Data) (items : List Value) (value : Value) (xs : List ℕ) (i : ℕ) → i < length xs
    → map view items ≡ map f (take i xs) → view value ≡ f (slice_index_or xs i 0) → map view (items ++ value ∷ []) ≡ map f (take (i + 1) xs)
pushed_number f items value xs i = pushed_copy f items value xs i 0
