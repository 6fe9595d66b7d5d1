-- Values that spell items one by one, each of which passes a test.
use Rattle.plan_text.proofs.Common.{◌≡◌, ℕ, zero, suc, ◌<◌, Bool, true, List, [], ◌∷◌, length, map, get_or, sym, ap, ◌∙◌, arith, Option, Some, None}
use Rattle.plan_text.proofs.Common.{Result, Ok, Err, IfOk, IfNone, list_all, and_parts, Data, view, items_view, Value, list_data, list_data_injective}
use Rattle.plan_text.proofs.Common.{list_found}
use Rattle.serde_json.specs.Find.{as_array}

module _ {A : Type 0} (f : A → Data) (test : A → Bool) where
  -- values spell no items that all pass, where the one at a place spells none that passes
  pub none_among : (vs : List Value) (xs : List A) (i : ℕ) (v : Value) → map view vs ≡ map f xs → list_all test xs ≡ true → i < length vs
      → v ≡ get_or vs i v → ((x : A) → view v ≡ f x → test x ≡ true → ⊥) → ⊥
  none_among [] xs i v h all within here none = absurd (omega arith)
  none_among (w ∷ vs) [] i v h all within here none = cc
  none_among (w ∷ vs) (x ∷ xs) zero v h all within here none =
      let same : view w ≡ f x = cc in
      none x (ap view here ∙ same) (and_parts (test x) (list_all test xs) all).0
  none_among (w ∷ vs) (x ∷ xs) (suc i) v h all within here none =
      let rest : map view vs ≡ map f xs = cc in
      none_among vs xs i v rest (and_parts (test x) (list_all test xs) all).1 (omega arith) here none

-- what is said of no value holds of another statement that follows
pub none-follows : {A E : Type 0} {P Q : Type 0} (r : Result (Option A) E) → (P → Q) → IfOk r (λ found. IfNone found P)
    → IfOk r (λ found. IfNone found Q)
none-follows (Ok None) f h = f h
none-follows (Ok (Some x)) f h = tt
none-follows (Err e) f h = tt

-- the items of an array that spells a list spell its elements
pub items_of_list : (d : Data) (vs ws : List Value) (ds : List Data) → Some (items_view vs) ≡ as_array d → ws ≡ vs → d ≡ list_data ds
    → map view ws ≡ ds
items_of_list d vs ws ds found same h = ap (map view) same ∙ list_data_injective (map view vs) ds (sym (list_found d vs found) ∙ h)
