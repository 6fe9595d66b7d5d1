-- Sums over a list of which one item is known.
use Rattle.std.proofs.Common.{◌≡◌, ℕ, zero, suc, ◌+◌, ◌<◌, ◌≤◌, List, [], ◌∷◌, length, get_or, set, refl, sym, ap, subst, arith}
use Rattle.std.specs.Prelude.{sum_by, All}
use Rattle.std.proofs.lemmas.List.Sums.{sum_by-cons, sum_by-set, get_or-le-sum_by}
use Rattle.std.proofs.lemmas.List.Elements.{All-get_or}
use mathlib.Core.Option.{some, some-injective, some-ne-none}
use lib.ListN.{get_elem?}

module _ {X : Type 0} where
  -- an item that is read is within the list
  pub read-within : (xs : List X) (i : ℕ) (x : X) → get_elem? xs i ≡ some x → (i < length xs) × (get_or xs i x ≡ x)
  read-within [] i x at = absurd (some-ne-none x (sym at))
  read-within (y ∷ ys) zero x at = (omega arith, some-injective y x at)
  read-within (y ∷ ys) (suc i) x at = let there = read-within ys i x at in (omega (arith, there.0), there.1)

  -- what holds of all items holds of one that is read
  pub All-read : (P : X → Type 0) (xs : List X) (i : ℕ) (x : X) → All P xs → get_elem? xs i ≡ some x → P x
  All-read P xs i x all at = let there = read-within xs i x at in subst P there.1 (All-get_or P xs i x there.0 all)

  module _ (f : X → ℕ) where
    -- a sum after one item was replaced
    pub sum_by-replaced : (xs : List X) (i : ℕ) (x y : X) → get_elem? xs i ≡ some x → sum_by f (set xs i y) + f x ≡ sum_by f xs + f y
    sum_by-replaced xs i x y at =
        let there = read-within xs i x at in subst (λ z. sum_by f (set xs i y) + f z ≡ sum_by f xs + f y) there.1
        (sum_by-set f xs i y x there.0)

    -- one item is within the sum
    pub read-le-sum_by : (xs : List X) (i : ℕ) (x : X) → get_elem? xs i ≡ some x → f x ≤ sum_by f xs
    read-le-sum_by xs i x at = let there = read-within xs i x at in subst (λ z. f z ≤ sum_by f xs) there.1
        (get_or-le-sum_by f xs i x there.0)

  -- a sum of sums, item by item
  pub sum_by-plus : (f g : X → ℕ) (xs : List X) → sum_by (λ x. f x + g x) xs ≡ sum_by f xs + sum_by g xs
  sum_by-plus f g [] = refl
  sum_by-plus f g (x ∷ xs) =
      let a = sum_by-cons (λ y. f y + g y) x xs in
      let b = sum_by-cons f x xs in
      let c = sum_by-cons g x xs in
      let d = sum_by-plus f g xs in
      omega arith

  module _ (f g : X → ℕ) (nothing : (x : X) → f x ≡ 0 → g x ≡ 0) where
    -- if f sums to nothing, so does a g that is nothing where f is
    pub sum_by-nothing : (xs : List X) → sum_by f xs ≡ 0 → sum_by g xs ≡ 0
    sum_by-nothing [] none = refl
    sum_by-nothing (x ∷ xs) none =
        let split = sum_by-cons f x xs in
        let first : f x ≡ 0 = omega arith in
        let others : sum_by f xs ≡ 0 = omega arith in
        let a = nothing x first in
        let b = sum_by-nothing xs others in
        let c = sum_by-cons g x xs in
        omega arith

    -- if one item has all of f, it has all of a g that is nothing where f is
    pub sum_by-sole : (xs : List X) (i : ℕ) (x : X) → get_elem? xs i ≡ some x → sum_by f xs ≡ f x → sum_by g xs ≡ g x
    sum_by-sole [] i x at all = absurd (some-ne-none x (sym at))
    sum_by-sole (y ∷ ys) zero x at all =
        let same = some-injective y x at in
        let split = sum_by-cons f y ys in
        let fs = ap f same in
        let gs = ap g same in
        let rest = sum_by-nothing ys (omega arith) in
        let c = sum_by-cons g y ys in
        omega arith
    sum_by-sole (y ∷ ys) (suc i) x at all =
        let split = sum_by-cons f y ys in
        let within = read-le-sum_by f ys i x at in
        let first : f y ≡ 0 = omega arith in
        let a = nothing y first in
        let b = sum_by-sole ys i x at (omega arith) in
        let c = sum_by-cons g y ys in
        omega arith
