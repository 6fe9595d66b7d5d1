-- Columns that are counted again: they keep their order, and each has a place of its own.
use Rattle.draw_picture.proofs.Common.{◌≡◌, ℕ, ◌+◌, ◌<◌, ◌≤◌, Bool, true, false, cond, List, [], ◌∷◌, length, inl, inr, refl, arith, filter, Contains}
use Rattle.draw_picture.proofs.Common.{lt-ltb, le-ltb, ltb-true, length-filter, count_by-le-length, Contains-nil, Contains-cases, rank, RanksRise}
use Rattle.draw_picture.proofs.ColumnLemmas.{is_below}

-- how many columns come before one
abbrev before : List ℕ → ℕ → ℕ
before columns a = length (filter (is_below a) columns)

-- one column more, which comes before the second where it does before the first
more_le : (x : ℕ) (xs ys : List ℕ) (p q : Bool) → (p ≡ true → q ≡ true) → length xs ≤ length ys
    → length (cond p (x ∷ xs) xs) ≤ length (cond q (x ∷ ys) ys)
more_le x xs ys true true h le = omega arith
more_le x xs ys true false h le = let never = h refl in cc
more_le x xs ys false true h le = omega arith
more_le x xs ys false false h le = le

more_lt : (x : ℕ) (xs ys : List ℕ) (p q : Bool) → (p ≡ true → q ≡ true) → length xs < length ys
    → length (cond p (x ∷ xs) xs) < length (cond q (x ∷ ys) ys)
more_lt x xs ys true true h lt = omega arith
more_lt x xs ys true false h lt = let never = h refl in cc
more_lt x xs ys false true h lt = omega arith
more_lt x xs ys false false h lt = lt

-- one that comes before the second alone
more_one : (x : ℕ) (xs ys : List ℕ) (p q : Bool) → p ≡ false → q ≡ true → length xs ≤ length ys
    → length (cond p (x ∷ xs) xs) < length (cond q (x ∷ ys) ys)
more_one x xs ys p q is_not is_so le = rw (is_not, is_so) (omega arith)

still_below : (x a b : ℕ) → a ≤ b → is_below a x ≡ true → is_below b x ≡ true
still_below x a b le is = lt-ltb x b (omega (arith, ltb-true x a is))

before_le : (columns : List ℕ) (a b : ℕ) → a ≤ b → before columns a ≤ before columns b
before_le [] a b le = omega arith
before_le (x ∷ xs) a b le = more_le x _ _ (is_below a x) (is_below b x) (still_below x a b le) (before_le xs a b le)

before_lt : (columns : List ℕ) (a b : ℕ) → Contains columns a → a < b → before columns a < before columns b
before_lt [] a b is lt = absurd (Contains-nil a is)
before_lt (x ∷ xs) a b is lt = elim (Contains-cases x xs a is) [
  | inl same ↦ more_one x _ _ (is_below a x) (is_below b x) (le-ltb x a (omega (arith, same))) (lt-ltb x b (omega (arith, same)))
      (before_le xs a b (omega arith))
  | inr later ↦ more_lt x _ _ (is_below a x) (is_below b x) (still_below x a b (omega arith)) (before_lt xs a b later lt)
]

rank_le : (columns : List ℕ) (a b : ℕ) → a ≤ b → rank columns a ≤ rank columns b
rank_le columns a b le = rw (← length-filter (is_below a) columns, ← length-filter (is_below b) columns) (before_le columns a b le)

rank_lt : (columns : List ℕ) (a b : ℕ) → Contains columns a → a < b → rank columns a < rank columns b
rank_lt columns a b is lt =
    let less : before columns a < before columns b = before_lt columns a b is lt in
    rw (← length-filter (is_below a) columns, ← length-filter (is_below b) columns) (omega arith)

pub ranks_rise : RanksRise
ranks_rise columns a b = (
  λ le. rank_le columns a b le,
  λ is lt. rank_lt columns a b is lt,
  λ is. let next = rank_lt columns a (a + 1) is (omega arith) in omega (arith, next, count_by-le-length (is_below (a + 1)) columns),
)
