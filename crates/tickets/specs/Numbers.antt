-- The numbers below n, each once.
use Rattle.std.specs.Prelude.{◌≡◌, ℕ, ◌<◌, ◌≤◌, ◌==◌, List, length, count_by}

-- how often a number is in a list
abbrev pub times_in : List ℕ → ℕ → ℕ
times_in numbers x = count_by (λ y. y == x) numbers

-- the list has each number below n once and no other number, so it has n numbers
pub record EachOnce (n : ℕ) (numbers : List ℕ) : Type 0 where
  pub below : (x : ℕ) → x < n → times_in numbers x ≡ 1
  pub others : (x : ℕ) → n ≤ x → times_in numbers x ≡ 0
  pub many : length numbers ≡ n
