-- A text that was read up to one byte more than a limit, and is no longer than that, was read whole.
use Rattle.std.proofs.Common.{◌≡◌, ℕ, ◌+◌, ◌≤◌, List, length, take, inl, inr, arith, length-take-le, take_all}
use Rattle.std.proofs.lemmas.Bool.{cases_lt}

-- what was read is the whole, where it is no longer than the limit
pub same_text : (limit : ℕ) (text : List ℕ) → length (take (limit + 1) text) ≤ limit → take (limit + 1) text ≡ text
same_text limit text fits = elim (cases_lt limit (length text)) [
  | inl longer ↦ let size : length (take (limit + 1) text) ≡ limit + 1 =
      length-take-le (limit + 1) text (omega arith) in absurd (omega arith)
  | inr fitting ↦ take_all (limit + 1) text (omega arith)
]
