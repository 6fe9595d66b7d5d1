-- A report has no float, so that its text is the compact one.
use Rattle.judge.proofs.Common.{◌≡◌, ℕ, List, [], ◌∷◌, map, false, refl, items_of, has_float, items_have_float, number_data, Verdict, Yes, No}
use Rattle.judge.proofs.Common.{Undecided, verdict_data}

-- numbers have no float
items_have_float-numbers : (numbers : List ℕ) → items_have_float (items_of (map number_data numbers)) ≡ false
items_have_float-numbers [] = refl
items_have_float-numbers (n ∷ numbers) = items_have_float-numbers numbers

-- a report has no float
pub has_float-verdict : (verdict : Verdict) → has_float (verdict_data verdict) ≡ false
has_float-verdict (Yes order) = rw (items_have_float-numbers order.items) refl
has_float-verdict (No segment) = rw (items_have_float-numbers segment.numbers) refl
has_float-verdict (Undecided segment) = rw (items_have_float-numbers segment.numbers) refl
