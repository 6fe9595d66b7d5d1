use Rattle.std.proofs.Common.{ℕ, List, ◌++◌, decimal, ap, ◌∙◌}
use Rattle.plain_numbers.proofs.beginning.number_before.Goals as goal

pub returns-clause-text : goal.returns-clause-text
returns-clause-text c = c.in_ok-number.ensures.text ∙ ap (λ (l : List ℕ). decimal c.in_ok-number.number ++ l) c.in_ok-rest.ensures
