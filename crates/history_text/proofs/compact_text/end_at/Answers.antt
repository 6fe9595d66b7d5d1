use Rattle.std.proofs.Common.{ℕ, List, ◌++◌, codes, decimal, ap, ◌∙◌}
use Rattle.history_text.proofs.compact_text.end_at.Goals as goal

pub returns-then-is_end : goal.returns-then-is_end
returns-then-is_end c = record {
  behind = c.in_ok-named.rest.now;
  parts =
      c.in_ok-text.ensures
      ∙ ap (λ (l : List ℕ). codes ",\"version\":" ++ l)
      (c.in_ok-named.ensures.text
      ∙ ap (λ (n : ℕ). decimal n ++ (codes "}" ++ c.in_ok-named.rest.now)) (c.if-named-number.false ∙ c.number.ensures));
  white = c.is_end.ensures c.if-is_end.true;
}
