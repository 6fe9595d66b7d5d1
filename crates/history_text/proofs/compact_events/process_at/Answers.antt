use Rattle.std.proofs.Common.{ℕ, List, ◌++◌, codes, ap, ◌∙◌}
use Rattle.history_text.proofs.compact_events.process_at.Goals as goal

pub returns-clause-text : goal.returns-clause-text
returns-clause-text c = c.in_ok-text.ensures ∙ ap (λ (l : List ℕ). codes ",\"process\":" ++ l) c.in_ok-process.ensures.text
