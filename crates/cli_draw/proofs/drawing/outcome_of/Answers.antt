use Rattle.std.proofs.Common.{string_bytes}
use Rattle.cli_draw.proofs.DrawingLemmas.{IsTextOutcome-drawn}
use Rattle.cli_draw.proofs.drawing.outcome_of.Goals as goal

pub returns-in-Ok-clause-outcome : goal.returns-in-Ok-clause-outcome
returns-in-Ok-clause-outcome c budget view text history is_text drawn =
    IsTextOutcome-drawn budget view text history c.in-Ok.answer (string_bytes c.in-Ok.drawing) c.line_of.result c.from_answer.result is_text
    (rw c.in-Ok.is at drawn) c.line_of.ensures c.from_answer.ensures
