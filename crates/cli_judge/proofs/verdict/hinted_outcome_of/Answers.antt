use Rattle.std.proofs.Common.{string_bytes}
use Rattle.cli_outcome.specs.Lines.{line}
use Rattle.cli_judge.proofs.JudgedTexts.{judged-hinted}
use Rattle.cli_judge.proofs.verdict.hinted_outcome_of.Goals as goal

pub returns-in-Ok-report-clause-outcome : goal.returns-in-Ok-report-clause-outcome
returns-in-Ok-report-clause-outcome c budget text is_text shown exact =
    judged-hinted budget text c.args.history.now c.in-Ok.verdict (string_bytes c.in-Ok-report.report) is_text (rw c.in-Ok.is at shown)
    (rw c.in-Ok.is at exact) c.in-Ok-report.ensures c.outcome_with_hint.result
    (c.outcome_with_hint.ensures (line (string_bytes c.in-Ok-report.report)) c.line_of.ensures)
