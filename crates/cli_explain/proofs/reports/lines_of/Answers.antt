use Rattle.cli_explain.proofs.Common.{inl, inr, IfOk-weaker}
use Rattle.cli_explain.proofs.reports.lines_of.Goals as goal

pub returns-in-Some : goal.returns-in-Some
returns-in-Some c = λ refuted.
    IfOk-weaker c.two_lines.result _ _ (λ text lines. inr lines) (c.two_lines.ensures (rw c.in-Some.is at c.in_ok-text.ensures) refuted)

pub returns-in-None : goal.returns-in-None
returns-in-None c = λ refuted. inl (c.new.ensures.bytes, rw c.in-None.is at c.in_ok-text.ensures)
