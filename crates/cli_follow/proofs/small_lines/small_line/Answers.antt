use Rattle.cli_follow.proofs.Common.{inl, inr, IfOk-weaker}
use Rattle.cli_follow.proofs.small_lines.small_line.Goals as goal

pub returns-in-Some : goal.returns-in-Some
returns-in-Some c = λ refuted.
    let history = c.in-Some.history in
    let same = rw c.in-Some.is at c.in_ok-history.ensures.orders in
    IfOk-weaker c.history_line.result _ _
    (λ text line. inr (
      history,
      record { has_calls = rw c.in-Some.is at c.in_ok-history.ensures.history; refuted = λ order. refuted (same.1 order) },
      line,
    ))
    c.history_line.ensures

pub returns-in-None : goal.returns-in-None
returns-in-None c = λ refuted. inl (c.new.ensures.bytes, rw c.in-None.is at c.in_ok-history.ensures.history)
