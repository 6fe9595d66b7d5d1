use Rattle.cli_explain.proofs.Common.{inl, inr, IfOk-weaker, operations, IsLinearizable}
use Rattle.cli_explain.proofs.reports.history_lines.Goals as goal

pub returns-in-Some : goal.returns-in-Some
returns-in-Some c = λ refuted.
    let history = c.in-Some.history in
    let same = rw c.in-Some.is at c.in_ok-history.ensures.orders in
    let none : IsLinearizable history.start (operations history.events) → ⊥ = λ order. refuted (same.1 order) in
    IfOk-weaker c.lines_of.result _ _
    (λ text lines. inr (history, record { has_calls = rw c.in-Some.is at c.in_ok-history.ensures.history; refuted = none }, lines))
    (c.lines_of.ensures none)

pub returns-in-None : goal.returns-in-None
returns-in-None c = λ refuted. inl (c.new.ensures.bytes, rw c.in-None.is at c.in_ok-history.ensures.history)
