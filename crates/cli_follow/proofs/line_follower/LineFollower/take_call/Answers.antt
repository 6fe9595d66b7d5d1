use Rattle.cli_follow.proofs.Common.{ℕ, [], ◌∷◌, ◌++◌, subst, Invoke, event_line, HasTaken}
use Rattle.cli_follow.proofs.line_follower.LineFollower.take_call.Goals as goal

pub returns-in-Some-clause-added : goal.returns-in-Some-clause-added
returns-in-Some-clause-added c = λ budget lines words added.
    let is = c.in-Some.ensures in
    subst (λ (process : ℕ). HasTaken budget (lines ++ event_line (Invoke process c.args.call) ∷ []) c.take_event.result) is.0
    (c.take_event.ensures.added budget lines (is.1, words) added)

pub returns-in-None-clause-added : goal.returns-in-None-clause-added
returns-in-None-clause-added c = λ budget lines words added.
    c.take_written.ensures.added budget lines (event_line (Invoke c.args.process c.args.call)) c.call_line.ensures added
