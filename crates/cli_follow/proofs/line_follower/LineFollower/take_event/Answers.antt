use Rattle.cli_follow.proofs.Common.{as_event, event_line}
use Rattle.cli_follow.proofs.line_follower.LineFollower.take_event.Goals as goal

pub returns-else-may_take-clause-added : goal.returns-else-may_take-clause-added
returns-else-may_take-clause-added c = λ budget lines words added.
    c.take_written.ensures.added budget lines (event_line (as_event c.args.event.now)) c.event_line.ensures added
