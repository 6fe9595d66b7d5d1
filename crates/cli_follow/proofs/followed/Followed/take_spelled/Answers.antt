use Rattle.stream_text.specs.Lines.{as_event}
use Rattle.cli_follow.proofs.FollowedLemmas.{as_stream, line_taken}
use Rattle.cli_follow.proofs.followed.Followed.take_spelled.Goals as goal

pub returns-in-Ok-clause-taken : goal.returns-in-Ok-clause-taken
returns-in-Ok-clause-taken c = λ read followed spelled.
    line_taken read c.args.line.now c.args.self c.in-Ok.next (as_event c.args.event) followed spelled c.in-Ok.ensures.version
    (c.in-Ok.ensures.taken followed.stream (as_stream read c.args.self followed))

pub returns-in-Err-clause-stopped : goal.returns-in-Err-clause-stopped
returns-in-Err-clause-stopped c = λ known read count followed spelled begins.
    c.stop_outcome.ensures c.args.budget known read c.args.self (as_event c.args.event) followed count spelled
    (c.in-Err.ensures.stopped followed.stream (as_stream read c.args.self followed)) begins
