use Rattle.cli_follow.proofs.Common.{subst, with_event, StreamEvent, as_event, event_line, FollowsStream, IsStop}
use Rattle.cli_follow.proofs.FollowedLemmas.{as_stream, line_taken}
use Rattle.cli_follow.proofs.followed.Followed.take_values.Goals as goal

pub returns-in-Ok-take_event-clause-taken : goal.returns-in-Ok-take_event-clause-taken
returns-in-Ok-take_event-clause-taken c = λ read followed spelled.
    let e = as_event c.args.event.now in
    let next = c.in-Ok-take_event.next in
    let taken = c.in-Ok-take_event.ensures.taken followed.stream (as_stream read c.args.self followed) in
    line_taken read (event_line e) c.args.self next e followed spelled c.in-Ok-take_event.ensures.version
    (subst (λ (own : StreamEvent). FollowsStream (with_event followed.stream (as_event own)) next) c.in-Ok.ensures taken)

pub returns-in-Err-clause-stopped : goal.returns-in-Err-clause-stopped
returns-in-Err-clause-stopped c = λ known read count followed spelled begins.
    let stops = c.in-Err.ensures.stopped followed.stream (as_stream read c.args.self followed) in
    c.values_outcome.ensures c.args.budget known read c.args.self followed count spelled
    (subst (λ (own : StreamEvent). IsStop followed.stream c.args.budget (as_event own) c.in-Err.stop) c.in-Ok.ensures stops) begins
