use Rattle.follow_monitor.specs.Faults.{invocation_fault}
use Rattle.cli_follow.proofs.FollowedLemmas.{invoked}
use Rattle.cli_follow.proofs.RefusalLemmas.{shown_some}
use Rattle.cli_follow.proofs.followed.Followed.begin_call.Goals as goal

pub returns-in-Ok-clause-taken : goal.returns-in-Ok-clause-taken
returns-in-Ok-clause-taken c = λ stream before.
    invoked stream c.args.self c.in-Ok.monitor c.args.process c.args.call c.saturating_add.result c.saturating_add-in-Ok.result before
    (c.in-Ok.ensures.follows stream.start stream.events before.follows)
    (c.in-Ok.ensures.accepted stream.start stream.events before.follows)
    c.saturating_add.ensures c.saturating_add-in-Ok.ensures

pub returns-in-Err-clause-stopped : goal.returns-in-Err-clause-stopped
returns-in-Err-clause-stopped c = λ stream budget before.
    shown_some c.in-Err.fault (invocation_fault stream.events c.args.process c.args.call)
    (c.in-Err.ensures.refused stream.start stream.events before.follows)
