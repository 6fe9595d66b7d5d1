use Rattle.cli_follow.proofs.Common.{sym, subst, IfErr, StreamEvent, as_event, IsStop}
use Rattle.cli_follow.proofs.followed.Followed.take_event.Goals as goal

pub returns-in-Invoke-clause-stopped : goal.returns-in-Invoke-clause-stopped
returns-in-Invoke-clause-stopped c = λ stream before.
    subst (λ (e : StreamEvent). IfErr c.begin_call.result (IsStop stream c.args.budget (as_event e))) (sym c.in-Invoke.is)
    (c.begin_call.ensures.stopped stream c.args.budget before)
