use Rattle.cli_follow.proofs.Common.{subst, IsStop}
use Rattle.cli_follow.specs.declared.stops.Stop.{Stop}
use Rattle.cli_follow.proofs.RefusalLemmas.{refused_turn}
use Rattle.cli_follow.proofs.StopLemmas.{lost_stop, lost_dead_at, spent_stop}
use Rattle.cli_follow.proofs.stops.stop_outcome.Goals as goal

pub returns-in-Refused : goal.returns-in-Refused
returns-in-Refused c = λ budget known read f e followed count spelled stops begins.
    refused_turn budget known read c.args.line.now f c.args.number e c.in-Refused.fault c.refused_event.result followed count spelled
    (subst (λ (s : Stop). IsStop followed.stream budget e s) c.in-Refused.is stops) begins c.refused_event.ensures

pub returns-in-Lost : goal.returns-in-Lost
returns-in-Lost c = λ budget known read f e followed count spelled stops begins.
    let lost = subst (λ (s : Stop). IsStop followed.stream budget e s) c.in-Lost.is stops in
    lost_stop budget known read c.args.line.now f e c.in-Lost.loss c.lost_outcome.result followed spelled begins lost
    (c.lost_outcome.ensures (lost_dead_at followed.stream e c.in-Lost.loss lost))

pub returns-in-Spent : goal.returns-in-Spent
returns-in-Spent c = λ budget known read f e followed count spelled stops begins.
    spent_stop budget known read c.args.line.now f e c.in-Spent.loss c.spent_outcome.result followed spelled begins
    (subst (λ (s : Stop). IsStop followed.stream budget e s) c.in-Spent.is stops) c.spent_outcome.ensures
