use Rattle.std.proofs.Common.{[]}
use Rattle.art_control_states.specs.Stages.{setting}
use Rattle.art.specs.Going.{at_of}
use Rattle.art.proofs.GoingLemmas.{begins, begun_asks}
use Rattle.art.proofs.task.Task.begin.Goals as goal

pub invariant_of-result-clause-reached : goal.invariant_of-result-clause-reached
invariant_of-result-clause-reached c = λ h.
    ∣ ([], λ more. begins (setting c.args.shape c.args.variant c.args.call) (at_of c.beginning_of.result) more c.beginning_of.ensures.at) ∣₁

pub returns-clause-act : goal.returns-clause-act
returns-clause-act c = λ rest. begins (setting c.args.shape c.args.variant c.args.call) (at_of c.beginning_of.result) rest c.beginning_of.ensures.at

pub returns-clause-asks : goal.returns-clause-asks
returns-clause-asks c = begun_asks (setting c.args.shape c.args.variant c.args.call) (at_of c.beginning_of.result) c.beginning_of.ensures.at
