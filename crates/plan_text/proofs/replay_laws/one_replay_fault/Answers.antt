use Rattle.plan_text.proofs.ReplayTextLemmas.{one_fault, no_replay}
use Rattle.plan_text.proofs.replay_laws.one_replay_fault.Goals as goal

pub returns-clause-one : goal.returns-clause-one
returns-clause-one c = one_fault

pub returns-clause-no_replay : goal.returns-clause-no_replay
returns-clause-no_replay c = no_replay
