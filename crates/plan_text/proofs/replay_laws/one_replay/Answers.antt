use Rattle.plan_text.proofs.ReplayTextLemmas.{one_replay}
use Rattle.plan_text.proofs.replay_laws.one_replay.Goals as goal

pub returns : goal.returns
returns c = one_replay
