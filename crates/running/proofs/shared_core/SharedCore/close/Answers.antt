use Rattle.running.proofs.EndLemmas.{ended}
use Rattle.running.proofs.shared_core.SharedCore.close.Goals as goal

pub returns : goal.returns
returns c = let last = c.close_with.ensures.values.2 in ended _ c.args.self.limits _ _ last.0 c.requires.all last.1
