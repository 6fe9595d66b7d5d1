use Rattle.std.proofs.Common.{arith}
use Rattle.events.proofs.StartLemmas.{IsStart-push}
use Rattle.events.proofs.starts.test_pair.Goals as goal

pub returns-clause-ok : goal.returns-clause-ok
returns-clause-ok c = IsStart-push c.args.before.now c.args.pair c.requires (omega arith) cc
