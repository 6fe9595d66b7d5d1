use Rattle.std.proofs.Common.{rules}
use Rattle.judge.proofs.judges.ByCallsJudge.verdict_on.Goals as goal

pub returns-clause-shown : goal.returns-clause-shown
returns-clause-shown g c = (c.requires.1 c.args.history.now c.answer.result (search rules)).0

pub returns-clause-exact : goal.returns-clause-exact
returns-clause-exact g c = (c.requires.1 c.args.history.now c.answer.result (search rules)).1
