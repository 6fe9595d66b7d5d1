use Rattle.std.proofs.Common.{sym}
use Rattle.cli_judge.proofs.FirstLines.{first-all, first-fed}
use Rattle.cli_judge.proofs.refusals.first_line.Goals as goal

pub returns-in-Some : goal.returns-in-Some
returns-in-Some c =
    sym (first-fed c.in-Some.count c.args.text.now c.in-Some.ensures.within c.in-Some.ensures.here c.in-Some.ensures.before)

pub returns-in-None : goal.returns-in-None
returns-in-None c = sym (first-all c.args.text.now c.in-None.ensures.none)
