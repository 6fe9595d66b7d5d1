use Rattle.recorder.proofs.Common.{rules, AreAll}
use Rattle.recorder.proofs.CloseLemmas.{all-there}
use Rattle.recorder.proofs.recorders.Recorder.close.Goals as goal

pub returns-then-not-has_all-clause-whole : goal.returns-then-not-has_all-clause-whole
returns-then-not-has_all-clause-whole c = λ one.
    let all : AreAll c.args.self c.args.passes.items = all-there c.args.self c.args.passes.items c.requires.own one.many one.processes in
    search rules
