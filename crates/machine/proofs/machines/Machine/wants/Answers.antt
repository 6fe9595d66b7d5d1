use Rattle.machine.proofs.RunningLemmas.{wants-end, wants-answered, wants-point}
use Rattle.machine.proofs.machines.Machine.wants.Goals as goal

pub returns-in-End : goal.returns-in-End
returns-in-End c = λ plan first now shows was.
    wants-end plan c.args.item c.in-End.process first now c.args.made c.args.before c.finished_calls.result
    (c.finished_calls.ensures plan now shows) was c.in-End.is

pub returns-then-finished_calls-before : goal.returns-then-finished_calls-before
returns-then-finished_calls-before c = λ plan first now shows was.
    wants-point plan c.args.item c.in-Until.process first now c.args.made c.args.before c.finished_calls-in-Until.result
    (c.finished_calls-in-Until.ensures plan now shows) was c.in-Until.point c.in-Until.is c.is_at.result c.point.result c.if-finished_calls-before.true
    (c.point.ensures plan now shows) c.is_at.ensures

pub returns-else-finished_calls-before : goal.returns-else-finished_calls-before
returns-else-finished_calls-before c = λ plan first now shows was.
    wants-answered plan c.args.item c.in-Until.process first now c.args.made c.args.before c.finished_calls-in-Until.result
    (c.finished_calls-in-Until.ensures plan now shows) was c.in-Until.point c.in-Until.is c.if-finished_calls-before.false
