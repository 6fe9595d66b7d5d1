use Rattle.machine.proofs.NextStepLemmas.{next-access, next-answer, next-nothing, next-stamp}
use Rattle.machine.proofs.runner.Runner.next_step.Goals as goal

pub returns-then-has_work : goal.returns-then-has_work
returns-then-has_work c = λ plan p q fits.
    next-stamp plan p q c.args.self.now fits c.in-Idle.is (c.has_work.ensures.yes c.if-has_work.true)

pub returns-else-has_work : goal.returns-else-has_work
returns-else-has_work c = λ plan p q fits. next-nothing plan p q c.args.self.now fits (c.has_work.ensures.no c.if-has_work.false)

pub returns-in-Going : goal.returns-in-Going
returns-in-Going c = λ plan p q fits. next-access plan p q c.args.self.now fits c.in-Going.task c.next.result c.in-Going.is c.next.ensures.access

pub returns-in-Answered : goal.returns-in-Answered
returns-in-Answered c = λ plan p q fits. next-answer plan p q c.args.self.now fits c.in-Answered.field-0 c.in-Answered.is
