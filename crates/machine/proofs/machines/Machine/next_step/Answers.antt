use Rattle.std.proofs.Common.{◌≡◌, Some, slice_get, sym, subst, ap, ◌∙◌, ◌≤◌, length}
use Rattle.std.proofs.lemmas.Option.{slice_get-get_or}
use Rattle.machine.proofs.NextStepLemmas.{step-at, step-past}
use Rattle.machine.proofs.machines.Machine.next_step.Goals as goal

pub returns-in-Some : goal.returns-in-Some
returns-in-Some c = λ plan s shows. step-at c.args.self.now c.args.process plan s shows c.in-Some.runner.now
    (subst (λ items. slice_get items c.args.process ≡ Some c.in-Some.runner.now) c.deref.ensures.value
    (slice_get-get_or c.deref.result.now c.args.process c.in-Some.runner.now c.in-Some.ensures.lookup.3.0
    ∙ ap Some (sym c.in-Some.ensures.lookup.1)))
    c.next_step.result (λ q f. c.next_step.ensures plan c.args.process q f)

pub returns-in-None : goal.returns-in-None
returns-in-None c = λ plan s shows. step-past c.args.self.now c.args.process plan s shows
    (subst (λ items. length items ≤ c.args.process) c.deref.ensures.value c.in-None.ensures.lookup.3)
