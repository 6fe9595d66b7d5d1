use Rattle.machine.proofs.Common.{refl, sym, subst, ◌∙◌, after_access, Advances}
use Rattle.machine.proofs.TurnLemmas.{goes-on}
use Rattle.machine.proofs.runner.Runner.turn.Goals as goal

pub returns-in-Some-clause-moved : goal.returns-in-Some-clause-moved
returns-in-Some-clause-moved c = λ plan q shape variant fits.
    goes-on plan c.args.process q c.args.self.now c.in-Going.task c.args.words.now c.advance.new.words _ fits c.in-Going.is
    (λ asked got f. subst (λ d. Advances plan.shape plan.variant asked got c.args.words.now c.advance.new.words d) (sym c.answer.ensures)
    (subst (λ o. Advances plan.shape plan.variant asked got c.args.words.now c.advance.new.words
    (after_access c.advance.new.task o)) c.in-Some.is
    (c.advance.ensures.made plan.shape plan.variant asked got (λ more. c.ready.ensures.same more ∙ f more)))) refl refl refl refl

pub returns-in_default-clause-moved : goal.returns-in_default-clause-moved
returns-in_default-clause-moved c = λ plan q shape variant fits.
    goes-on plan c.args.process q c.args.self.now c.in-Going.task c.args.words.now c.advance.new.words _ fits c.in-Going.is
    (λ asked got f. subst (λ o. Advances plan.shape plan.variant asked got c.args.words.now c.advance.new.words
    (after_access c.advance.new.task o)) c.in_default.is
    (c.advance.ensures.made plan.shape plan.variant asked got (λ more. c.ready.ensures.same more ∙ f more))) refl refl refl refl

pub returns-in-Answered-clause-table : goal.returns-in-Answered-clause-table
returns-in-Answered-clause-table c = c.respond.ensures.table c.args.shape
