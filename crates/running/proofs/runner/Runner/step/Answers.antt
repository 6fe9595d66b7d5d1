use Rattle.running.proofs.Common.{refl, sym, ap, ◌∙◌, rest_of, after_access}
use Rattle.running.proofs.StepLemmas.{access-first}
use Rattle.running.proofs.runner.Runner.step.Goals as goal

pub returns-in-Some-clause-first : goal.returns-in-Some-clause-first
returns-in-Some-clause-first c =
    access-first _ c.args.number c.args.self.now c.in-Going.task c.requires.first c.in-Going.is (rest_of c.ready.new.self)
    c.ready.ensures.same c.next.result
    c.next.ensures.access _ c.access-got.result c.access-got.ensures.made c.take.new.self c.take.result _ c.access-got.ensures.told
    c.take.ensures.reply
    c.take.ensures.fits (c.answer.ensures ∙ ap (after_access c.take.new.self) (sym c.in-Some.is)) refl refl

pub returns-in-None-clause-first : goal.returns-in-None-clause-first
returns-in-None-clause-first c =
    access-first _ c.args.number c.args.self.now c.in-Going.task c.requires.first c.in-Going.is (rest_of c.ready.new.self)
    c.ready.ensures.same c.next.result
    c.next.ensures.access _ c.access-got.result c.access-got.ensures.made c.take.new.self c.take.result _ c.access-got.ensures.told
    c.take.ensures.reply
    c.take.ensures.fits (ap (after_access c.take.new.self) (sym c.in-None.is)) refl refl
