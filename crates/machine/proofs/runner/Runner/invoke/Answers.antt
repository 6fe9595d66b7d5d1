use Rattle.std.proofs.Common.{◌≡◌, slice_get, Some, refl, sym, subst, rules, ap, ◌∙◌}
use Rattle.std.proofs.lemmas.Option.{slice_get-get_or}
use Rattle.machine.proofs.TurnLemmas.{invokes}
use Rattle.machine.proofs.runner.Runner.invoke.Goals as goal

pub returns-clause-moved : goal.returns-clause-moved
returns-clause-moved c = λ plan q shape variant fits.
    invokes plan c.args.process q c.args.self.now c.in-Some.call.now _ c.args.words.now c.stamp.new.words _ fits c.requires.idle
    (subst (λ items. slice_get items c.args.self.now.begun ≡ Some c.in-Some.call.now) c.deref.ensures.value
    (slice_get-get_or c.deref.result.now c.args.self.now.begun c.in-Some.call.now c.in-Some.ensures.lookup.3.0
    ∙ ap Some (sym c.in-Some.ensures.lookup.1)))
    (λ rest. c.begin.ensures.act rest ∙ (search rules)) c.stamp.ensures.words (search rules) refl refl refl refl
