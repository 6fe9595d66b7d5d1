use Rattle.running.proofs.Common.{◌+◌, IsTrue, refl, sym, subst, arith, shown, is_open, Ran}
use Rattle.running.proofs.StepLemmas.{ran-step, beside-same, beside-after, told-some, told-none}
use Rattle.running.proofs.runner.Runner.advance.Goals as goal

pub loop-made-init : goal.loop-made-init
loop-made-init c = record {
  own = c.requires.own;
  first = c.requires.first;
  beside = beside-same _ _ refl;
  ran = refl;
  still = c.requires.open;
}

pub loop-made-preserved : goal.loop-made-preserved
loop-made-preserved c =
    let i = c.loop-made.invariant in
    let m = c.in-Ok.ensures.made in
    record {
      own = c.step.ensures.own;
      first = c.step.ensures.first;
      beside = beside-after _ _ _ i.beside c.step.ensures.beside;
      ran = ran-step c.loop-made._made _ m.0 _ _ _ (omega arith) m.1 i.ran i.still;
      still = told-none _ _ c.in-None.is c.in-Ok.ensures.told;
    }

pub returns-in-Some-clause-beside : goal.returns-in-Some-clause-beside
returns-in-Some-clause-beside c = beside-after _ _ _ c.loop-made.invariant.beside c.step.ensures.beside

pub returns-in-Some-clause-progressed : goal.returns-in-Some-clause-progressed
returns-in-Some-clause-progressed c =
    let i = c.loop-made.invariant in
    let m = c.in-Ok.ensures.made in (
      c.loop-made._made + 1,
      omega arith,
      ran-step c.loop-made._made _ m.0 _ _ _ (omega arith) m.1 i.ran i.still,
      told-some _ _ c.in-Some.reply c.in-Some.is c.in-Ok.ensures.told,
    )

pub returns-in-Err-clause-beside : goal.returns-in-Err-clause-beside
returns-in-Err-clause-beside c = beside-after _ _ _ c.loop-made.invariant.beside c.step.ensures.beside

pub returns-in-Err-clause-stopped : goal.returns-in-Err-clause-stopped
returns-in-Err-clause-stopped c =
    let i = c.loop-made.invariant in
    record {
      made = c.loop-made._made;
      fewer = omega arith;
      ran = subst (λ z. Ran c.loop-made._made (shown c.args.place.now) z) (sym c.in-Err.ensures.kept) i.ran;
      still = subst (λ z. IsTrue (is_open z)) (sym c.in-Err.ensures.kept) i.still;
    }
