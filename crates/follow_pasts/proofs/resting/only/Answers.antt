use Rattle.follow_pasts.proofs.Common.{sym, subst, Contents, IsRising, covered}
use Rattle.follow_pasts.proofs.RestingLemmas.{some_rise}
use Rattle.follow_pasts.proofs.resting.only.Goals as goal

pub of-requires : goal.of-requires
of-requires c =
    some_rise (λ pair. covered c.args.busy.now pair.0) c.pairs-pair-items.result.now c.loop-pair.pairs.items c.loop-pair.pair-index
    c.deref.result.now (subst (λ (m : Contents). IsRising m) (sym c.pairs-pair-items.ensures.pairs) c.pairs-pair-items.ensures.rising)
    c.loop-pair-test.false c.loop-pair.invariant c.deref.ensures.value
