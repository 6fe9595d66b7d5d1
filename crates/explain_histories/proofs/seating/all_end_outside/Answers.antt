use Rattle.explain_histories.proofs.Common.{refl, subst, arith, All, Operation, take_all, All-more, EndsOutside}
use Rattle.explain_histories.proofs.seating.all_end_outside.Goals as goal

pub loop-call-preserved : goal.loop-call-preserved
loop-call-preserved c =
    let P = λ (a : Operation). EndsOutside c.args.low c.args.high a in
    All-more P c.args.calls.now c.loop-call.call-index c.call-item.result c.loop-call-test.true c.loop-call.invariant
    (subst P c.call-item.is (c.ends_outside.ensures.0 c.if-not-ends_outside.false))

pub returns : goal.returns
returns c = (
  λ _. subst (All (EndsOutside c.args.low c.args.high)) (take_all c.loop-call.call-index c.args.calls.now (omega arith)) c.loop-call.invariant,
  λ _. refl,
)
