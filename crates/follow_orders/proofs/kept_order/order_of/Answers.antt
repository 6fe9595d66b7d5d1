use Rattle.follow_orders.proofs.Common.{ap, ◌∙◌, arith, take_all, places}
use Rattle.follow_orders.proofs.kept_order.order_of.Goals as goal

pub returns : goal.returns
returns c =
    c.loop-level.invariant ∙ ap places (take_all c.loop-level.level-index c.args.levels.now (omega (arith, c.loop-level-test.false)))
