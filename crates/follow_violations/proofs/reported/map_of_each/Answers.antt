use Rattle.std.proofs.Common.{arith}
use Rattle.follow_violations.proofs.PairLemmas.{inserted_more}
use Rattle.follow_violations.proofs.reported.map_of_each.Goals as goal

pub loop-at-preserved : goal.loop-at-preserved
loop-at-preserved c = record {
  within = omega arith;
  holds = inserted_more c.args.pairs.now c.loop-at.at _ c.loop-at.map c.step.new.self c.loop-at-test.true c.loop-at.invariant.within
      c.loop-at.invariant.holds c.in_ok-step.ensures.after;
}
