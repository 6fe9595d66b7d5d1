use Rattle.follow_parts.proofs.Common.{subst, arith, Contents, IsRising, more_pairs}
use Rattle.follow_parts.proofs.settling.add_pairs.Goals as goal

pub loop-pair-preserved : goal.loop-pair-preserved
loop-pair-preserved c = record {
  rises = λ old_rises. subst (λ (m : Contents). IsRising m) c.rest.view_is c.rest.invariant.rising;
  values = λ rising.
      more_pairs c.args.pairs.now c.args.rest c.loop-pair.rest c.insert.new.self c.loop-pair.pair-index _ rising (omega arith)
      c.in_ok-insert.ensures.put (c.loop-pair.invariant.values rising);
}
