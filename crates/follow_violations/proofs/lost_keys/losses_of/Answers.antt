use Rattle.follow_violations.proofs.Common.{kept_of, IsKeyLoss, map}
use Rattle.follow_violations.proofs.LossLemmas.{losses_more}
use Rattle.follow_violations.proofs.lost_keys.losses_of.Goals as goal

pub loop-key-preserved : goal.loop-key-preserved
loop-key-preserved c =
    let more = losses_more (IsKeyLoss (map kept_of c.args.pasts.now) c.args.puts.now) c.args.keys.now c.loop-key.key-index _ c.in_ok-loss.loss
    c.loop-key.losses.items c.push.new.self.items c.loop-key-test.true c.in_ok-loss.ensures.key c.in_ok-loss.ensures.is
    c.loop-key.invariant.keys c.loop-key.invariant.each c.in_ok-push.ensures.items in record { keys = more.0; each = more.1 }
