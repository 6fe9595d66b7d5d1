use Rattle.std.proofs.Common.{arith}
use Rattle.follow_parts.proofs.BeginLemmas.{begun_in_each}
use Rattle.follow_parts.proofs.beginning.begin_in_each.Goals as goal

pub returns : goal.returns
returns c =
    begun_in_each c.args.operation.now c.args.pasts.now c.loop-place.pasts c.loop-place.invariant.long
    (λ k d within. c.loop-place.invariant.so_far k d (omega arith))
