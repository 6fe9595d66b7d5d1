use Rattle.std.proofs.Common.{arith}
use Rattle.draw_picture.proofs.lanes.lane_of.Goals as goal

pub unreachable-requires : goal.unreachable-requires
unreachable-requires c = c.loop-place.invariant c.requires.0 c.args.process (omega arith) c.requires.2
