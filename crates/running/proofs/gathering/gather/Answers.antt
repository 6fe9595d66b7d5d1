use Rattle.std.proofs.Common.{◌∙◌, arith}
use Rattle.running.proofs.gathering.gather.Goals as goal

pub loop-taken-preserved : goal.loop-taken-preserved
loop-taken-preserved c =
    let i = c.loop-taken.invariant in
    let m = c.move_last.ensures in
    let ir = i.room in
    let il = i.left in
    let io = i.long in
    let ic = i.capacity in
    let ml = m.long in
    let ms = m.shorter in
    let mc = m.capacity in
    record { items = m.items ∙ i.items; room = omega arith; left = omega arith; long = omega arith; capacity = omega arith }
