use Rattle.std.proofs.Common.{arith}
use Rattle.draw_picture.proofs.laws.viewports_hold_their_middle.Goals as goal

pub returns : goal.returns
returns c columns middle room = (omega arith, λ within some. (omega arith, omega arith))
