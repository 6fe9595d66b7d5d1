use Rattle.std.proofs.Common.{refl}
use Rattle.draw_svg.proofs.laws.style_is_literal.Goals as goal

pub returns : goal.returns
returns c = refl
