use Rattle.std.proofs.Common.{◌≡◌, drop}
use Rattle.std.specs.Prelude.{string_bytes}
use Rattle.draw_svg.specs.Svg.{with_bars}
use Rattle.draw_svg.proofs.svg_of.push_bars.Given as goal

abbrev pub invariant-loop-bar : goal.invariant-loop-bar
invariant-loop-bar l = with_bars (string_bytes l.fn.out) l.width l.columns l.bars ≡ with_bars (string_bytes l.out) l.width l.columns
    (drop l.bar-index l.bars)
