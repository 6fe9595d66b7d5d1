use Rattle.std.proofs.Common.{◌≡◌, drop}
use Rattle.std.specs.Prelude.{string_bytes}
use Rattle.draw_svg.specs.Svg.{with_lanes}
use Rattle.draw_svg.proofs.svg_of.push_lanes.Given as goal

abbrev pub invariant-loop-lane : goal.invariant-loop-lane
invariant-loop-lane l = with_lanes (string_bytes l.fn.out) l.end 0 l.lanes ≡ with_lanes (string_bytes l.out) l.end l.lane
    (drop l.lane l.lanes)
