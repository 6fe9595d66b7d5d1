use Rattle.std.proofs.Common.{◌≡◌, drop}
use Rattle.std.specs.Prelude.{string_bytes}
use Rattle.draw_svg.specs.Parts.{with_names}
use Rattle.draw_svg.proofs.part_text.push_names.Given as goal

abbrev pub invariant-loop-lane : goal.invariant-loop-lane
invariant-loop-lane l = with_names (string_bytes l.fn.out) l.x 0 l.lanes ≡ with_names (string_bytes l.out) l.x l.lane (drop l.lane l.lanes)
