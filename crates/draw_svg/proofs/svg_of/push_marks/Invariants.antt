use Rattle.std.proofs.Common.{◌≡◌, drop}
use Rattle.std.specs.Prelude.{string_bytes}
use Rattle.draw_svg.specs.Svg.{with_marks}
use Rattle.draw_svg.proofs.svg_of.push_marks.Given as goal

abbrev pub invariant-loop-mark : goal.invariant-loop-mark
invariant-loop-mark l = with_marks (string_bytes l.fn.out) l.width l.bars l.marks ≡ with_marks (string_bytes l.out) l.width l.bars
    (drop l.mark-index l.marks)
