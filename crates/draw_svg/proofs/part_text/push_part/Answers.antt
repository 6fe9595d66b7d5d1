use Rattle.std.proofs.Common.{arith}
use Rattle.draw_svg.specs.Parts.{with_part}
use Rattle.draw_svg.proofs.PartLemmas.{part-whole}
use Rattle.draw_svg.proofs.part_text.push_part.Goals as goal

pub returns : goal.returns
unfolding with_part
returns c =
    part-whole _ _ _ _ c.args.width c.y_of-bottom.result c.x_of-end.result c.len.result c.args.picture.now c.in-Some.part c.in-Some.is
    (omega (arith, c.len.ensures, c.args.picture.now.lanes.ok)) c.y_of-bottom.ensures.value c.x_of-end.ensures.value
    c.in_ok-push_before.ensures c.in_ok-push_after.ensures c.in_ok-push_note.ensures
