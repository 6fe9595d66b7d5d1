use Rattle.std.proofs.Common.{arith}
use Rattle.draw_svg.proofs.PartLemmas.{legend-whole}
use Rattle.draw_svg.proofs.svg_of.push_legend_of.Goals as goal

pub returns : goal.returns
returns c =
    legend-whole _ _ c.len.result c.y_of-bottom.result c.args.picture.now c.deref.result.now c.has_wrong-red.result
    (omega (arith, c.len.ensures, c.args.picture.now.lanes.ok)) c.y_of-bottom.ensures.value c.deref.ensures.value
    c.has_wrong-red.ensures c.in_ok-push_legend.ensures
