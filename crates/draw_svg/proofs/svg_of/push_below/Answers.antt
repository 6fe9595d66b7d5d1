use Rattle.draw_svg.proofs.PartLemmas.{svg-whole}
use Rattle.draw_svg.proofs.svg_of.push_below.Goals as goal

pub returns : goal.returns
returns c =
    svg-whole _ _ _ _ _ c.args.width c.args.all c.args.picture.now c.requires.width c.requires.all c.requires.top c.in_ok-push_calls.ensures
    c.in_ok-push_order.ensures c.in_ok-push_foot.ensures
