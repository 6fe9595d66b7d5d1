use Rattle.draw_svg.specs.Bars.{with_bar}
use Rattle.draw_svg.proofs.PartLemmas.{bar-whole}
use Rattle.draw_svg.proofs.bar_text.push_bar.Goals as goal

pub returns : goal.returns
unfolding with_bar
returns c =
    bar-whole _ _ _ _ _ _ _ _ c.args.width c.args.columns c.args.bar.now c.in_ok-push_opening.ensures c.in_ok-push_title.ensures
    c.in_ok-push_shape.ensures c.in_ok-push_stripes.ensures c.in_ok-push_number.ensures c.in_ok-push_words.ensures c.in_ok-push_str.ensures.bytes
