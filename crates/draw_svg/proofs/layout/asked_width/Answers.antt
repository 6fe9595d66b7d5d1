use Rattle.std.proofs.Common.{◌≡◌, ◌+◌, ◌*◌, ◌/◌, ap, arith}
use Rattle.events.proofs.NumberLemmas.{greatest_more}
use Rattle.draw_svg.specs.Layout.{width_for}
use Rattle.draw_svg.proofs.layout.asked_width.Goals as goal
use Rattle.draw_svg.proofs.layout.asked_width.Goals.{then-need-ge72, else-need-ge72}

pub loop-bar-preserved : goal.loop-bar-preserved
loop-bar-preserved c =
    let columns = c.args.picture.now.columns in
    let bars = c.deref-bar-items.result.now in
    let more = greatest_more (width_for columns) bars c.loop-bar.bar-index c.bar-item.result c.loop-bar-test.true in
    let here = ap (width_for columns) c.bar-item.is in
    let need : (c.longest_words.result * 6 + 6) / (c.saturating_sub.result + 1) + 1 ≡ width_for columns c.bar-item.result =
    cc (c.longest_words.ensures, c.end_of.ensures, c.saturating_sub.ensures) in
    elim c.if-need-ge72.branch [
      | then-need-ge72 w ↦ omega (arith, more, here, need, c.loop-bar.invariant, w.if-need-ge72.true, w.width-is)
      | else-need-ge72 w ↦ omega (arith, more, here, need, c.loop-bar.invariant, w.if-need-ge72.false, w.max-width.ensures, w.width-is)
    ]
