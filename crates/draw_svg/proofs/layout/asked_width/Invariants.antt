use Rattle.std.proofs.Common.{◌≡◌, map, take}
use Rattle.std.specs.Prelude.{max, min}
use Rattle.events.specs.Lists.{greatest}
use Rattle.draw_svg.specs.Layout.{width_for}
use Rattle.draw_svg.proofs.layout.asked_width.Given as goal

abbrev pub invariant-loop-bar : goal.invariant-loop-bar
invariant-loop-bar l = l.width ≡ min 72 (max 28 (greatest (map (width_for l.picture.columns) (take l.bar-index l.bar-items))))
