use Rattle.draw_picture.proofs.BarLemmas.{AreBarsBelow}
use Rattle.draw_picture.proofs.bars.push_bars.Given as goal

abbrev pub invariant-loop-number : goal.invariant-loop-number
invariant-loop-number l = AreBarsBelow l.scene.history.now.events l.scene.points.now l.scene.verdict.now l.scene.wrong l.number l.bars.items
