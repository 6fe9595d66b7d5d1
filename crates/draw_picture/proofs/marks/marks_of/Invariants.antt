use Rattle.events.specs.Operations.{operations}
use Rattle.draw_picture.proofs.MarkLemmas.{AreMarksBelow}
use Rattle.draw_picture.proofs.marks.marks_of.Given as goal

abbrev pub invariant-loop-place : goal.invariant-loop-place
invariant-loop-place l = AreMarksBelow (operations l.scene.history.now.events) l.order l.bars l.place l.marks.items
