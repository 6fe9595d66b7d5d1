use Rattle.draw_picture.proofs.BarLemmas.{spans-of}
use Rattle.draw_picture.proofs.pictures_of.bars_and_marks.Goals as goal

pub marks_of-requires-clause-bars : goal.marks_of-requires-clause-bars
marks_of-requires-clause-bars c = rw c.deref.ensures.value (spans-of _ _ _ _ _ c.in_ok-bars.ensures)
