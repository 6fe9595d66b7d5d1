use Rattle.draw_picture.proofs.InsideLemmas.{marks_stay_inside}
use Rattle.draw_picture.proofs.laws.marks_stay_inside.Goals as goal

pub returns : goal.returns
returns c = marks_stay_inside
