use Rattle.draw_picture.proofs.Common.{◌≡◌, ◌++◌, lanes}
use Rattle.draw_picture.proofs.LaneLemmas.{lanes_from}
use Rattle.draw_picture.proofs.lanes.lanes_of.Given as goal

abbrev pub invariant-loop-process : goal.invariant-loop-process
invariant-loop-process l = lanes l.events ≡ l.lanes.items ++ lanes_from l.events l.process
