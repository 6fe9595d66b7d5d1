use Rattle.follow_repairs.proofs.Common.{◌≡◌, Stands}
use Rattle.follow_repairs.proofs.repairing.push_each.Given as goal

abbrev pub invariant-loop-depth : goal.invariant-loop-depth
invariant-loop-depth l = Stands l.calls l.front × (l.front.start ≡ l.initial.front.start)
