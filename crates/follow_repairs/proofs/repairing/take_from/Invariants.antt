use Rattle.follow_repairs.proofs.Common.{◌≡◌, Stands}
use Rattle.follow_repairs.proofs.repairing.take_from.Given as goal

abbrev pub invariant-loop : goal.invariant-loop
invariant-loop l = Stands l.calls l.front × (l.front.start ≡ l.initial.front.start)
