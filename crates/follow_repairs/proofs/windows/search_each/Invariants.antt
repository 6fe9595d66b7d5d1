use Rattle.follow_repairs.proofs.Common.{◌≡◌, Stands}
use Rattle.follow_repairs.proofs.windows.search_each.Given as goal

abbrev pub invariant-loop-window : goal.invariant-loop-window
invariant-loop-window l = Stands l.calls l.front × (l.front.start ≡ l.initial.front.start)
