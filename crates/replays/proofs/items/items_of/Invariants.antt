-- The items so far name the turns so far.
use Rattle.replays.proofs.Common.{take, Name}
use Rattle.replays.proofs.items.items_of.Given as goal

abbrev pub invariant-loop-process : goal.invariant-loop-process
invariant-loop-process l = Name l.items.items (take l.process-index l.turns)
