use Rattle.running.proofs.Common.{◌≡◌, map, take, length, greatest}
use Rattle.running.proofs.room.most_calls.Given as goal

abbrev pub invariant-loop-script : goal.invariant-loop-script
invariant-loop-script l = l.most ≡ greatest (map (λ script. length script.items) (take l.script-index l.scripts))
