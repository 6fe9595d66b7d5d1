use Rattle.std.proofs.Common.{◌≡◌, ◌+◌, map, sum, length, drop}
use Rattle.plans.proofs.scripts.has_room.Given as goal

abbrev pub invariant-loop-script : goal.invariant-loop-script
invariant-loop-script l = sum (map (λ script. length script) (map (λ script. script.items) l.scripts)) + l.left
    ≡ l.calls + sum (map (λ script. length script) (map (λ script. script.items) (drop l.script-index l.scripts)))
