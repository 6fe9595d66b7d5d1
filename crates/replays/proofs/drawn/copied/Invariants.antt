-- The copies so far are those of the scripts so far.
use Rattle.std.proofs.Common.{◌≡◌, map, take}
use Rattle.replays.proofs.drawn.copied.Given as goal

abbrev pub invariant-loop-script : goal.invariant-loop-script
invariant-loop-script l = map (λ script. script.items) l.copies.items ≡ map (λ script. script.items) (take l.script-index l.scripts)
