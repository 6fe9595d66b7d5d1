use Rattle.std.proofs.Common.{map}
use Rattle.std.specs.Vec.Iter.{into_iter_items}
use Rattle.machine.proofs.OpeningLemmas.{AreHalfOpened}
use Rattle.machine.proofs.opening.runners.Given as goal

abbrev pub invariant-loop-script : goal.invariant-loop-script
invariant-loop-script l =
    AreHalfOpened (map (λ script. script.items) l.fn.scripts.items)
    (map (λ script. script.items) (into_iter_items l.script-iterator)) l.runners.items
