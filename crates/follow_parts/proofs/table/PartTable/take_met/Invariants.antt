use Rattle.follow_parts.proofs.Common.{◌≡◌, Global, List, Part, Vec, things_of}
use Rattle.follow_parts.proofs.TableLemmas.{AreTaken}
use Rattle.follow_parts.proofs.table.PartTable.take_met.Given as goal

-- the parts of the lists so far
abbrev pub invariant-loop-place : goal.invariant-loop-place
invariant-loop-place l =
    (olds : List (Vec Part Global)) × (things_of olds ≡ l.fn.self) × AreTaken l.low l.high olds l.first l.lists.items l.met.items l.place
