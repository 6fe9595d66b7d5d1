use Rattle.follow_parts.proofs.ReadLemmas.{AreAdding}
use Rattle.follow_parts.proofs.reading.add_read.Given as goal

-- the read was added to the pasts so far, and the others are as they were
abbrev pub invariant-loop-place : goal.invariant-loop-place
invariant-loop-place l = AreAdding l.operation l.fn.pasts l.pasts l.place
