use Rattle.follow_pasts.proofs.OpenReadLemmas.{AreOthers}
use Rattle.follow_pasts.proofs.open_reads.end_in.Given as goal

-- none of the reads so far is the one
abbrev pub invariant-loop-place : goal.invariant-loop-place
invariant-loop-place l = AreOthers l.inv l.fn.reads.items l.reads.items l.place
