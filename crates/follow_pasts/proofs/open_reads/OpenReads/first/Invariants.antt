use Rattle.follow_pasts.proofs.OpenReadLemmas.{IsFirstSeen}
use Rattle.follow_pasts.proofs.open_reads.OpenReads.first.Given as goal

-- the first of the reads in the lists so far
abbrev pub invariant-loop-place : goal.invariant-loop-place
invariant-loop-place l = IsFirstSeen l.ranges l.self-inside.lists.items l.from l.place l.first
