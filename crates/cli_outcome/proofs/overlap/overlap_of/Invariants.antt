-- The counts so far are those of the first events.
use Rattle.cli_outcome.proofs.OverlapLemmas.{IsCounted}
use Rattle.cli_outcome.proofs.overlap.overlap_of.Given as goal

abbrev pub invariant-loop-event : goal.invariant-loop-event
invariant-loop-event l = IsCounted l.events l.event-index l.pending l.overlap
