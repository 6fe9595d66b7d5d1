-- The keys rise so far, from each pair to the next.
use Rattle.plan_text.proofs.RisingPairLemmas.{RisesNext}
use Rattle.plan_text.proofs.starting_pairs.keys_rise.Given as goal

abbrev pub invariant-loop-place : goal.invariant-loop-place
invariant-loop-place l = RisesNext l.pairs l.place
