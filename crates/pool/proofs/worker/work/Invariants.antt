use Rattle.pool.proofs.Common.{◌≡◌, All, counter, counter_of, left_of, AnswersOneOf}
use Rattle.pool.proofs.worker.work.Given as goal

abbrev pub invariant-loop-alloc : goal.invariant-loop-alloc
invariant-loop-alloc g l = (counter_of l.hand ≡ counter l.tickets)
    × All (AnswersOneOf (g.G.Gate.was_passed l.gate) l.budget l.segments) l.answers.items

abbrev pub decreases-loop-alloc : goal.decreases-loop-alloc
decreases-loop-alloc g l = left_of l.hand
