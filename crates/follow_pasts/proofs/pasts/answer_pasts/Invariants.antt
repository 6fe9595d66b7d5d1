use Rattle.std.specs.Vec.Iter.{into_iter_items}
use Rattle.follow_pasts.proofs.AnsweringLemmas.{AreAnswering}
use Rattle.follow_pasts.proofs.pasts.answer_pasts.Given as goal

-- the pasts so far are right for the pasts passed
abbrev pub invariant-loop-past : goal.invariant-loop-past
invariant-loop-past l = AreAnswering l.operation l.fn.pasts.items l.left.items (into_iter_items l.past-iterator)
