use Rattle.pool.proofs.Common.{length, EachIndex, into_iter_items, IsExactAnswer, WerePassedIfKnown}
use Rattle.pool.proofs.KnownLemmas.{IsHalfKnown}
use Rattle.pool.proofs.known.complete.Given as goal

abbrev pub invariant-loop-answer : goal.invariant-loop-answer
invariant-loop-answer g l = record {
  known : IsHalfKnown (IsExactAnswer l.budget) l.segments l.answers.items (into_iter_items l.answer-iterator);
  passed : EachIndex l.answers.items (g.G.Gate.was_passed l.gate);
  rest : WerePassedIfKnown (g.G.Gate.was_passed l.gate) (length l.answers.items) (into_iter_items l.answer-iterator);
}
