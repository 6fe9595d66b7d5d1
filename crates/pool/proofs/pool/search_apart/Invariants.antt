use Rattle.pool.proofs.Common.{All, IfOk, into_iter_items, AnswersOneOf}
use Rattle.pool.proofs.pool.search_apart.Given as goal

abbrev pub invariant-loop-answers : goal.invariant-loop-answers
invariant-loop-answers g l = record {
  so_far : All (AnswersOneOf (g.G.Gate.was_passed l.fn.gate) l.fn.budget l.fn.segments) l.all.items;
  rest : All (λ r. IfOk r (λ v. All (AnswersOneOf (g.G.Gate.was_passed l.fn.gate) l.fn.budget l.fn.segments) v.items))
      (into_iter_items l.answers-iterator);
}
