-- The orders so far, and those among the answers that are left.
use Rattle.judge.proofs.Common.{◌≡◌, ◌++◌, map, orders_in}
use Rattle.std.specs.Vec.Iter.{into_iter_items}
use Rattle.judge.proofs.conclusion.orders_of.Given as goal

abbrev pub invariant-loop-answer : goal.invariant-loop-answer
invariant-loop-answer l = record {
  can_next : (goal.iterator-loop-answer).can_next l.answer-iterator;
  is_finite : (goal.iterator-loop-answer).is_finite l.answer-iterator;
  orders : map (λ v. v.items) l.orders.items ++ orders_in (into_iter_items l.answer-iterator) ≡ orders_in l.fn.answers.items;
}
