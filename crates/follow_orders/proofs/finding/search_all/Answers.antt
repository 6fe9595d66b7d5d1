use Rattle.follow_orders.proofs.Common.{◌<◌, arith, List, refl, sym, ◌∙◌, subst, AllPairs, Operation, NonePrecedesItself, IsOrder, IsLinearizable, Stands}
use Rattle.memo.specs.Counts.{ReachesMoreThan}
use Rattle.follow_orders.proofs.FindLemmas.{over, keeps}
use Rattle.follow_orders.proofs.OverlapLemmas.{reached_without_overlap}
use Rattle.follow_orders.specs.Answers.{HaveNoOverlap}
use Rattle.follow_orders.proofs.finding.search_all.Goals as goal

pub search_calls-requires-clause-rising : goal.search_calls-requires-clause-rising
search_calls-requires-clause-rising c =
    subst (AllPairs (λ (a : Operation) (b : Operation). a.inv < b.inv)) (sym c.deref-2.ensures.value) c.requires.rising

pub search_calls-requires-clause-apart : goal.search_calls-requires-clause-apart
search_calls-requires-clause-apart c = subst NonePrecedesItself (sym c.deref-2.ensures.value) c.requires.apart

pub front_of-requires-clause-apart : goal.front_of-requires-clause-apart
front_of-requires-clause-apart c = subst NonePrecedesItself (sym c.deref-in-Order.ensures.value) c.requires.apart

pub front_of-requires-clause-order : goal.front_of-requires-clause-order
front_of-requires-clause-order c =
    let found = rw c.in-Order.is at c.in_ok-order.ensures in
    let order = over (λ m xs. IsOrder m xs c.in-Order.order.items) c.in_ok-map.map c.args.start c.deref-2.result.now c.deref-in-Order.result.now
    c.in_ok-map.ensures (c.deref-2.ensures.value ∙ sym c.deref-in-Order.ensures.value) found in
    subst (IsOrder c.args.start c.deref-in-Order.result.now) (sym c.deref-in-Order-2.ensures.value) order

pub keep-kept-requires : goal.keep-kept-requires
keep-kept-requires c =
    let found = rw c.in-Order.is at c.in_ok-order.ensures in
    let front = c.in_ok-front-in-Order.front in
    let is = c.in_ok-front-in-Order.ensures.order ∙ c.deref-in-Order-2.ensures.value in
    record {
      are_calls = c.requires;
      stands = subst (λ (xs : List Operation). Stands xs front) c.deref-in-Order.ensures.value c.in_ok-front-in-Order.ensures.stands;
      whole = subst (IsOrder front.start c.args.calls.items) (sym is)
          (over (λ m xs. IsOrder m xs c.in-Order.order.items) c.in_ok-map.map front.start c.deref-2.result.now c.args.calls.items
          (c.in_ok-map.ensures ∙ sym c.in_ok-front-in-Order.ensures.start) c.deref-2.ensures.value found);
    }

pub returns-in_ok-front-in-Order : goal.returns-in_ok-front-in-Order
returns-in_ok-front-in-Order c =
    let found = rw c.in-Order.is at c.in_ok-order.ensures in
    let front = c.in_ok-front-in-Order.front in
    let is = c.in_ok-front-in-Order.ensures.order ∙ c.deref-in-Order-2.ensures.value in
    keeps c.args.start c.args.calls.items front c.keep-kept.result c.keep-kept.ensures c.in_ok-front-in-Order.ensures.start
    (subst (IsOrder front.start c.args.calls.items) (sym is)
    (over (λ m xs. IsOrder m xs c.in-Order.order.items) c.in_ok-map.map front.start c.deref-2.result.now c.args.calls.items
    (c.in_ok-map.ensures ∙ sym c.in_ok-front-in-Order.ensures.start) c.deref-2.ensures.value found))

pub returns-in-NoOrder : goal.returns-in-NoOrder
returns-in-NoOrder c = record {
  none = over (λ m xs. IsLinearizable m xs → ⊥) c.in_ok-map.map c.args.start c.deref-2.result.now c.args.calls.items c.in_ok-map.ensures
      c.deref-2.ensures.value (rw c.in-NoOrder.is at c.in_ok-order.ensures);
  same_start = refl;
  same_calls = refl;
}

pub returns-in-Spent : goal.returns-in-Spent
returns-in-Spent c =
    let most = c.budget_for-budget.result in
    let reaches = over (λ m xs. ReachesMoreThan m xs most) c.in_ok-map.map c.args.start c.deref-2.result.now c.args.calls.items
    c.in_ok-map.ensures c.deref-2.ensures.value (rw c.in-Spent.is at c.in_ok-order.ensures) in
    record {
      reaches = record {
        reached = reaches.reached;
        distinct = reaches.distinct;
        each = reaches.each;
        above = omega (arith, reaches.above, c.budget_for-budget.ensures.least);
      };
      overlap = λ apart.
          absurd (omega (
            arith,
            reached_without_overlap c.args.start c.args.calls.items most c.requires.rising apart reaches,
            c.budget_for-budget.ensures.enough (subst HaveNoOverlap (sym c.deref.ensures.value) apart),
          ));
      same_start = refl;
      same_calls = refl;
    }
