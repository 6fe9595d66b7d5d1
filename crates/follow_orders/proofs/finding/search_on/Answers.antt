use Rattle.follow_orders.proofs.Common.{List, sym, ◌∙◌, subst, IfOk, Operation, Contents, Stands, AreCalls, IsWhole, IsAnswer}
use Rattle.follow_orders.proofs.FindLemmas.{keeps}
use Rattle.follow_orders.proofs.finding.search_on.Goals as goal

pub search_tails-requires-clause-calls : goal.search_tails-requires-clause-calls
search_tails-requires-clause-calls c = subst AreCalls (sym c.deref.ensures.value) c.requires.calls

pub search_tails-requires-clause-stands : goal.search_tails-requires-clause-stands
search_tails-requires-clause-stands c = subst (λ (xs : List Operation). Stands xs c.args.front) (sym c.deref.ensures.value) c.requires.stands

pub keep-kept-requires : goal.keep-kept-requires
keep-kept-requires c = record {
  are_calls = c.requires.calls;
  stands = subst (λ (xs : List Operation). Stands xs c.search_tails.new.front) c.deref.ensures.value c.in_ok-found.ensures.stands;
  whole = subst (λ (xs : List Operation). IsWhole xs c.search_tails.new.front) c.deref.ensures.value
      (c.in_ok-found.ensures.whole c.if-found.true);
}

pub returns-then-found : goal.returns-then-found
returns-then-found c =
    keeps c.args.front.start c.args.calls.items c.search_tails.new.front c.keep-kept.result c.keep-kept.ensures c.in_ok-found.ensures.start
    (subst (λ (xs : List Operation). IsWhole xs c.search_tails.new.front) c.deref.ensures.value
    (c.in_ok-found.ensures.whole c.if-found.true))

pub returns : goal.returns
returns c =
    subst (λ (s : Contents). IfOk c.search_all.result (IsAnswer s c.args.calls.items c.args.budget))
    (c.into_start.ensures ∙ c.in_ok-found.ensures.start) c.search_all.ensures
