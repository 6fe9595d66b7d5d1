use Rattle.follow_orders.proofs.Common.{◌+◌, ◌<◌, List, length, sym, ◌∙◌, subst, arith, ◌^◌, AllPairs, IfOk, Operation, NonePrecedesItself, Contents}
use Rattle.follow_orders.proofs.Common.{Stands, IsWhole, IsAnswer}
use Rattle.follow_orders.proofs.FindLemmas.{keeps}
use Rattle.follow_orders.proofs.kept_order.StoredOrder.find.Goals as goal

pub guessed-requires-clause-rising : goal.guessed-requires-clause-rising
guessed-requires-clause-rising c =
    subst (AllPairs (λ (a : Operation) (b : Operation). a.inv < b.inv)) (sym c.deref.ensures.value) c.requires.rising

pub guessed-requires-clause-apart : goal.guessed-requires-clause-apart
guessed-requires-clause-apart c = subst NonePrecedesItself (sym c.deref.ensures.value) c.requires.apart

pub is_whole-whole-requires : goal.is_whole-whole-requires
is_whole-whole-requires c =
    subst (λ (xs : List Operation). Stands xs c.in_ok-front.front) (c.deref.ensures.value ∙ sym c.deref-2.ensures.value)
    c.in_ok-front.ensures.stands

pub keep-kept-requires : goal.keep-kept-requires
keep-kept-requires c =
    let few : length c.args.calls.items + 1 < 2 ^ 32 = let of = c.args.calls.ok.0 in omega (arith, of, c.len.ensures) in
    record {
      are_calls = record { few = few; rising = c.requires.rising; apart = c.requires.apart };
      stands = subst (λ (xs : List Operation). Stands xs c.in_ok-front.front) c.deref.ensures.value c.in_ok-front.ensures.stands;
      whole = subst (λ (xs : List Operation). IsWhole xs c.in_ok-front.front) c.deref-2.ensures.value
          (c.is_whole-whole.ensures.0 c.if-whole.true);
    }

pub returns-then-whole : goal.returns-then-whole
returns-then-whole c =
    keeps c.args.start c.args.calls.items c.in_ok-front.front c.keep-kept.result c.keep-kept.ensures c.in_ok-front.ensures.start
    (subst (λ (xs : List Operation). IsWhole xs c.in_ok-front.front) c.deref-2.ensures.value
    (c.is_whole-whole.ensures.0 c.if-whole.true))

pub search_on-requires-clause-calls : goal.search_on-requires-clause-calls
search_on-requires-clause-calls c =
    let few : length c.args.calls.items + 1 < 2 ^ 32 = let of = c.args.calls.ok.0 in omega (arith, of, c.len.ensures) in
    record { few = few; rising = c.requires.rising; apart = c.requires.apart }

pub search_on-requires-clause-stands : goal.search_on-requires-clause-stands
search_on-requires-clause-stands c =
    subst (λ (xs : List Operation). Stands xs c.in_ok-front.front) c.deref.ensures.value c.in_ok-front.ensures.stands

pub returns : goal.returns
returns c =
    subst (λ (s : Contents). IfOk c.search_on.result (IsAnswer s c.args.calls.items c.args.budget)) c.in_ok-front.ensures.start
    c.search_on.ensures
