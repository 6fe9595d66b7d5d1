use Rattle.follow_orders.proofs.Common.{◌≡◌, ◌<◌, List, length, sym, ap, ◌∙◌, subst, arith, IfOk, slice_get_within, Operation, Contents, StoredOrderView}
use Rattle.follow_orders.proofs.Common.{MayBeAnswered, answered, Stands, AreCalls, IsWhole, IsKept, view_of, IsAnswer, Keeps}
use Rattle.follow_orders.proofs.AnswerLemmas.{length_answered, written}
use Rattle.follow_orders.proofs.FindLemmas.{keeps}
use Rattle.follow_orders.proofs.kept_order.StoredOrder.answer.Goals as goal

pub answer_in_order-requires-clause-calls : goal.answer_in_order-requires-clause-calls
answer_in_order-requires-clause-calls c = subst AreCalls (sym c.deref_mut.ensures.value) c.self.invariant.are_calls

pub answer_in_order-requires-clause-stands : goal.answer_in_order-requires-clause-stands
answer_in_order-requires-clause-stands c =
    subst (λ (xs : List Operation). Stands xs c.self.inside.front) (sym c.deref_mut.ensures.value) c.self.invariant.stands

pub answer_in_order-requires-clause-whole : goal.answer_in_order-requires-clause-whole
answer_in_order-requires-clause-whole c =
    subst (λ (xs : List Operation). IsWhole xs c.self.inside.front) (sym c.deref_mut.ensures.value) c.self.invariant.whole

pub answer_in_order-requires-clause-answer : goal.answer_in_order-requires-clause-answer
answer_in_order-requires-clause-answer c =
    subst (λ (xs : List Operation). MayBeAnswered xs c.args.place c.args.response) (sym c.deref_mut.ensures.value)
    (subst (λ (v : StoredOrderView). MayBeAnswered v.calls c.args.place c.args.response) (sym c.self.view_is) c.requires)

pub answer_in_order-requires-clause-known : goal.answer_in_order-requires-clause-known
answer_in_order-requires-clause-known c =
    let may = subst (λ (v : StoredOrderView). MayBeAnswered v.calls c.args.place c.args.response) (sym c.self.view_is) c.requires in
    subst (λ (xs : List Operation). c.args.place < length xs) (sym c.deref_mut.ensures.value)
    (slice_get_within c.self.inside.calls.items c.args.place may.call may.here)

pub keep-kept-requires : goal.keep-kept-requires
keep-kept-requires c =
    let old = c.self.inside.calls in
    let size_is : old.len ≡ length old.items = let of = old.ok.0 in omega (arith, of) in
    let new = c.answer_in_order.new in
    let may = subst (λ (v : StoredOrderView). MayBeAnswered v.calls c.args.place c.args.response) (sym c.self.view_is) c.requires in
    let calls_is = c.in_ok-in_order.ensures.calls
    ∙ ap (λ (xs : List Operation). answered xs c.args.place c.args.response) c.deref_mut.ensures.value in
    let same = ap (λ (xs : List Operation). length xs) calls_is ∙ length_answered old.items c.args.place c.args.response may in
    subst (λ (xs : List Operation). IsKept xs new.front) (sym (written old.items new.calls old.len size_is same)) (record {
      are_calls = c.in_ok-in_order.ensures.are_calls;
      stands = c.in_ok-in_order.ensures.stands;
      whole = c.in_ok-in_order.ensures.whole c.if-in_order.true;
    })

pub returns-then-in_order : goal.returns-then-in_order
returns-then-in_order c =
    let old = c.self.inside.calls in
    let size_is : old.len ≡ length old.items = let of = old.ok.0 in omega (arith, of) in
    let new = c.answer_in_order.new in
    let may = subst (λ (v : StoredOrderView). MayBeAnswered v.calls c.args.place c.args.response) (sym c.self.view_is) c.requires in
    let calls_is = c.in_ok-in_order.ensures.calls
    ∙ ap (λ (xs : List Operation). answered xs c.args.place c.args.response) c.deref_mut.ensures.value in
    let same = ap (λ (xs : List Operation). length xs) calls_is ∙ length_answered old.items c.args.place c.args.response may in
    let same_start = ap (λ (v : StoredOrderView). v.start) c.self.view_is in
    let same_calls = calls_is ∙ ap (λ (v : StoredOrderView). answered v.calls c.args.place c.args.response) c.self.view_is in
    let view = c.keep-kept.ensures
    ∙ ap (λ (xs : List Operation). view_of xs new.front) (written old.items new.calls old.len size_is same) in
    subst (λ (xs : List Operation). Keeps c.args.self.start xs c.keep-kept.result) same_calls
    (keeps c.args.self.start new.calls new.front c.keep-kept.result view (c.in_ok-in_order.ensures.start ∙ same_start)
    (c.in_ok-in_order.ensures.whole c.if-in_order.true))

pub search_on-requires-clause-calls : goal.search_on-requires-clause-calls
search_on-requires-clause-calls c =
    let old = c.self.inside.calls in
    let size_is : old.len ≡ length old.items = let of = old.ok.0 in omega (arith, of) in
    let new = c.answer_in_order.new in
    let may = subst (λ (v : StoredOrderView). MayBeAnswered v.calls c.args.place c.args.response) (sym c.self.view_is) c.requires in
    let calls_is = c.in_ok-in_order.ensures.calls
    ∙ ap (λ (xs : List Operation). answered xs c.args.place c.args.response) c.deref_mut.ensures.value in
    let same = ap (λ (xs : List Operation). length xs) calls_is ∙ length_answered old.items c.args.place c.args.response may in
    subst AreCalls (sym (written old.items new.calls old.len size_is same)) c.in_ok-in_order.ensures.are_calls

pub search_on-requires-clause-stands : goal.search_on-requires-clause-stands
search_on-requires-clause-stands c =
    let old = c.self.inside.calls in
    let size_is : old.len ≡ length old.items = let of = old.ok.0 in omega (arith, of) in
    let new = c.answer_in_order.new in
    let may = subst (λ (v : StoredOrderView). MayBeAnswered v.calls c.args.place c.args.response) (sym c.self.view_is) c.requires in
    let calls_is = c.in_ok-in_order.ensures.calls
    ∙ ap (λ (xs : List Operation). answered xs c.args.place c.args.response) c.deref_mut.ensures.value in
    let same = ap (λ (xs : List Operation). length xs) calls_is ∙ length_answered old.items c.args.place c.args.response may in
    subst (λ (xs : List Operation). Stands xs new.front) (sym (written old.items new.calls old.len size_is same))
    c.in_ok-in_order.ensures.stands

pub returns : goal.returns
returns c =
    let old = c.self.inside.calls in
    let size_is : old.len ≡ length old.items = let of = old.ok.0 in omega (arith, of) in
    let new = c.answer_in_order.new in
    let may = subst (λ (v : StoredOrderView). MayBeAnswered v.calls c.args.place c.args.response) (sym c.self.view_is) c.requires in
    let calls_is = c.in_ok-in_order.ensures.calls
    ∙ ap (λ (xs : List Operation). answered xs c.args.place c.args.response) c.deref_mut.ensures.value in
    let same = ap (λ (xs : List Operation). length xs) calls_is ∙ length_answered old.items c.args.place c.args.response may in
    let same_start = c.in_ok-in_order.ensures.start ∙ ap (λ (v : StoredOrderView). v.start) c.self.view_is in
    let same_calls = written old.items new.calls old.len size_is same ∙ calls_is
    ∙ ap (λ (v : StoredOrderView). answered v.calls c.args.place c.args.response) c.self.view_is in
    subst (λ (s : Contents). IfOk c.search_on.result (IsAnswer s (answered c.args.self.calls c.args.place c.args.response) c.args.budget))
    same_start
    (subst (λ (xs : List Operation). IfOk c.search_on.result (IsAnswer new.front.start xs c.args.budget)) same_calls c.search_on.ensures)
