use Rattle.follow_orders.proofs.Common.{◌++◌, List, set, sym, ◌∙◌, subst, Operation, answered_call, IsClosed, HasCompleted, places, Stands, AreCalls}
use Rattle.follow_orders.proofs.Common.{again_or, IsClosed-from_front}
use Rattle.follow_orders.proofs.AnswerLemmas.{answered_is, stands_after, closed_again, complete_again, are_calls_after}
use Rattle.follow_orders.proofs.answering.answer_in_order.Goals as goal

pub push_again-requires-clause-stands : goal.push_again-requires-clause-stands
push_again-requires-clause-stands c =
    let calls = c.args.calls.now in
    let may = c.requires.answer in
    let f = c.take_back.new.front in
    let calls_is = c.write_answer.ensures ∙ answered_is calls c.args.place c.args.response may in
    subst (λ (xs : List Operation). Stands xs f) (sym calls_is)
    (stands_after calls c.args.place c.args.response may f.start f.levels.items f.map f.taken.items f.low c.in_ok-again.ensures.out
    c.in_ok-again.ensures.stands)

pub push_again-requires-clause-closed : goal.push_again-requires-clause-closed
push_again-requires-clause-closed c =
    let calls = c.args.calls.now in
    let w = c.args.front.now in
    let may = c.requires.answer in
    let f = c.take_back.new.front in
    let path = places f.levels.items in
    let order = places w.levels.items in
    let again = c.in_ok-again.again.items in
    let calls_is = c.write_answer.ensures ∙ answered_is calls c.args.place c.args.response may in
    subst (λ (xs : List Operation). IsClosed xs (path ++ again_or c.args.place c.deref.result.now)) (sym calls_is)
    (subst (λ xs. IsClosed (set calls c.args.place (answered_call may.call c.args.response)) (path ++ again_or c.args.place xs)) (sym c.deref.ensures.value)
    (closed_again calls c.args.place c.args.response may path again order c.in_ok-again.ensures.again
    (IsClosed-from_front w.start calls order c.requires.stands.is_front) c.in_ok-again.ensures.out c.requires.whole.complete))

pub push_again-requires-clause-complete : goal.push_again-requires-clause-complete
push_again-requires-clause-complete c =
    let calls = c.args.calls.now in
    let w = c.args.front.now in
    let may = c.requires.answer in
    let path = places c.take_back.new.front.levels.items in
    let order = places w.levels.items in
    let again = c.in_ok-again.again.items in
    let calls_is = c.write_answer.ensures ∙ answered_is calls c.args.place c.args.response may in
    subst (λ (xs : List Operation). HasCompleted xs (path ++ again_or c.args.place c.deref.result.now)) (sym calls_is)
    (subst (λ xs. HasCompleted (set calls c.args.place (answered_call may.call c.args.response)) (path ++ again_or c.args.place xs))
    (sym c.deref.ensures.value)
    (complete_again calls c.args.place c.args.response may path again order c.in_ok-again.ensures.again c.in_ok-again.ensures.from
    c.requires.whole.complete))

pub returns-clause-are_calls : goal.returns-clause-are_calls
returns-clause-are_calls c =
    let calls = c.args.calls.now in
    let may = c.requires.answer in
    subst AreCalls (sym (c.write_answer.ensures ∙ answered_is calls c.args.place c.args.response may))
    (are_calls_after calls c.args.place c.args.response may c.requires.calls)

pub returns-clause-start : goal.returns-clause-start
returns-clause-start c = c.in_ok-pushed.ensures.start ∙ c.in_ok-again.ensures.start
