use Rattle.follow_repairs.proofs.Common.{◌++◌, sym, ◌∙◌, ap, subst, IsOrder, IsFront-from_order, places}
use Rattle.follow_fronts.specs.Closed.{IsClosed}
use Rattle.follow_fronts.proofs.ClosedLemmas.{IsClosed-from_front}
use Rattle.follow_repairs.proofs.windows.search_left.Goals as goal

pub push_all-requires-clause-closed : goal.push_all-requires-clause-closed
push_all-requires-clause-closed c =
    let calls = c.args.calls.now in
    let start = c.args.front.now.start in
    let all = places c.args.front.now.levels.items ++ c.in-Some.more.items in
    let order = rw c.in-Some.is at c.in_ok-more.ensures in
    subst (λ xs. IsClosed calls (places c.args.front.now.levels.items ++ xs)) (sym c.deref.ensures.value)
    (IsClosed-from_front start calls all (IsFront-from_order start calls all c.requires.calls.apart order))

pub returns-clause-whole : goal.returns-clause-whole
returns-clause-whole c = λ yes.
    let calls = c.args.calls.now in
    let path = places c.args.front.now.levels.items in
    let order = rw c.in-Some.is at c.in_ok-more.ensures in
    let is = c.in_ok-pushed.ensures.all yes ∙ ap (λ xs. path ++ xs) c.deref.ensures.value in
    subst (λ start. IsOrder start calls (places c.push_all.new.front.levels.items)) (sym c.in_ok-pushed.ensures.start)
    (subst (IsOrder c.args.front.now.start calls) (sym is) order)
