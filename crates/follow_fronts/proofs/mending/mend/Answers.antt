use Rattle.follow_fronts.proofs.Common.{◌++◌, reverse, sym, subst, IsClosed, places}
use Rattle.follow_fronts.proofs.ClosedLemmas.{IsClosed-from_front}
use Rattle.follow_fronts.proofs.mending.mend.Goals as goal

pub push_reversed-requires-clause-closed : goal.push_reversed-requires-clause-closed
push_reversed-requires-clause-closed c =
    let calls = c.args.calls.now in
    let w = c.args.front.now in
    let left = places c.put_back.new.front.levels.items in
    subst (λ xs. IsClosed calls (left ++ reverse xs)) (sym c.deref.ensures.value)
    (subst (IsClosed calls) (c.in_ok-found.ensures.back c.if-found.false)
    (IsClosed-from_front w.start calls (places w.levels.items) c.requires.stands.is_front))
