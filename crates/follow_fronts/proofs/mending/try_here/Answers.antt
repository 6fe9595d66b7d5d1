use Rattle.follow_fronts.proofs.Common.{◌≡◌, Some, [], ◌∷◌, ◌++◌, length, reverse, refl, ap, ◌∙◌, subst, slice_get, append_assoc, slice_get_read}
use Rattle.follow_fronts.proofs.Common.{IsLegalCall, places}
use Rattle.follow_fronts.proofs.ClosedLemmas.{below-closed, IsNext-from_closed}
use Rattle.follow_fronts.proofs.mending.try_here.Goals as goal

pub bounds-calls-place : goal.bounds-calls-place
bounds-calls-place c =
    below-closed c.args.calls.now (places c.args.front.now.levels.items) c.args.place (reverse c.args.back.now) c.requires.closed

pub push-requires-clause-next : goal.push-requires-clause-next
push-requires-clause-next c =
    let calls = c.args.calls.now in
    let path = places c.args.front.now.levels.items in
    let rest = reverse c.args.back.now in
    let a = c.index-calls-place.result in
    let lt = below-closed calls path c.args.place rest c.requires.closed in
    let here : slice_get calls c.args.place ≡ Some a = slice_get_read calls (length calls) c.args.place a refl lt c.index-calls-place.is in
    IsNext-from_closed c.args.front.now.start calls path c.args.place rest a c.requires.closed here
    (subst (λ m. IsLegalCall m a.call a.response) c.requires.stands.holds (c.may_come_next.ensures.0 c.if-not-may_come_next.false))

pub returns-clause-longer : goal.returns-clause-longer
returns-clause-longer c =
    let path = places c.args.front.now.levels.items in
    let (more, is) = c.in_ok-pushed.ensures.longer in
    (c.args.place ∷ more, is ∙ ap (λ xs. xs ++ more) c.in_ok-push.ensures.places ∙ append_assoc path (c.args.place ∷ []) more)
