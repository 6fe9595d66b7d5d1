use Rattle.explain_histories.proofs.Common.{◌<◌, List, subst, IsSomeAnd, slice_get, Seat}
use Rattle.explain_histories.proofs.seating.end_before.Goals as goal

pub loop-at-preserved : goal.loop-at-preserved
loop-at-preserved c = λ count seated.
    let place = c.args.place in
    c.in_ok-end.ensures.seated count place (c.loop-at.invariant count seated)
    (subst (λ (l : List Seat). IsSomeAnd (slice_get l c.in-Some.at) (λ s. IsSomeAnd s.res (λ res. res < place))) c.deref.ensures.value
    c.in-Some.ensures)
