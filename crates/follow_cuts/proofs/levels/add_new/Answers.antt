use Rattle.follow_cuts.proofs.Common.{◌≡◌, List, Some, inr, length, refl, subst, slice_get, Contains, slice_get_read, Contains-at, Position}
use Rattle.follow_cuts.proofs.levels.add_new.Goals as goal

pub returns-then-are_alike : goal.returns-then-are_alike
returns-then-are_alike c =
    let items = c.deref-other-items.result.now in
    let other = c.other-item.result in
    let here : slice_get items c.loop-other.other-index ≡ Some other =
    slice_get_read items (length items) c.loop-other.other-index other refl c.loop-other-test.true c.other-item.is in
    inr (
      refl,
      (
        other,
        subst (λ (l : List Position). Contains l other) c.deref-other-items.ensures.value (Contains-at items c.loop-other.other-index other here),
        c.are_alike.ensures c.if-are_alike.true,
      ),
    )
