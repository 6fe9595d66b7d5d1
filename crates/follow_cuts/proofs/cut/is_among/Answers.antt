use Rattle.follow_cuts.proofs.Common.{◌≡◌, Some, length, refl, slice_get, slice_get_read, Contains-at}
use Rattle.follow_cuts.proofs.cut.is_among.Goals as goal

pub returns-then-are_kept_alike : goal.returns-then-are_kept_alike
returns-then-are_kept_alike c =
    let pasts = c.args.pasts.now in
    let other = c.other-item.result in
    let here : slice_get pasts c.loop-other.other-index ≡ Some other =
    slice_get_read pasts (length pasts) c.loop-other.other-index other refl c.loop-other-test.true c.other-item.is in
    λ is. (other, Contains-at pasts c.loop-other.other-index other here, c.are_kept_alike.ensures c.if-are_kept_alike.true)
