-- What is sorted and deduplicated rises, and has the same events.
use Rattle.follow_violations.proofs.Common.{dedup_is, AllPairs-from_increasing, Contains-dedup_nat, Contains-from_dedup, Contains-permutation}
use Rattle.follow_violations.proofs.Common.{IsPermutation-sym, IsStrictlyIncreasing-dedup}
use Rattle.follow_violations.proofs.left_calls.in_order.Goals as goal

pub returns-clause-rising : goal.returns-clause-rising
returns-clause-rising c =
    let is = dedup_is _ _ _ c.dedup.ensures.filtered in
    rw is (AllPairs-from_increasing _ (IsStrictlyIncreasing-dedup _ c.sort_unstable.ensures.sorted))

pub returns-clause-same : goal.returns-clause-same
returns-clause-same c =
    let is = dedup_is _ _ _ c.dedup.ensures.filtered in
    let moved = c.sort_unstable.ensures.permutation in
    λ x. (
      λ h. Contains-permutation _ _ x (IsPermutation-sym _ _ moved) (Contains-from_dedup _ _ x (rw is at h)),
      λ h. rw is (Contains-dedup_nat _ x (Contains-permutation _ _ x moved h)),
    )
