-- What is sorted and deduplicated has the same calls.
use Rattle.follow_violations.proofs.Common.{dedup_is, Contains-permutation, IsPermutation-sym}
use Rattle.follow_violations.proofs.NameLemmas.{same_spans}
use Rattle.follow_violations.proofs.left_calls.each_once.Goals as goal

pub returns : goal.returns
returns c =
    let is = dedup_is _ _ _ c.dedup.ensures.filtered in
    let moved = c.sort_unstable.ensures.permutation in
    λ x. (
      λ h. Contains-permutation _ _ x (IsPermutation-sym _ _ moved) ((same_spans _ x).0 (rw is at h)),
      λ h. rw is ((same_spans _ x).1 (Contains-permutation _ _ x moved h)),
    )
