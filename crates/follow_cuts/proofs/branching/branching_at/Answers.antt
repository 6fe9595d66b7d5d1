use Rattle.follow_cuts.proofs.Common.{length, refl, slice_get_read, slice_get_within}
use Rattle.follow_cuts.proofs.EndLemmas.{branches_there}
use Rattle.follow_cuts.proofs.branching.branching_at.Goals as goal

pub returns-clause-branching : goal.returns-clause-branching
returns-clause-branching c =
    let calls = c.args.calls.now in
    let first = c.requires.first in
    let o = c.index-calls-place.result in
    branches_there calls c.args.position.now c.args.place c.args.answered o c.in_ok-keys.keys first
    (slice_get_read calls (length calls) c.args.place o refl (slice_get_within calls c.args.place first.call first.is_left.here)
    c.index-calls-place.is)
    c.in_ok-keys.ensures
