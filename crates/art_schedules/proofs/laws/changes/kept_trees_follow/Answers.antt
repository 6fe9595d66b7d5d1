use Rattle.art_schedules.proofs.changes.FollowLemmas.{kept-trees-follow}
use Rattle.art_schedules.proofs.laws.changes.kept_trees_follow.Goals as goal

pub returns : goal.returns
returns c = kept-trees-follow c.same_trees_are_one.ensures
