use Rattle.art_schedules.proofs.changes.EffectLemmas.{effects-follow}
use Rattle.art_schedules.proofs.laws.changes.effects_follow.Goals as goal

pub returns : goal.returns
returns c =
    effects-follow c.same_trees_are_one.ensures c.leaves_are_put.ensures c.leaves_are_removed.ensures c.pairs_are_hung.ensures
    c.grown_rows_are_hung.ensures
