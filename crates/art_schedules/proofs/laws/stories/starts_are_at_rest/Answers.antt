use Rattle.art_schedules.proofs.stories.StartLemmas.{starts-at-rest}
use Rattle.art_schedules.proofs.laws.stories.starts_are_at_rest.Goals as goal

pub returns : goal.returns
returns c = starts-at-rest c.tables_open_at_rest.ensures c.same_trees_are_one.ensures c.seeks_are_the_maps.ensures
    c.scans_are_the_maps.ensures
    c.inserts_are_the_maps.ensures
