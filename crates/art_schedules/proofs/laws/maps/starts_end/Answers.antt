use Rattle.art_schedules.proofs.maps.StartEndLemmas.{starts-end}
use Rattle.art_schedules.proofs.laws.maps.starts_end.Goals as goal

pub returns : goal.returns
returns c = starts-end c.tables_open_at_rest.ensures c.same_trees_are_one.ensures c.seeks_are_the_maps.ensures c.scans_are_the_maps.ensures
    c.inserts_are_the_maps.ensures
