use Rattle.art_schedules.proofs.maps.SerialMapLemmas.{serial-is-map}
use Rattle.art_schedules.proofs.laws.maps.serial_is_map.Goals as goal

pub returns : goal.returns
returns c = serial-is-map c.tables_open_at_rest.ensures c.same_trees_are_one.ensures c.seeks_are_the_maps.ensures
    c.scans_are_the_maps.ensures
    c.inserts_are_the_maps.ensures
