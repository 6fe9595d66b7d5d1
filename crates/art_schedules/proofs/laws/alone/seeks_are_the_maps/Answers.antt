use Rattle.art_schedules.proofs.alone.SeekLawLemmas.{seeks-are-the-maps}
use Rattle.art_schedules.proofs.laws.alone.seeks_are_the_maps.Goals as goal

pub returns : goal.returns
returns c = seeks-are-the-maps c.same_trees_are_one.ensures c.ways_lead_to_values.ensures c.leaves_are_put.ensures
    c.leaves_are_removed.ensures
