use Rattle.art_schedules.proofs.trees.WayValues.{ways-lead-to-values}
use Rattle.art_schedules.proofs.laws.trees.ways_lead_to_values.Goals as goal

pub returns : goal.returns
returns c = ways-lead-to-values
