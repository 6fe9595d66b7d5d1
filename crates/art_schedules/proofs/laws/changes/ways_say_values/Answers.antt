use Rattle.art_schedules.proofs.changes.SayingLemmas.{ways-say-values}
use Rattle.art_schedules.proofs.laws.changes.ways_say_values.Goals as goal

pub returns : goal.returns
returns c = ways-say-values c.ways_lead_to_values.ensures
