use Rattle.art_schedules.proofs.coupled.WalkLemmas.{walks-are-the-maps, walks-stay}
use Rattle.art_schedules.proofs.laws.coupled.walks_are_the_maps.Goals as goal

pub returns-clause-maps : goal.returns-clause-maps
returns-clause-maps c = walks-are-the-maps c.scans_are_the_maps.ensures

pub returns-clause-stay : goal.returns-clause-stay
returns-clause-stay c = walks-stay
