use Rattle.call_effects.proofs.AlikeLemmas.{places_do_not_matter}
use Rattle.call_effects.proofs.groups.places_do_not_matter.Goals as goal

pub returns : goal.returns
returns c m calls others order alike = places_do_not_matter m calls others order alike
