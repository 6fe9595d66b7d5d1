use Rattle.call_effects.proofs.GroupLemmas.{ranges_suffice}
use Rattle.call_effects.proofs.groups.ranges_suffice.Goals as goal

pub returns : goal.returns
returns c low high m calls order names = ranges_suffice low high m calls order names
