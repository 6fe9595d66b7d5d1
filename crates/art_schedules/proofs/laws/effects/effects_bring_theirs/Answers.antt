use Rattle.art_schedules.proofs.effects.ApartLemmas.{bring-theirs}
use Rattle.art_schedules.proofs.laws.effects.effects_bring_theirs.Goals as goal

pub returns : goal.returns
returns c = bring-theirs
