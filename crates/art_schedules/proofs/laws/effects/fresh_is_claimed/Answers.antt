use Rattle.art_schedules.proofs.effects.ApartLemmas.{fresh-claimed}
use Rattle.art_schedules.proofs.laws.effects.fresh_is_claimed.Goals as goal

pub returns : goal.returns
returns c = fresh-claimed
