use Rattle.art_schedules.proofs.coupled.GoodLemmas.{good-rows-stay}
use Rattle.art_schedules.proofs.laws.coupled.good_rows_stay.Goals as goal

pub returns : goal.returns
returns c = good-rows-stay
