use Rattle.art_schedules.proofs.effects.MarkLemmas.{obsolete-hangs}
use Rattle.art_schedules.proofs.laws.effects.obsolete_rows_hang.Goals as goal

pub returns : goal.returns
returns c = obsolete-hangs
