use Rattle.art_schedules.proofs.Common.{refl}
use Rattle.art_schedules.proofs.versions.RunLemmas.{sound-at}
use Rattle.art_schedules.proofs.laws.versions.rows_are_sound.Goals as goal

pub returns : goal.returns
returns c = λ plan start words schedule s run full. sound-at plan.variant full plan start words schedule s run refl
