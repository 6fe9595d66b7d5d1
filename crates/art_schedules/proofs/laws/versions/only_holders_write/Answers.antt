use Rattle.art_schedules.proofs.Common.{refl}
use Rattle.art_schedules.proofs.versions.RunLemmas.{written-at}
use Rattle.art_schedules.proofs.laws.versions.only_holders_write.Goals as goal

pub returns : goal.returns
returns c = λ plan start words schedule p s t run full e. written-at plan.variant full plan start words schedule p s t run refl e
