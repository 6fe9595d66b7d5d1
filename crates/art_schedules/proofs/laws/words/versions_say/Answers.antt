use Rattle.art_schedules.proofs.words.VersionLemmas.{locked_locked, obsolete_locked, locked_released, obsolete_released, locked_obsolete}
use Rattle.art_schedules.proofs.words.VersionLemmas.{obsolete_obsolete}
use Rattle.art_schedules.proofs.laws.words.versions_say.Goals as goal

pub returns : goal.returns
returns c =
    record {
      locked = λ v h. (locked_locked v h, obsolete_locked v);
      released = λ v. (locked_released v, obsolete_released v);
      obsolete = λ v. (locked_obsolete v, obsolete_obsolete v);
    }
