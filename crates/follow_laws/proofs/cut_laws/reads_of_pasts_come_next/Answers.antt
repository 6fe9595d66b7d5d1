use Rattle.follow_laws.proofs.KeptNextLemmas.{reads_of_pasts_come_next}
use Rattle.follow_laws.proofs.cut_laws.reads_of_pasts_come_next.Goals as goal

pub returns : goal.returns
returns c = reads_of_pasts_come_next
