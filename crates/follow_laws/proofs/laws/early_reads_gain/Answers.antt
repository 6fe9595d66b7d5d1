use Rattle.follow_laws.proofs.WiderLemmas.{early_reads_gain}
use Rattle.follow_laws.proofs.laws.early_reads_gain.Goals as goal

pub returns : goal.returns
returns c = early_reads_gain
