use Rattle.follow_laws.proofs.KeptRestLemmas.{reads_without_report_are_taken}
use Rattle.follow_laws.proofs.event_laws.reads_without_report_are_taken.Goals as goal

pub returns : goal.returns
returns c = reads_without_report_are_taken
