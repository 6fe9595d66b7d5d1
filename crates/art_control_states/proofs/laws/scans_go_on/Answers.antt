use Rattle.art_control_states.proofs.ScanLemmas.{scan_goes_on}
use Rattle.art_control_states.proofs.laws.scans_go_on.Goals as goal

pub returns : goal.returns
returns c = scan_goes_on
