use Rattle.art_schedules.proofs.serial.SerialScheduleLemmas.{serial-runs-alone}
use Rattle.art_schedules.proofs.laws.serial.serial_schedules_run_alone.Goals as goal

pub returns : goal.returns
returns c = serial-runs-alone
