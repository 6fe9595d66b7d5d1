-- What a core may be opened for.
use Rattle.std.specs.Prelude.{◌≤◌, ◌*◌}
use Rattle.events.specs.Limits.{process_limit, call_limit}
use Rattle.art_rows.specs.Table.{IsWithinLimits}
use Rattle.running.specs.declared.view.Setup.{Setup}

-- a setup within the limits
pub record IsSetup (setup : Setup) : Type 0 where
  pub shape : IsWithinLimits setup.shape
  pub some_process : 1 ≤ setup.processes
  pub few_processes : setup.processes ≤ process_limit
  pub few_calls : setup.processes * setup.calls_each ≤ call_limit
