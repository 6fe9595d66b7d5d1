-- A runner before its first step.
use Rattle.std.specs.Prelude.{◌≡◌, List, []}
use Rattle.events.specs.declared.event.Call.{Call}
use Rattle.machine.specs.declared.runner.Runner.{Runner}
use Rattle.art.specs.declared.doing.Doing.TheVariants.{Idle}

pub record IsFresh (calls : List Call) (r : Runner) : Type 0 where
  pub script : r.script.items ≡ calls
  pub begun : r.begun ≡ 0
  pub finished : r.finished ≡ 0
  pub doing : r.doing ≡ Idle
  pub log : r.log.items ≡ []
