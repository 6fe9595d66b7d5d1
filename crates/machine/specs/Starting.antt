-- What a machine that starts with pairs shows at opening, and why it is not opened.
use Rattle.std.specs.Prelude.{◌≡◌, ℕ, List, None}
use Rattle.events.specs.declared.event.Call.{Call}
use Rattle.map_object.specs.MapObject.{Contents}
use Rattle.art_rows.specs.declared.table.Shape.{Shape}
use Rattle.art_rows.specs.declared.variant.Variant.{Variant}
use Rattle.art_core.specs.declared.process.Process.{Process}
use Rattle.art_core.specs.Core.{State, next_move, opened_on}
use Rattle.art_core.specs.Starts.{AreInsertedIn, StartsOn, IsStartRefused, start_plan}
use Rattle.machine.specs.declared.machines.Machine.{Machine}
use Rattle.plans.specs.declared.fault.MachineFault.{MachineFault}
use Rattle.plans.specs.declared.fault.MachineFault.TheVariants as faults
use Rattle.machine.specs.Machines.{Shows, start_of, turns_left}
use Rattle.machine.specs.Running.{plan_of}

-- The machine shows the state of the plan before its first step, on words with which these pairs
-- start, with this many turns left, and it has the pairs.
pub record IsOpenedWith (shape : Shape) (variant : Variant) (start : Contents) (scripts : List (List Call)) (limit : ℕ)
    (m : Machine) : Type 0 where
  pub words : List ℕ
  pub starts : StartsOn shape variant start words
  pub shows : Shows (plan_of shape variant scripts) m (opened_on (plan_of shape variant scripts) words)
  pub left : turns_left m ≡ limit
  pub same_start : start_of m ≡ start

-- Why a machine with these pairs is not opened: one of them is refused, or memory ran out.
abbrev pub IsNotOpened : Shape → Variant → Contents → MachineFault → Type 0
IsNotOpened shape variant start faults.StartRefused = IsStartRefused shape variant start
IsNotOpened shape variant start faults.Memory = Unit {0}
IsNotOpened shape variant start fault = ⊥

-- A machine that inserts the pairs shows a state in which nothing is left to do.
pub record HasInserted (shape : Shape) (variant : Variant) (start : Contents) (m : Machine) : Type 0 where
  pub state : State
  pub process : Process
  pub inserted : AreInsertedIn shape variant start state process
  pub all : next_move (start_plan shape variant start) 0 process ≡ None
  pub shows : Shows (start_plan shape variant start) m state
