-- Machines that have turns to make.
use Rattle.std.specs.Prelude.{◌≡◌, ℕ, ◌<◌, ◌≤◌, length}
use Rattle.art_core.specs.Core.{Plan, State}
use Rattle.machine.specs.declared.machines.Machine.{Machine}
use Rattle.machine.specs.Machines.{Shows, turns_left}
use Rattle.machine.specs.Refusals.{HasMove}

-- the machine shows a state of this many processes, with no fewer turns left than the limit
pub record HasTurns (processes limit : ℕ) (m : Machine) : Type 0 where
  pub plan : Plan
  pub state : State
  pub shows : Shows plan m state
  pub many : length state.processes ≡ processes
  pub left : limit ≤ turns_left m

-- the machine shows a state in which process p has something to do, with a turn left
pub record MayTurn (p : ℕ) (m : Machine) : Type 0 where
  pub plan : Plan
  pub state : State
  pub shows : Shows plan m state
  pub move : HasMove plan state p
  pub left : 0 < turns_left m
