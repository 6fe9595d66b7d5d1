-- Groups of one process each, before and after its script, and the group of all.
use Rattle.std.specs.Prelude.{◌≡◌, ◌⊎◌, ⊤, ℕ, ◌<◌, Bool, true, false, List, [], ◌∷◌, ◌++◌, map, length, Option, Some, None, Result, Ok, Err}
use Rattle.std.specs.Prelude.{slice_get}
use Rattle.events.specs.declared.event.Call.{Call}
use Rattle.events.specs.declared.memory.Memory.{Memory}
use Rattle.events.specs.HistoryFaults.{ends_waiting}
use Rattle.art_core.specs.declared.process.Process.{Process}
use Rattle.art_core.specs.Core.{begun, idle}
use Rattle.running.specs.declared.view.Setup.{Setup}
use Rattle.running.specs.declared.view.View.{View}
use Rattle.running.specs.Views.{Numbered, merge}
use Rattle.running.specs.declared.arena.Arena.{Arena}
use Rattle.running.specs.declared.group.Pass.{Pass}
use Rattle.running.specs.declared.fault.ArenaClose.{ArenaClose}
use Rattle.running.specs.declared.fault.ArenaClose.TheVariants as faults
use Rattle.running.specs.Groups.{shows, opened_for, IsGroupOf}
use Rattle.running.specs.ArenaDrives.{alone, IsLimited}

-- a group with one process, which has begun nothing yet
pub record IsReady (a : Arena) (p : Pass) : Type 0 where
  pub own : IsGroupOf a p
  pub number : ℕ
  pub known : number < (opened_for a).processes
  pub shown : shows p ≡ alone (opened_for a) number idle

-- whether the last that a process logged is an invocation
abbrev pub is_pending : Process → Bool
is_pending q = ends_waiting false (map (λ e. e.1) q.log)

-- the process did the calls of the script, and each is answered
pub record HasAnsweredAll (script : List Call) (q : Process) : Type 0 where
  pub calls : begun q ≡ script
  pub completed : is_pending q ≡ false

-- the process stopped within the script, and the last of its calls is open
pub record HasStoppedIn (script : List Call) (q : Process) : Type 0 where
  pub rest : List Call
  pub calls : begun q ++ rest ≡ script
  pub pending : is_pending q ≡ true

-- the process ended or stopped so, within the limit
pub record HasDone (setup : Setup) (number limit : ℕ) (script : List Call) (q : Process) : Type 0 where
  pub ended : HasAnsweredAll script q ⊎ HasStoppedIn script q
  pub limited : IsLimited setup limit (number, q)

-- the view shows one process, with this number, which did the script
pub record ShowsDone (setup : Setup) (number limit : ℕ) (script : List Call) (v : View) : Type 0 where
  pub process : Process
  pub is : v.processes ≡ (number, process) ∷ []
  pub done : HasDone setup number limit script process

-- a process passed the gate, and then did its own of the scripts
pub record HasDoneOwn (WasPassed : ℕ → Type 0) (setup : Setup) (limit : ℕ) (scripts : List (List Call)) (x : Numbered) : Type 0 where
  pub passed : WasPassed x.0
  pub did : (script : List Call) → slice_get scripts x.0 ≡ Some script → HasDone setup x.0 limit script x.1

-- the group of one process, which did its own of the scripts
pub record IsGroupAfter (WasPassed : ℕ → Type 0) (a : Arena) (limit : ℕ) (scripts : List (List Call)) (p : Pass) : Type 0 where
  pub own : IsGroupOf a p
  pub process : Numbered
  pub is : (shows p).processes ≡ process ∷ []
  pub known : process.0 < length scripts
  pub done : HasDoneOwn WasPassed (opened_for a) limit scripts process

-- the processes of some groups, and then those of others, each at its place; none if a process ran
-- out of memory
abbrev pub gathered : List Numbered → List (Result Pass Memory) → Option (List Numbered)
gathered xs [] = Some xs
gathered xs (Ok p ∷ done) = gathered (merge xs (shows p).processes) done
gathered xs (Err e ∷ done) = None

-- the processes of all groups
abbrev pub joined : List (Result Pass Memory) → Option (List Numbered)
joined [] = None
joined (Ok p ∷ done) = gathered (shows p).processes done
joined (Err e ∷ done) = None

-- an arena was not closed only because memory ran out
abbrev pub WantsMemory : ArenaClose → Type 0
WantsMemory (faults.StillOut back given) = ⊥
WantsMemory (faults.Memory back given) = ⊤
