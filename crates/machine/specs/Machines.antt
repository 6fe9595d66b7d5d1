-- What it means that a machine shows a state of the core.
use Rattle.std.specs.Prelude.{ℕ, List}
use Rattle.map_object.specs.MapObject.{Contents}
use Rattle.art_core.specs.Core.{Plan, State}
use Rattle.art_core.specs.Plans.{IsRun}
use Rattle.machine.specs.declared.machines.Machine.{Machine}
use Rattle.machine.specs.Fitting.{ShowsState}

-- The machine shows this state of the plan: the same words, and each runner fits its process.
abbrev pub Shows : Plan → Machine → State → Type 0
Shows plan m s = ShowsState plan m.shape m.variant m.words.items m.runners.items s

-- the pairs with which it started
abbrev pub start_of : Machine → Contents
start_of m = m.start.items

-- A schedule gives a state that the machine shows, of a plan within the limits, from its starting pairs on and after few steps.
pub record IsReached (m : Machine) : Type 0 where
  pub plan : Plan
  pub first : List ℕ
  pub schedule : List ℕ
  pub state : State
  pub run : IsRun plan (start_of m) first schedule state
  pub shows : Shows plan m state

-- how many turns are left to it
abbrev pub turns_left : Machine → ℕ
turns_left m = m.left
