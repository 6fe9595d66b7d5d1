-- What an arena that ends returns: the history of a state of the core, or the arena and the group.
use Rattle.std.specs.Prelude.{◌≡◌, ◌≢◌, ℕ, List, length}
use Rattle.events.specs.HistoryView.{HistoryView, with_no_start}
use Rattle.art_core.specs.Core.{history_of, opened}
use Rattle.art_core.specs.Runs.{Gives}
use Rattle.art_core.specs.Plans.{IsPlan}
use Rattle.running.specs.declared.view.Setup.{Setup}
use Rattle.running.specs.declared.view.View.{View}
use Rattle.running.specs.Ends.{plan_of, state_of}
use Rattle.running.specs.declared.arena.Arena.{Arena}
use Rattle.running.specs.declared.group.Pass.{Pass}
use Rattle.running.specs.declared.fault.ArenaClose.{ArenaClose}
use Rattle.running.specs.declared.fault.ArenaClose.TheVariants.{StillOut, Memory}
use Rattle.running.specs.Groups.{shows, opened_for, IsGroupOf}

-- the view has as many processes as there are. So it has all of them, since each is in only one
-- group
abbrev pub HoldsAll : Setup → View → Type 0
HoldsAll setup v = length v.processes ≡ setup.processes

-- The history of these processes, in a state of the core that some schedule gives for the shape and
-- the variant, with the calls begun as scripts.
pub record IsHistoryOf (setup : Setup) (v : View) (h : HistoryView) : Type 0 where
  pub words : List ℕ
  pub schedule : List ℕ
  pub within : IsPlan (plan_of setup v)
  pub gives : Gives (plan_of setup v) (opened (plan_of setup v)) schedule (state_of words v)
  pub is : h ≡ with_no_start (history_of (state_of words v))

-- the arena is returned, and the group shows what it showed before
pub record ComesBack (a : Arena) (p : Pass) (back : Arena) (given : Pass) : Type 0 where
  pub arena : back ≡ a
  pub own : IsGroupOf back given
  pub shown : shows given ≡ shows p

-- both are returned: the group does not have all processes, or memory ran out
abbrev pub IsHandedBack : Arena → Pass → ArenaClose → Type 0
IsHandedBack a p (StillOut back given) = ComesBack a p back given × (length (shows p).processes ≢ (opened_for a).processes)
IsHandedBack a p (Memory back given) = ComesBack a p back given × HoldsAll (opened_for a) (shows p)
