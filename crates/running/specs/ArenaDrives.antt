-- What is recorded while each process does the calls of a script of its own on one tree.
use Rattle.std.specs.Prelude.{◌≡◌, ◌⊎◌, ℕ, ◌+◌, ◌*◌, ◌≤◌, is_some, IsTrue, List, [], ◌∷◌, length, Some, None, slice_get, All}
use Rattle.events.specs.declared.event.Call.{Call}
use Rattle.events.specs.HistoryView.{HistoryView}
use Rattle.orders.specs.Orders.{IsLinearizableHistory}
use Rattle.art_rows.specs.declared.table.Shape.{Shape}
use Rattle.art_rows.specs.declared.variant.Variant.{Variant}
use Rattle.art_rows.specs.declared.variant.Variant.TheVariants.{Coupled, Optimistic}
use Rattle.art_core.specs.declared.process.Process.{Process}
use Rattle.art_core.specs.Core.{begun, idle}
use Rattle.running.specs.declared.view.Setup.{Setup}
use Rattle.running.specs.declared.view.View.{View}
use Rattle.running.specs.Views.{Numbered, view}
use Rattle.running.specs.Drives.{HasFinished, HasStopped, HaveScripts, most_calls}
use Rattle.running.specs.Groups.{setup_with}
use Rattle.running.specs.Closing.{IsHistoryOf}
use Rattle.running.specs.Steps.{HasInvoked, Ran}

-- a view of one process
abbrev pub alone : Setup → ℕ → Process → View
alone setup number q = view setup ((number, q) ∷ [])

-- A process that has no open call invokes this one, and then makes at most this many steps of it.
pub record DoesCall (setup : Setup) (number limit : ℕ) (call : Call) (old new : Process) : Type 0 where
  pub none : old.call ≡ None
  pub invoking : Process
  pub invoked : HasInvoked call (alone setup number old) (alone setup number invoking)
  pub made : ℕ
  pub few : made ≤ limit
  pub ran : Ran made (alone setup number invoking) (alone setup number new)

-- a process does these calls so, one after another, and nothing else
abbrev pub DoesCalls : Setup → ℕ → ℕ → List Call → Process → Process → Type 0
DoesCalls setup number limit [] old new = new ≡ old
DoesCalls setup number limit (call ∷ calls) old new =
    (mid : Process) × DoesCall setup number limit call old mid × DoesCalls setup number limit calls mid new

-- From its first step on a process did the calls that it began. It made at most this many steps of
-- each after the step of the invocation, so no more in sum. If the last call is open, all of these
-- steps are accesses of it.
pub record IsLimited (setup : Setup) (limit : ℕ) (x : Numbered) : Type 0 where
  pub each : DoesCalls setup x.0 limit (begun x.1) idle x.1
  pub steps : x.1.steps ≤ (limit + 1) * length (begun x.1)
  pub pending : IsTrue (is_some x.1.call) → length x.1.got ≡ limit

-- The history is one that an arena of the shape and the variant gives when it closes. It is that of
-- a state of the core which some schedule gives, and in which no process is above its limit. Each
-- process did its script, or stopped within it, and then only its last call is pending. There is no
-- other process. If the tree is a full one, the history has an order.
pub record IsArenaDriveOf (shape : Shape) (variant : Variant) (limit : ℕ) (scripts : List (List Call))
    (history : HistoryView) : Type 0 where
  pub view : View
  pub gives : IsHistoryOf (setup_with shape variant (length scripts) (most_calls scripts)) view history
  pub limited : All (IsLimited (setup_with shape variant (length scripts) (most_calls scripts)) limit) view.processes
  pub processes : HaveScripts scripts history.events
  pub ended : (p : ℕ) (script : List Call) → slice_get scripts p ≡ Some script → HasFinished history.events p script
      ⊎ HasStopped history.events p script
  pub linearizable : (variant ≡ Coupled) ⊎ (variant ≡ Optimistic) → IsLinearizableHistory history
