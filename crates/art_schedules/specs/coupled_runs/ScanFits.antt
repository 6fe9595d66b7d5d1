-- What fits an open scan of the coupled tree.
use Rattle.std.specs.Prelude.{◌≡◌, ℕ, List}
use Rattle.events.specs.declared.event.Call.{Call}
use Rattle.events.specs.declared.event.Call.TheVariants.{Scan}
use Rattle.art_rows.specs.declared.table.Shape.{Shape}
use Rattle.art_rows.specs.declared.variant.Variant.TheVariants.{Coupled}
use Rattle.art_control_states.specs.Scans.{ScanAt}
use Rattle.art_control_states.specs.Calls.{OnScan}
use Rattle.art_core.specs.declared.process.Process.{Process}
use Rattle.art_core.specs.Core.{State}
use Rattle.art_schedules.specs.versions.Versions.{stage_of}
use Rattle.art_schedules.specs.stories.Stories.{Status, Before, Found, Changed}
use Rattle.art_schedules.specs.coupled.Scanning.{KnowsTree}
use Rattle.art_schedules.specs.locked_scans.Walking.{HasWalked, HasPairsFound}
use Rattle.art_schedules.specs.coupled_runs.CoupledFits.{OfScans}
use Rattle.art_schedules.specs.coupled.Walks.{IsOver}

-- What is known of a scan, by its status: before the end of its walk, how it has come to its stage
-- and what it knows of the calm tree; then its reply, which is that of the map at the end of its
-- walk. It changes nothing.
abbrev pub KnowsScan : Shape → ℕ → ℕ → List ℕ → List ℕ → ScanAt → Status → Type 0
KnowsScan shape low high calm words x Before = (IsOver x.step → ⊥) × HasWalked shape low high calm words x × KnowsTree shape calm x
KnowsScan shape low high calm words x (Found reply) = HasPairsFound shape low high calm words reply x
KnowsScan shape low high calm words x (Changed reply) = ⊥

-- An open scan with its stage, and what is known of it there. That the rows which it holds are rows of the calm tree is said of every call.
pub record IsKnownScan (shape : Shape) (s : State) (calm : List ℕ) (call : Call) (q : Process) (status : Status) : Type 0 where
  pub low : ℕ
  pub high : ℕ
  pub is : call ≡ Scan low high
  pub at : ScanAt
  pub stage : stage_of Coupled shape call q ≡ OnScan low high at
  pub knows : KnowsScan shape low high calm s.words at status

abbrev pub CoupledScans : Shape → OfScans
CoupledScans shape schedule s calm p call q status = IsKnownScan shape s calm call q status
