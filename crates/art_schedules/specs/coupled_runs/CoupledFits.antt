-- What fits an open call of the coupled tree, by its stage and its status.
use Rattle.std.specs.Prelude.{◌≡◌, ◌⊎◌, ℕ, true, false, List, Option, Some, None}
use Rattle.events.specs.declared.event.Call.{Call}
use Rattle.events.specs.declared.event.Reply.{Reply}
use Rattle.events.specs.declared.event.Reply.TheVariants.{Refused}
use Rattle.art_rows.specs.declared.table.Shape.{Shape}
use Rattle.art_rows.specs.declared.variant.Variant.TheVariants.{Coupled}
use Rattle.art_rows.specs.TreeCalls.{is_tree_call}
use Rattle.art_rows.specs.Rows.{is_scan}
use Rattle.art_control_states.specs.declared.stage.Stage.{Stage}
use Rattle.art_control_states.specs.Stages.{setting}
use Rattle.art_control_states.specs.Scans.{ScanAt}
use Rattle.art_control_states.specs.Calls.{OnKey, OnScan}
use Rattle.art_core.specs.declared.process.Process.{Process}
use Rattle.art_core.specs.Core.{State}
use Rattle.art_schedules.specs.trees.Trees.{IsClaimed}
use Rattle.art_schedules.specs.versions.Holding.{Named}
use Rattle.art_schedules.specs.versions.Versions.{stage_of}
use Rattle.art_schedules.specs.stories.Stories.{Status, Before, Found, Changed}
use Rattle.art_schedules.specs.coupled.Knows.{KnowsWay}
use Rattle.art_schedules.specs.coupled.Moments.{ObsoleteLeave}
use Rattle.art_schedules.specs.coupled.Good.{HoldsGood}
use Rattle.art_schedules.specs.effects.AtWork.{AtWork, AtEnd}
use Rattle.art_schedules.specs.effects.Marks.{IsMarked}
use Rattle.art_schedules.specs.stories.Fitting.{set_at}

-- ---- what holds of the whole state

-- Ghosts of a run: the fresh row of each process, from its claim to the end of its work, and the
-- row that it has made obsolete in its last step.
pub record Ghosts : Type 0 where
  pub fresh : ℕ → Option Named
  pub leaving : ℕ → Option ℕ

abbrev pub ghosts_with : Ghosts → ℕ → Option Named → Option ℕ → Ghosts
ghosts_with g p fresh left = record { fresh = set_at g.fresh p fresh; leaving = set_at g.leaving p left }

-- Each row of the calm tree that is obsolete is about to leave it; a fresh row was claimed, and is the fresh row of one process.
pub record IsWorld (shape : Shape) (g : Ghosts) (s : State) (calm : List ℕ) : Type 0 where
  pub obsolete : ObsoleteLeave shape s calm g.leaving
  pub claimed : (p : ℕ) (row : Named) → g.fresh p ≡ Some row → IsClaimed shape s.words row.0 row.1
  pub apart : (p r : ℕ) (row : Named) → g.fresh p ≡ Some row → g.fresh r ≡ Some row → p ≡ r

-- ---- what holds of an open call

-- A call at work, with its fresh row and the row that it made obsolete.
abbrev pub IsWorking : Shape → List ℕ → List ℕ → Call → Stage → Option Named → Option ℕ → Type 0
IsWorking shape words calm call stage fresh left = (work : AtWork (setting shape Coupled call) words calm fresh stage) × IsMarked left work

-- it has no fresh row, and has made none obsolete
abbrev pub HasNone : Ghosts → ℕ → Type 0
HasNone g p = (g.fresh p ≡ None) × (g.leaving p ≡ None)

-- what holds of a scan
abbrev pub OfScans : Type 1
OfScans = List ℕ → State → List ℕ → ℕ → Call → Process → Status → Type 0

-- What fits an open call: it is on its way; at work before its effect; past the moment at which it
-- found its reply; past its effect; refused; or it scans, and what fits a scan fits it.
pub data IsFit (shape : Shape) (Scans : OfScans) (g : Ghosts) (schedule : List ℕ) (s : State) (calm : List ℕ) (p : ℕ)
    (call : Call) (q : Process)
    (status : Status) : Type 0 where
  Seeks : (stage : Stage) → is_scan call ≡ false → HasNone g p → stage_of Coupled shape call q ≡ OnKey stage
      → KnowsWay (setting shape Coupled call) calm s.words None stage → status ≡ Before
      → IsFit shape Scans g schedule s calm p call q status
  Works : (stage : Stage) → stage_of Coupled shape call q ≡ OnKey stage → IsWorking shape s.words calm call stage (g.fresh p) (g.leaving p)
      → status ≡ Before → IsFit shape Scans g schedule s calm p call q status
  Finds : (stage : Stage) → (reply : Reply) → HasNone g p → stage_of Coupled shape call q ≡ OnKey stage
      → KnowsWay (setting shape Coupled call) calm s.words (Some reply) stage → status ≡ Found reply
      → IsFit shape Scans g schedule s calm p call q status
  Ends : (stage : Stage) → (reply : Reply) → HasNone g p → stage_of Coupled shape call q ≡ OnKey stage
      → AtEnd (setting shape Coupled call) s.words calm reply stage → (status ≡ Changed reply)
      ⊎ ((reply ≡ Refused) × (status ≡ Found Refused))
      → IsFit shape Scans g schedule s calm p call q status
  Walks : (low high : ℕ) → (at : ScanAt) → HasNone g p → stage_of Coupled shape call q ≡ OnScan low high at
      → Scans schedule s calm p call q status
      → IsFit shape Scans g schedule s calm p call q status

pub record CoupledFits (shape : Shape) (Scans : OfScans) (g : Ghosts) (schedule : List ℕ) (s : State) (calm : List ℕ) (p : ℕ)
    (call : Call) (q : Process)
    (status : Status) : Type 0 where
  pub tree : is_tree_call call ≡ true
  pub rows : HoldsGood shape calm call q
  pub fit : IsFit shape Scans g schedule s calm p call q status
