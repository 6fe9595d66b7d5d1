-- What fits an open call of the optimistic tree, by its stage and its status.
use Rattle.std.specs.Prelude.{◌≡◌, ◌≢◌, ◌⊎◌, ℕ, true, false, List, Option, Some, None}
use Rattle.events.specs.declared.event.Call.{Call}
use Rattle.events.specs.declared.event.Call.TheVariants.{Scan}
use Rattle.events.specs.declared.event.Reply.{Reply}
use Rattle.events.specs.declared.event.Reply.TheVariants.{Refused}
use Rattle.map_object.specs.MapObject.{Contents}
use Rattle.art_rows.specs.declared.table.Shape.{Shape}
use Rattle.art_rows.specs.declared.variant.Variant.TheVariants.{Optimistic}
use Rattle.art_rows.specs.TreeCalls.{is_tree_call}
use Rattle.art_rows.specs.Rows.{is_scan}
use Rattle.art_control_states.specs.declared.stage.Stage.{Stage}
use Rattle.art_control_states.specs.Stages.{setting}
use Rattle.art_control_states.specs.Scans.{ScanAt}
use Rattle.art_control_states.specs.Calls.{OnKey, OnScan}
use Rattle.art_core.specs.declared.process.Process.{Process}
use Rattle.art_core.specs.Core.{State}
use Rattle.art_schedules.specs.trees.Trees.{IsClaimed}
use Rattle.art_schedules.specs.versions.Holding.{Named}
use Rattle.art_schedules.specs.versions.Versions.{stage_of}
use Rattle.art_schedules.specs.stories.Stories.{Status, Before, Found, Changed}
use Rattle.art_schedules.specs.stories.Fitting.{AreLed, the_plan}
use Rattle.art_schedules.specs.optimistic.Knows.{KnowsWay}
use Rattle.art_schedules.specs.effects.AtWork.{AtWork, AtEnd}
use Rattle.art_schedules.specs.effects.Outcomes.{AreTwoRows}

-- Ghosts of a run: the fresh row of each process, from its claim to the end of its work.
abbrev pub Ghosts : Type 0
Ghosts = ℕ → Option Named

-- A fresh row was claimed, and those of two processes are two rows.
pub record IsWorld (shape : Shape) (g : Ghosts) (s : State) : Type 0 where
  pub claimed : (p : ℕ) (row : Named) → g p ≡ Some row → IsClaimed shape s.words row.0 row.1
  pub apart : (p r : ℕ) → p ≢ r → AreTwoRows (g p) (g r)

-- What fits an open call: it is on its way; past the moment at which it found its reply; at work
-- before its effect; past its effect, or refused; or it scans, and nothing is known of it before it
-- is answered.
pub data IsFit (shape : Shape) (g : Ghosts) (s : State) (calm : List ℕ) (p : ℕ) (call : Call) (q : Process) (status : Status) : Type 0 where
  Seeks : (stage : Stage) → is_scan call ≡ false → g p ≡ None → stage_of Optimistic shape call q ≡ OnKey stage
      → KnowsWay (setting shape Optimistic call) calm s.words None stage → status ≡ Before → IsFit shape g s calm p call q status
  Finds : (stage : Stage) → (reply : Reply) → is_scan call ≡ false → g p ≡ None → stage_of Optimistic shape call q ≡ OnKey stage
      → KnowsWay (setting shape Optimistic call) calm s.words (Some reply) stage → status ≡ Found reply
      → IsFit shape g s calm p call q status
  Works : (stage : Stage) → stage_of Optimistic shape call q ≡ OnKey stage → AtWork (setting shape Optimistic call) s.words calm (g p) stage
      → status ≡ Before → IsFit shape g s calm p call q status
  Ends : (stage : Stage) → (reply : Reply) → g p ≡ None → stage_of Optimistic shape call q ≡ OnKey stage
      → AtEnd (setting shape Optimistic call) s.words calm reply stage → (status ≡ Changed reply)
      ⊎ ((reply ≡ Refused) × (status ≡ Found Refused))
      → IsFit shape g s calm p call q status
  Walks : (low high : ℕ) → (at : ScanAt) → g p ≡ None → call ≡ Scan low high
      → stage_of Optimistic shape call q ≡ OnScan low high at → status ≡ Before
      → IsFit shape g s calm p call q status

pub record OptimisticFits (shape : Shape) (g : Ghosts) (schedule : List ℕ) (s : State) (calm : List ℕ) (p : ℕ) (call : Call) (q : Process)
    (status : Status) : Type 0 where
  pub tree : is_tree_call call ≡ true
  pub fit : IsFit shape g s calm p call q status

-- each step of a run preserves what fits a call, with a ghost and a fact about the whole state
abbrev pub OptimisticAreLed : Shape → List (List Call) → Contents → List ℕ → Type 0
OptimisticAreLed shape scripts start words =
    AreLed (the_plan Optimistic shape scripts) start words Ghosts (λ g schedule s calm. IsWorld shape g s) (OptimisticFits shape)
