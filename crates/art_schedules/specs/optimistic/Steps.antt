-- Steps of a run of the optimistic tree, with a call on a key that is not at work.
use Rattle.std.specs.Prelude.{◌≡◌, ◌≢◌, ◌⊎◌, ℕ, List, [], ◌∷◌, ◌++◌, true, false, Option, Some, None}
use Rattle.events.specs.declared.event.Call.{Call}
use Rattle.events.specs.declared.event.Reply.{Reply}
use Rattle.map_object.specs.MapObject.{Contents}
use Rattle.art_rows.specs.declared.table.Shape.{Shape}
use Rattle.art_rows.specs.declared.variant.Variant.{Variant}
use Rattle.art_rows.specs.declared.variant.Variant.TheVariants.{Optimistic}
use Rattle.art_rows.specs.declared.access.Access.{Access}
use Rattle.art_rows.specs.declared.access.Access.TheVariants.{Store}
use Rattle.art_rows.specs.declared.access.Point.{Point}
use Rattle.art_rows.specs.Steps.{Asks}
use Rattle.art_rows.specs.TreeCalls.{is_tree_call}
use Rattle.art_rows.specs.Rows.{is_scan}
use Rattle.art_control_states.specs.declared.stage.Stage.{Stage}
use Rattle.art_control_states.specs.Stages.{setting}
use Rattle.art_control_states.specs.Automaton.{turn_at}
use Rattle.art_control_states.specs.Calls.{OnKey, OnScan, call_turn}
use Rattle.art_control_states.specs.Scans.{ScanAt}
use Rattle.art_core.specs.declared.process.Process.{Process}
use Rattle.art_core.specs.Core.{Plan, State}
use Rattle.art_core.specs.Meaning.{Means}
use Rattle.art_schedules.specs.trees.Trees.{IsAtRest}
use Rattle.art_schedules.specs.versions.Versions.{IsOpen, stage_of, IsAtStage}
use Rattle.art_schedules.specs.calm.Calm.{calm_of}
use Rattle.art_schedules.specs.changes.Effects.{Effect}
use Rattle.art_schedules.specs.changes.Courses.{TreeGoesOn}
use Rattle.art_schedules.specs.changes.Follows.{KeepsTree}
use Rattle.art_schedules.specs.optimistic.Knows.{KnowsWay}
use Rattle.art_schedules.specs.optimistic.Goes.{Goes}
use Rattle.art_schedules.specs.calm.Changes.{IsRunStep}

-- What the call knew before a step of another process it knows after it, if the calm tree changes
-- by an effect or by none, and only obsolete rows leave it.
abbrev pub OtherStepsKeepWays : Type 0
OtherStepsKeepWays = (plan : Plan) (start : Contents) (words schedule : List ℕ) (p : ℕ) (s t : State)
    → IsRunStep plan start words schedule p s t
    → plan.variant ≡ Optimistic → (pairs : Contents) (effect : Option Effect)
    → TreeGoesOn plan.shape t.words (calm_of plan words schedule) (calm_of plan words (schedule ++ p ∷ [])) pairs effect
    → (r : ℕ) (call : Call) (stage : Stage) (found : Option Reply) → r ≢ p → (at : IsAtStage Optimistic plan.shape s r call (OnKey stage))
    → IsOpen t r call at.process → KnowsWay (setting plan.shape Optimistic call) (calm_of plan words schedule) s.words found stage
    → KnowsWay (setting plan.shape Optimistic call) (calm_of plan words (schedule ++ p ∷ [])) t.words found stage

-- After a step of its own the call is at another stage, and the calm tree is the same.
pub record StepsOn (plan : Plan) (words schedule : List ℕ) (p : ℕ) (t : State) (call : Call) : Type 0 where
  pub next : Stage
  pub at : IsAtStage Optimistic plan.shape t p call (OnKey next)
  pub keeps : KeepsTree plan.shape (calm_of plan words schedule) (calm_of plan words (schedule ++ p ∷ []))

-- A call that knows its way goes on or starts again, or its work begins, or it finds what it will answer: at the state before this step.
abbrev pub OwnStepsGoOn : Type 0
OwnStepsGoOn = (plan : Plan) (start : Contents) (words schedule : List ℕ) (p : ℕ) (s t : State) → IsRunStep plan start words schedule p s t
    → plan.variant ≡ Optimistic → (call : Call) (stage : Stage) → IsAtStage Optimistic plan.shape s p call (OnKey stage)
    → is_tree_call call ≡ true → is_scan call ≡ false → (n : ℕ) (m : Contents)
    → IsAtRest plan.shape n (calm_of plan words schedule) → Means plan.shape (calm_of plan words schedule) m
    → KnowsWay (setting plan.shape Optimistic call) (calm_of plan words schedule) s.words None stage
    → (x : StepsOn plan words schedule p t call)
    × Goes (setting plan.shape Optimistic call) (calm_of plan words (schedule ++ p ∷ [])) t.words m x.next

-- A call that has found what it will answer, and is not answered in this step, has it still, or starts again.
abbrev pub OwnFindingsStay : Type 0
OwnFindingsStay = (plan : Plan) (start : Contents) (words schedule : List ℕ) (p : ℕ) (s t : State)
    → IsRunStep plan start words schedule p s t
    → plan.variant ≡ Optimistic → (call : Call) (stage : Stage) → IsAtStage Optimistic plan.shape s p call (OnKey stage)
    → (a : Access) (mark : Option Point) → turn_at (setting plan.shape Optimistic call) stage ≡ Asks a mark
    → (n : ℕ) → IsAtRest plan.shape n (calm_of plan words schedule) → (reply : Reply)
    → KnowsWay (setting plan.shape Optimistic call) (calm_of plan words schedule) s.words (Some reply) stage
    → (x : StepsOn plan words schedule p t call)
    × (KnowsWay (setting plan.shape Optimistic call) (calm_of plan words (schedule ++ p ∷ [])) t.words (Some reply) x.next
    ⊎ KnowsWay (setting plan.shape Optimistic call) (calm_of plan words (schedule ++ p ∷ [])) t.words None x.next)

-- The process asks for no store in this state: it is in no call, or its call loads, exchanges, claims or is answered.
abbrev pub IsQuiet : Variant → Shape → State → ℕ → Type 0
IsQuiet variant shape s p = (call : Call) (q : Process) → IsOpen s p call q → (word value : ℕ) (mark : Option Point)
    → call_turn (setting shape variant call) (stage_of variant shape call q) ≡ Asks (Store word value) mark → ⊥

-- In both full trees the step of a quiet process leaves the calm tree.
abbrev pub QuietStepsKeepTrees : Type 0
QuietStepsKeepTrees = (plan : Plan) (start : Contents) (words schedule : List ℕ) (p : ℕ) (s t : State)
    → IsRunStep plan start words schedule p s t
    → IsQuiet plan.variant plan.shape s p → (n : ℕ)
    → IsAtRest plan.shape n (calm_of plan words schedule)
    → KeepsTree plan.shape (calm_of plan words schedule) (calm_of plan words (schedule ++ p ∷ []))

-- A scan of the optimistic tree stores nothing.
abbrev pub ScansStoreNothing : Type 0
ScansStoreNothing = (shape : Shape) (call : Call) (low high : ℕ) (at : ScanAt) (word value : ℕ) (mark : Option Point)
    → call_turn (setting shape Optimistic call) (OnScan low high at) ≡ Asks (Store word value) mark → ⊥
