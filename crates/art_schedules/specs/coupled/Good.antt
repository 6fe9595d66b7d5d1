-- Rows that a call holds under lock coupling: those of the calm tree alone, and none that was obsolete when it was taken.
use Rattle.std.specs.Prelude.{◌≡◌, ◌≢◌, ℕ, List, [], ◌∷◌, ◌++◌, slice_index, Option, None}
use Rattle.events.specs.declared.event.Call.{Call}
use Rattle.events.specs.declared.event.Reply.{Reply}
use Rattle.map_object.specs.MapObject.{Contents}
use Rattle.art_rows.specs.declared.table.Shape.{Shape}
use Rattle.art_rows.specs.declared.table.Kind.{Kind}
use Rattle.art_rows.specs.Words.{locked_word}
use Rattle.art_rows.specs.declared.variant.Variant.TheVariants.{Coupled}
use Rattle.art_rows.specs.declared.access.Access.TheVariants.{Exchange as Swap}
use Rattle.art_rows.specs.Steps.{Answers}
use Rattle.art_control_states.specs.declared.stage.HeldRow.{HeldRow}
use Rattle.art_control_states.specs.declared.stage.Stage.{Stage}
use Rattle.art_control_states.specs.Stages.{setting}
use Rattle.art_control_states.specs.Automaton.{turn_at}
use Rattle.art_control_states.specs.Calls.{OnKey}
use Rattle.art_core.specs.declared.process.Process.{Process}
use Rattle.art_core.specs.Core.{Plan, State}
use Rattle.art_core.specs.Meaning.{Reached}
use Rattle.art_schedules.specs.versions.Versions.{IsOpen, IsAtStage, AllHeld, EachHeld}
use Rattle.art_schedules.specs.calm.Calm.{calm_of}
use Rattle.art_schedules.specs.calm.Changes.{AsksFor}
use Rattle.art_schedules.specs.changes.Effects.{Effect}
use Rattle.art_schedules.specs.changes.Courses.{TreeGoesOn}
use Rattle.art_schedules.specs.coupled.Knows.{KnowsWay}
use Rattle.art_schedules.specs.coupled.Moments.{TakesLive, IsCoupledStep}
use Rattle.art_schedules.specs.work.Ways.{IsInTree}

-- a call holds only rows of the calm tree that were live when they were taken
abbrev pub HoldsGood : Shape → List ℕ → Call → Process → Type 0
HoldsGood shape calm call q = AllHeld Coupled shape call q (IsInTree shape calm)

-- the process holds only rows of the calm tree that were live when they were taken
abbrev pub GoodOf : Shape → State → ℕ → List ℕ → Type 0
GoodOf shape s p calm = EachHeld Coupled shape s p (IsInTree shape calm)

-- a row that the process takes in its step is one of the calm tree
abbrev pub TakesReached : Shape → State → ℕ → List ℕ → Type 0
TakesReached shape s p calm = (h : HeldRow) → AsksFor Coupled shape s p (Swap h.base h.kept (locked_word h.kept))
    → slice_index s.words h.base ≡ h.kept
    → (kind : Kind) × Reached shape calm h.base kind

-- A call on its way takes rows of the calm tree alone.
abbrev pub WaysTakeReached : Type 0
WaysTakeReached = (plan : Plan) (start : Contents) (words schedule : List ℕ) (p : ℕ) (s t : State) (claims : ℕ) (m : Contents)
    (call : Call) (stage : Stage)
    (found : Option Reply) → IsCoupledStep plan start words schedule p s t claims m → IsAtStage Coupled plan.shape s p call (OnKey stage)
    → KnowsWay (setting plan.shape Coupled call) (calm_of plan words schedule) s.words found stage
    → TakesReached plan.shape s p (calm_of plan words schedule)

-- Suppose that a process takes only live rows of the calm tree. Then each row that it holds after
-- its step is one of the tree of then, and was live when it was taken. The calm tree changes by an
-- effect, or by none; the row that leaves it, if one does, is obsolete then.
abbrev pub GoodRowsStay : Type 0
GoodRowsStay = (plan : Plan) (start : Contents) (words schedule : List ℕ) (p : ℕ) (s t : State) (claims : ℕ) (m pairs : Contents)
    (effect : Option Effect) → IsCoupledStep plan start words schedule p s t claims m
    → TreeGoesOn plan.shape t.words (calm_of plan words schedule) (calm_of plan words (schedule ++ p ∷ [])) pairs effect
    → GoodOf plan.shape s p (calm_of plan words schedule)
    → TakesLive plan.shape s p → TakesReached plan.shape s p (calm_of plan words schedule)
    → GoodOf plan.shape t p (calm_of plan words (schedule ++ p ∷ []))

-- The rows that the other processes hold stay good.
abbrev pub OthersLeaveGood : Type 0
OthersLeaveGood = (plan : Plan) (start : Contents) (words schedule : List ℕ) (p : ℕ) (s t : State) (claims : ℕ) (m pairs : Contents)
    (effect : Option Effect) → IsCoupledStep plan start words schedule p s t claims m
    → TreeGoesOn plan.shape t.words (calm_of plan words schedule) (calm_of plan words (schedule ++ p ∷ [])) pairs effect
    → (r : ℕ) (call : Call) (q : Process) → r ≢ p → IsOpen s r call q
    → HoldsGood plan.shape (calm_of plan words schedule) call q → HoldsGood plan.shape (calm_of plan words (schedule ++ p ∷ [])) call q

-- A call on its way that has found nothing is not answered.
abbrev pub SeekersAreNotAnswered : Type 0
SeekersAreNotAnswered = (shape : Shape) (call : Call) (calm words : List ℕ) (stage : Stage) (reply : Reply)
    → KnowsWay (setting shape Coupled call) calm words None stage → turn_at (setting shape Coupled call) stage ≡ Answers reply → ⊥
