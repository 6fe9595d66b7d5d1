-- Marks: the row that a call at work made obsolete in its step before, and what a step of the call
-- makes of it. A row that is too small is replaced by a larger copy. The call first releases it as
-- obsolete. By its next step, the release of the row above, it takes the row out of calm's tree.
-- Only between these two steps is a row of calm's tree obsolete: the marks of all calls name these
-- rows.
use Rattle.std.specs.Prelude.{◌≡◌, ℕ, ◌<◌, List, Option, Some, None}
use Rattle.events.specs.declared.event.Call.{Call}
use Rattle.events.specs.declared.event.Reply.{Reply}
use Rattle.map_object.specs.MapObject.{Contents}
use Rattle.art_rows.specs.declared.table.Shape.{Shape}
use Rattle.art_rows.specs.declared.table.Child.TheVariants.{Row}
use Rattle.art_rows.specs.declared.variant.Variant.{Variant}
use Rattle.art_rows.specs.Rows.{Setting}
use Rattle.art_control_states.specs.declared.stage.HeldRow.{HeldRow}
use Rattle.art_control_states.specs.declared.stage.Hold.{Hold}
use Rattle.art_control_states.specs.declared.stage.Outcome.{Outcome}
use Rattle.art_control_states.specs.declared.stage.Stage.{Stage}
use Rattle.art_control_states.specs.declared.stage.Stage.TheVariants.{Obsolete}
use Rattle.art_control_states.specs.Stages.{setting}
use Rattle.art_control_states.specs.Calls.{OnKey}
use Rattle.art_core.specs.Core.{Plan, State}
use Rattle.art_core.specs.Meaning.{Reached, child_on}
use Rattle.art_schedules.specs.versions.Holding.{Named}
use Rattle.art_schedules.specs.versions.Versions.{IsAtStage}
use Rattle.art_schedules.specs.changes.Effects.{Effect, IsGone}
use Rattle.art_schedules.specs.effects.AtWork.{IsReleasing, Last, Lower, Gone, AtWork, Claiming, Going, Hanging, AtEnd}
use Rattle.art_schedules.specs.effects.Outcomes.{Makes, WorkStep, Works, IsRefused, TakesEffect}

-- the row that the step from a stage makes obsolete
abbrev pub obsolete_by : Stage → Option ℕ
obsolete_by (Obsolete h) = Some h.row.base
obsolete_by stage = None

-- the row that was made obsolete leaves by the effect to come; there is none before the release of
-- the upper row is next
abbrev pub IsMarkedBy : {c : Setting} {real calm : List ℕ} {row : HeldRow} {e : Effect} {o : Outcome} {stage : Stage} → Option ℕ
    → IsReleasing c real calm row e o stage → Type 0
IsMarkedBy {e = e} left (Last is gone) = (b : ℕ) → left ≡ Some b → IsGone e b
IsMarkedBy left (Lower lower is inside same none) = left ≡ None
IsMarkedBy left (Gone lower is value inside goes only) = left ≡ None

-- The call at work has this mark: the row that it made obsolete in its step before, or none.
abbrev pub IsMarked : {c : Setting} {real calm : List ℕ} {fresh : Option Named} {stage : Stage} → Option ℕ
    → AtWork c real calm fresh stage → Type 0
IsMarked left (Claiming none x) = left ≡ None
IsMarked left (Going x) = left ≡ None
IsMarked left (Hanging x) = IsMarkedBy left x.at

-- What a step of a call at work makes of its mark. If the call works on, it had none, and from now
-- on has what this step made obsolete. If it is refused, it had none. If it takes effect, the row
-- that it had leaves by the effect. A step after which the call does not work makes no row
-- obsolete.
abbrev pub MarksGoOn : {variant : Variant} {shape : Shape} {s : State} {p : ℕ} {t : State} {calm after : List ℕ}
    {m : Contents} {call : Call}
    {fresh : Option Named} → Option ℕ → Stage → WorkStep variant shape s p t calm after m call fresh → Type 0
MarksGoOn left stage (Works next later at work goes makes) = (left ≡ None) × IsMarked (obsolete_by stage) work
MarksGoOn left stage (IsRefused next at end makes) = (left ≡ None) × (obsolete_by stage ≡ None)
MarksGoOn left stage (TakesEffect next e reply at end makes own pairs legal accepted live) =
    ((b : ℕ) → left ≡ Some b → IsGone e b) × (obsolete_by stage ≡ None)

-- What a step of a call at work does, and what it makes of the call's mark.
abbrev pub WorkerStep : Plan → State → ℕ → State → List ℕ → List ℕ → Contents → Call → Stage → Option Named → Option ℕ → Type 0
WorkerStep plan s p t calm after m call stage fresh left =
    (step : WorkStep plan.variant plan.shape s p t calm after m call fresh) × MarksGoOn left stage step

-- The lower row of those that are held hangs in calm's tree on the row above it.
pub record HangsOnAbove (shape : Shape) (calm : List ℕ) (h : Hold) : Type 0 where
  pub above : HeldRow
  pub is : h.above ≡ Some above
  pub byte : ℕ
  pub is_byte : byte < 256
  pub reached : Reached shape calm above.base above.kind
  pub hangs : child_on shape calm above.base above.kind byte ≡ Row h.row.base h.row.kind

-- What a step of a call at its end does that does not answer it: it releases a row, and calm's tree stays.
pub record EnderStep (plan : Plan) (s : State) (p : ℕ) (t : State) (calm after : List ℕ) (m : Contents) (call : Call)
    (reply : Reply) : Type 0 where
  pub next : Stage
  pub at : IsAtStage plan.variant plan.shape t p call (OnKey next)
  pub ends : AtEnd (setting plan.shape plan.variant call) t.words after reply next
  pub makes : Makes plan.variant plan.shape s p calm after m None
