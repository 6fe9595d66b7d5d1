-- Laws of the work of a call in a run.
use Rattle.std.specs.Prelude.{◌≡◌, ◌≢◌, ℕ, List, [], ◌∷◌, ◌++◌, length, Option, None, Some}
use Rattle.events.specs.declared.event.Call.{Call}
use Rattle.events.specs.declared.event.Reply.{Reply}
use Rattle.map_object.specs.MapObject.{Contents}
use Rattle.art_rows.specs.Table.{table_words}
use Rattle.art_rows.specs.declared.access.Access.TheVariants.{Exchange as Swap}
use Rattle.art_rows.specs.declared.access.Access.{Access}
use Rattle.art_rows.specs.declared.access.Point.{Point}
use Rattle.art_rows.specs.Steps.{Asks, Answers}
use Rattle.art_rows.specs.Rows.{Setting}
use Rattle.art_control_states.specs.declared.stage.HeldRow.{HeldRow}
use Rattle.art_control_states.specs.declared.stage.Hold.{Hold}
use Rattle.art_control_states.specs.declared.stage.Stage.{Stage}
use Rattle.art_control_states.specs.declared.stage.Stage.TheVariants.{Obsolete}
use Rattle.art_control_states.specs.declared.stage.Work.{Work}
use Rattle.art_control_states.specs.Stages.{setting}
use Rattle.art_control_states.specs.Automaton.{turn_at, work_at}
use Rattle.art_control_states.specs.Calls.{OnKey}
use Rattle.art_core.specs.Core.{Plan, State}
use Rattle.art_core.specs.Meaning.{Reached, Means}
use Rattle.art_schedules.specs.trees.Trees.{IsAtRest, IsClaimed}
use Rattle.art_schedules.specs.versions.Locking.{rows_of_hold}
use Rattle.art_schedules.specs.versions.Holding.{Named, Each, Knows, holds}
use Rattle.art_schedules.specs.versions.Effects.{IsAmong}
use Rattle.art_schedules.specs.versions.Versions.{IsAtStage}
use Rattle.art_schedules.specs.calm.Calm.{calm_of}
use Rattle.art_schedules.specs.changes.Effects.{Effect}
use Rattle.art_schedules.specs.work.Works.{RowsOf}
use Rattle.art_schedules.specs.effects.Begins.{BeginsWork}
use Rattle.art_schedules.specs.effects.AtWork.{fresh_of, AtWork, AtEnd}
use Rattle.art_schedules.specs.effects.Outcomes.{Makes, HoldsReached, IsOther, WorkStep, EndStep, AreTwoRows}
use Rattle.art_schedules.specs.effects.Marks.{IsMarked, WorkerStep, HangsOnAbove, EnderStep}
use Rattle.art_schedules.specs.calm.Changes.{IsRunStep}
use Rattle.art_schedules.specs.work.Ways.{IsInTree, IsSame}

-- If work begins in rows of calm's tree that are as calm has them, the call is at work.
abbrev pub WorkBegins : Type 0
WorkBegins = (c : Setting) (real calm : List ℕ) (h : Hold) (work : Work) → length calm ≡ table_words c.shape
    → Knows (RowsOf c.shape) c (OnKey (work_at c h work)) → BeginsWork c calm h work → Each (IsInTree c.shape calm) (rows_of_hold h)
    → Each (IsSame calm real) (rows_of_hold h) → AtWork c real calm None (work_at c h work)

-- The rows that a call at work holds are in calm's tree,
abbrev pub WorkersHoldReached : Type 0
WorkersHoldReached = (c : Setting) (real calm : List ℕ) (stage : Stage) (fresh : Option Named)
    → AtWork c real calm fresh stage → (row : HeldRow)
    → IsAmong row (holds c (OnKey stage)) → Reached c.shape calm row.base row.kind

-- A call that only releases rows holds only rows of calm's tree.
abbrev pub LeaversHoldReached : Type 0
LeaversHoldReached = (c : Setting) (real calm : List ℕ) (stage : Stage) (reply : Reply) → AtEnd c real calm reply stage → (row : HeldRow)
    → IsAmong row (holds c (OnKey stage)) → Reached c.shape calm row.base row.kind

-- A step of another process, which holds rows of calm's tree alone and brings no row into it that is this call's fresh one, keeps a call at
-- work.
abbrev pub OthersKeepWork : Type 0
OthersKeepWork = (plan : Plan) (start : Contents) (words schedule : List ℕ) (p : ℕ) (s t : State) (n : ℕ) (m : Contents)
    (effect : Option Effect)
    → IsRunStep plan start words schedule p s t → IsAtRest plan.shape n (calm_of plan words schedule)
    → Makes plan.variant plan.shape s p (calm_of plan words schedule) (calm_of plan words (schedule ++ p ∷ [])) m effect
    → HoldsReached plan.variant plan.shape s p (calm_of plan words schedule) → (r : ℕ) → r ≢ p
    → (call : Call) (stage : Stage) (fresh : Option Named)
    → IsAtStage plan.variant plan.shape s r call (OnKey stage) → IsOther effect fresh
    → AtWork (setting plan.shape plan.variant call) s.words (calm_of plan words schedule) fresh stage
    → IsAtStage plan.variant plan.shape t r call (OnKey stage)
    × AtWork (setting plan.shape plan.variant call) t.words (calm_of plan words (schedule ++ p ∷ [])) fresh stage

-- A step of another process keeps a call that only releases rows.
abbrev pub OthersKeepEnds : Type 0
OthersKeepEnds = (plan : Plan) (start : Contents) (words schedule : List ℕ) (p : ℕ) (s t : State) (n : ℕ) (m : Contents)
    (effect : Option Effect)
    → IsRunStep plan start words schedule p s t → IsAtRest plan.shape n (calm_of plan words schedule)
    → Makes plan.variant plan.shape s p (calm_of plan words schedule) (calm_of plan words (schedule ++ p ∷ [])) m effect
    → HoldsReached plan.variant plan.shape s p (calm_of plan words schedule) → (r : ℕ) → r ≢ p
    → (call : Call) (stage : Stage) (reply : Reply)
    → IsAtStage plan.variant plan.shape s r call (OnKey stage)
    → AtEnd (setting plan.shape plan.variant call) s.words (calm_of plan words schedule) reply stage
    → IsAtStage plan.variant plan.shape t r call (OnKey stage)
    × AtEnd (setting plan.shape plan.variant call) t.words (calm_of plan words (schedule ++ p ∷ [])) reply stage

-- A step of a call at work: it goes on and calm's tree stays, or it is refused and calm's tree stays, or this is the step at which it takes
-- effect.
abbrev pub WorkersStep : Type 0
WorkersStep = (plan : Plan) (start : Contents) (words schedule : List ℕ) (p : ℕ) (s t : State) (n : ℕ) (m : Contents)
    → IsRunStep plan start words schedule p s t → IsAtRest plan.shape n (calm_of plan words schedule)
    → Means plan.shape (calm_of plan words schedule) m
    → (call : Call) (stage : Stage) (fresh : Option Named) → IsAtStage plan.variant plan.shape s p call (OnKey stage)
    → AtWork (setting plan.shape plan.variant call) s.words (calm_of plan words schedule) fresh stage
    → WorkStep plan.variant plan.shape s p t (calm_of plan words schedule) (calm_of plan words (schedule ++ p ∷ [])) m call fresh

-- A step of a call that only releases rows keeps calm's tree.
abbrev pub LeaversStep : Type 0
LeaversStep = (plan : Plan) (start : Contents) (words schedule : List ℕ) (p : ℕ) (s t : State) (n : ℕ) (m : Contents)
    → IsRunStep plan start words schedule p s t → IsAtRest plan.shape n (calm_of plan words schedule)
    → Means plan.shape (calm_of plan words schedule) m
    → (call : Call) (stage : Stage) (reply : Reply) → IsAtStage plan.variant plan.shape s p call (OnKey stage)
    → AtEnd (setting plan.shape plan.variant call) s.words (calm_of plan words schedule) reply stage
    → EndStep plan.variant plan.shape s p t (calm_of plan words schedule) (calm_of plan words (schedule ++ p ∷ [])) m call reply stage

-- The fresh row of a call at work was claimed.
abbrev pub FreshIsClaimed : Type 0
FreshIsClaimed = (c : Setting) (real calm : List ℕ) (stage : Stage) (row : Named) → AtWork c real calm (Some row) stage
    → IsClaimed c.shape real row.0 row.1

-- The row that an effect brings into calm's tree is not the fresh row of another call.
abbrev pub EffectsBringTheirs : Type 0
EffectsBringTheirs = (e : Effect) (other : Option Named) → AreTwoRows (fresh_of e) other → IsOther (Some e) other

-- ---- rows that are made obsolete

-- A step of a call at work, with its mark: the row that the call made obsolete in its step before is the one that goes by its effect.
abbrev pub WorkersGoOn : Type 0
WorkersGoOn = (plan : Plan) (start : Contents) (words schedule : List ℕ) (p : ℕ) (s t : State) (n : ℕ) (m : Contents)
    → IsRunStep plan start words schedule p s t → IsAtRest plan.shape n (calm_of plan words schedule)
    → Means plan.shape (calm_of plan words schedule) m
    → (call : Call) (stage : Stage) (fresh : Option Named) (left : Option ℕ) → IsAtStage plan.variant plan.shape s p call (OnKey stage)
    → (work : AtWork (setting plan.shape plan.variant call) s.words (calm_of plan words schedule) fresh stage) → IsMarked left work
    → WorkerStep plan s p t (calm_of plan words schedule) (calm_of plan words (schedule ++ p ∷ [])) m call stage fresh left

-- A step of another process keeps a call at work with its mark.
abbrev pub OthersKeepMarked : Type 0
OthersKeepMarked = (plan : Plan) (start : Contents) (words schedule : List ℕ) (p : ℕ) (s t : State) (n : ℕ) (m : Contents)
    (effect : Option Effect)
    → IsRunStep plan start words schedule p s t → IsAtRest plan.shape n (calm_of plan words schedule)
    → Makes plan.variant plan.shape s p (calm_of plan words schedule) (calm_of plan words (schedule ++ p ∷ [])) m effect
    → HoldsReached plan.variant plan.shape s p (calm_of plan words schedule) → (r : ℕ) → r ≢ p
    → (call : Call) (stage : Stage) (fresh : Option Named)
    (left : Option ℕ) → IsAtStage plan.variant plan.shape s r call (OnKey stage) → IsOther effect fresh
    → (work : AtWork (setting plan.shape plan.variant call) s.words (calm_of plan words schedule) fresh stage) → IsMarked left work
    → (later : AtWork (setting plan.shape plan.variant call) t.words (calm_of plan words (schedule ++ p ∷ [])) fresh stage)
    × IsMarked left later

-- A call at work may have no mark: so it begins.
abbrev pub WorkersMayHaveNoMark : Type 0
WorkersMayHaveNoMark = (c : Setting) (real calm : List ℕ) (fresh : Option Named) (stage : Stage) → (work : AtWork c real calm fresh stage)
    → IsMarked None work

-- A row that a call at work makes obsolete hangs in calm's tree on the row above, which the call holds too.
abbrev pub ObsoleteRowsHang : Type 0
ObsoleteRowsHang = (c : Setting) (n : ℕ) (real calm : List ℕ) (fresh : Option Named) (h : Hold) → IsAtRest c.shape n calm
    → AtWork c real calm fresh (Obsolete h) → HangsOnAbove c.shape calm h

-- A call at work takes no row and is not answered.
abbrev pub WorkersOnlyWork : Type 0
WorkersOnlyWork = (c : Setting) (real calm : List ℕ) (fresh : Option Named) (stage : Stage) → AtWork c real calm fresh stage
    → ((word v w : ℕ) (mark : Option Point) → turn_at c stage ≡ Asks (Swap word v w) mark → ⊥)
    × ((reply : Reply) → turn_at c stage ≡ Answers reply → ⊥)

-- A step of a call at its end that does not answer it: it stays at its end, with the same reply, and calm's tree stays.
abbrev pub EndersGoOn : Type 0
EndersGoOn = (plan : Plan) (start : Contents) (words schedule : List ℕ) (p : ℕ) (s t : State) (n : ℕ) (m : Contents)
    → IsRunStep plan start words schedule p s t → IsAtRest plan.shape n (calm_of plan words schedule)
    → Means plan.shape (calm_of plan words schedule) m
    → (call : Call) (stage : Stage) (reply : Reply) (a : Access) (mark : Option Point)
    → IsAtStage plan.variant plan.shape s p call (OnKey stage)
    → AtEnd (setting plan.shape plan.variant call) s.words (calm_of plan words schedule) reply stage
    → turn_at (setting plan.shape plan.variant call) stage ≡ Asks a mark
    → EnderStep plan s p t (calm_of plan words schedule) (calm_of plan words (schedule ++ p ∷ [])) m call reply
