-- Laws of calls under lock coupling.
use Rattle.std.specs.Prelude.{◌≡◌, ◌≢◌, ℕ, List, [], ◌∷◌, ◌++◌, true, false, Option, Some, None}
use Rattle.events.specs.declared.event.Call.{Call}
use Rattle.events.specs.declared.event.Reply.{Reply}
use Rattle.map_object.specs.MapObject.{Contents}
use Rattle.art_rows.specs.declared.table.Shape.{Shape}
use Rattle.art_rows.specs.declared.variant.Variant.TheVariants.{Coupled}
use Rattle.art_rows.specs.TreeCalls.{is_tree_call}
use Rattle.art_rows.specs.Rows.{is_insert, is_scan}
use Rattle.art_control_states.specs.declared.stage.Stage.{Stage}
use Rattle.art_control_states.specs.Stages.{setting}
use Rattle.art_control_states.specs.Automaton.{turn_at, stage_after}
use Rattle.art_core.specs.Meaning.{Means}
use Rattle.art_schedules.specs.trees.Trees.{IsAtRest}
use Rattle.art_schedules.specs.versions.Holding.{FitsStage}
use Rattle.art_schedules.specs.versions.Versions.{IsAtStage}
use Rattle.art_rows.specs.declared.access.Access.{Access}
use Rattle.art_rows.specs.declared.access.Point.{Point}
use Rattle.art_rows.specs.Steps.{Asks, Answers}
use Rattle.art_control_states.specs.declared.stage.Stage.TheVariants.{Lock}
use Rattle.art_control_states.specs.declared.stage.Target.TheVariants.{Root}
use Rattle.art_control_states.specs.Calls.{OnKey, call_after_words}
use Rattle.art_core.specs.Core.{Plan, State}
use Rattle.art_schedules.specs.calm.Calm.{calm_of}
use Rattle.art_schedules.specs.work.Own.{is_work}
use Rattle.art_schedules.specs.changes.Effects.{Effect}
use Rattle.art_schedules.specs.changes.Courses.{TreeGoesOn}
use Rattle.art_schedules.specs.coupled.Moments.{ObsoleteLeave, GoesFrom, StaysFrom, HeldAreLive, TakesLive, LeavesBy, IsCoupledStep}
use Rattle.art_schedules.specs.coupled.Knows.{KnowsWay}
use Rattle.art_schedules.specs.coupled.Goes.{Gets, Goes}

-- A call that knows its way goes on, or its work begins, or it finds what it will answer.
abbrev pub WaysGoOn : Type 0
WaysGoOn = (shape : Shape) (call : Call) (n : ℕ) (calm words : List ℕ) (m : Contents) (stage : Stage) (w : ℕ) → is_tree_call call ≡ true
    → is_scan call ≡ false → IsAtRest shape n calm → Means shape calm m → FitsStage true (is_insert call) (setting shape Coupled call) stage
    → KnowsWay (setting shape Coupled call) calm words None stage → Gets (setting shape Coupled call) calm words stage w
    → Goes (setting shape Coupled call) calm words m (stage_after (setting shape Coupled call) stage w)

-- A call that has found what it will answer only releases the rows that it holds, and answers that.
abbrev pub FindingsStay : Type 0
FindingsStay = (shape : Shape) (call : Call) (n : ℕ) (calm words : List ℕ) (stage : Stage) (w : ℕ) (reply : Reply) → IsAtRest shape n calm
    → KnowsWay (setting shape Coupled call) calm words (Some reply) stage → Gets (setting shape Coupled call) calm words stage w
    → KnowsWay (setting shape Coupled call) calm words (Some reply) (stage_after (setting shape Coupled call) stage w)

-- A call on a key begins at the lock of the root, where it knows nothing yet.
abbrev pub CallsBegin : Type 0
CallsBegin = (shape : Shape) (call : Call) (calm words : List ℕ) → is_scan call ≡ false
    → (call_after_words (setting shape Coupled call) [] ≡ OnKey (Lock Root true))
    × KnowsWay (setting shape Coupled call) calm words None (Lock Root true)

-- In a run: a step of a call that knows its way.
abbrev pub CallsGoOn : Type 0
CallsGoOn = (plan : Plan) (start : Contents) (words schedule : List ℕ) (p : ℕ) (s t : State) (claims : ℕ) (m : Contents)
    (leaving : ℕ → Option ℕ) (call : Call)
    (stage : Stage) → IsCoupledStep plan start words schedule p s t claims m
    → ObsoleteLeave plan.shape s (calm_of plan words schedule) leaving
    → is_tree_call call ≡ true → is_scan call ≡ false → IsAtStage Coupled plan.shape s p call (OnKey stage)
    → KnowsWay (setting plan.shape Coupled call) (calm_of plan words schedule) s.words None stage
    → GoesFrom plan.shape call t p (calm_of plan words schedule) (calm_of plan words (schedule ++ p ∷ [])) m

-- A step of a call that has found its reply, other than the one that answers it.
abbrev pub CallsStay : Type 0
CallsStay = (plan : Plan) (start : Contents) (words schedule : List ℕ) (p : ℕ) (s t : State) (claims : ℕ) (m : Contents)
    (leaving : ℕ → Option ℕ) (call : Call)
    (stage : Stage) (reply : Reply) (a : Access) (mark : Option Point) → IsCoupledStep plan start words schedule p s t claims m
    → ObsoleteLeave plan.shape s (calm_of plan words schedule) leaving → IsAtStage Coupled plan.shape s p call (OnKey stage)
    → KnowsWay (setting plan.shape Coupled call) (calm_of plan words schedule) s.words (Some reply) stage
    → turn_at (setting plan.shape Coupled call) stage ≡ Asks a mark
    → StaysFrom plan.shape call t p (calm_of plan words schedule) (calm_of plan words (schedule ++ p ∷ [])) reply

-- It is answered what it has found.
abbrev pub FoundIsAnswered : Type 0
FoundIsAnswered = (shape : Shape) (call : Call) (calm words : List ℕ) (stage : Stage) (reply answer : Reply)
    → KnowsWay (setting shape Coupled call) calm words (Some reply) stage
    → turn_at (setting shape Coupled call) stage ≡ Answers answer → answer ≡ reply

-- A step of another process, in which the calm tree changes by an effect, or by none. The row that leaves it, if one does, is obsolete
-- then.
abbrev pub OthersLeaveWays : Type 0
OthersLeaveWays = (plan : Plan) (start : Contents) (words schedule : List ℕ) (p : ℕ) (s t : State) (claims : ℕ) (m : Contents)
    (r : ℕ) (call : Call)
    (stage : Stage) (found : Option Reply) (pairs : Contents) (effect : Option Effect)
    → IsCoupledStep plan start words schedule p s t claims m → r ≢ p
    → IsAtStage Coupled plan.shape s r call (OnKey stage)
    → KnowsWay (setting plan.shape Coupled call) (calm_of plan words schedule) s.words found stage
    → TreeGoesOn plan.shape t.words (calm_of plan words schedule) (calm_of plan words (schedule ++ p ∷ [])) pairs effect
    → IsAtStage Coupled plan.shape t r call (OnKey stage)
    × KnowsWay (setting plan.shape Coupled call) (calm_of plan words (schedule ++ p ∷ [])) t.words found stage

-- ---- rows that are obsolete

-- A call on its way takes no row that is obsolete.
abbrev pub WaysTakeLive : Type 0
WaysTakeLive = (plan : Plan) (start : Contents) (words schedule : List ℕ) (p : ℕ) (s t : State) (claims : ℕ) (m : Contents)
    (leaving : ℕ → Option ℕ) (call : Call) (stage : Stage) (found : Option Reply) → IsCoupledStep plan start words schedule p s t claims m
    → ObsoleteLeave plan.shape s (calm_of plan words schedule) leaving → IsAtStage Coupled plan.shape s p call (OnKey stage)
    → KnowsWay (setting plan.shape Coupled call) (calm_of plan words schedule) s.words found stage → TakesLive plan.shape s p

-- A call at work takes no row.
abbrev pub WorkTakesLive : Type 0
WorkTakesLive = (plan : Plan) (start : Contents) (words schedule : List ℕ) (p : ℕ) (s t : State) (claims : ℕ) (m : Contents)
    (call : Call) (stage : Stage)
    → IsCoupledStep plan start words schedule p s t claims m → IsAtStage Coupled plan.shape s p call (OnKey stage) → is_work stage ≡ true
    → TakesLive plan.shape s p

-- A row of the calm tree that is obsolete is about to leave it, in each state.
abbrev pub ObsoleteRowsLeave : Type 0
ObsoleteRowsLeave = (plan : Plan) (start : Contents) (words schedule : List ℕ) (p : ℕ) (s t : State) (claims : ℕ) (m : Contents)
    (leaving next : ℕ → Option ℕ)
    (pairs : Contents) (effect : Option Effect) → IsCoupledStep plan start words schedule p s t claims m
    → TreeGoesOn plan.shape t.words (calm_of plan words schedule) (calm_of plan words (schedule ++ p ∷ [])) pairs effect
    → HeldAreLive plan.shape s → LeavesBy plan.shape s t p (calm_of plan words schedule) effect leaving next
    → ObsoleteLeave plan.shape s (calm_of plan words schedule) leaving
    → ObsoleteLeave plan.shape t (calm_of plan words (schedule ++ p ∷ [])) next

-- A tree at rest has no obsolete row.
abbrev pub RestsHaveNone : Type 0
RestsHaveNone = (shape : Shape) (claims : ℕ) (s : State) (leaving : ℕ → Option ℕ) → IsAtRest shape claims s.words
    → ObsoleteLeave shape s s.words leaving
