-- Laws of calls on a key of the optimistic tree.
use Rattle.std.specs.Prelude.{◌≡◌, ◌⊎◌, ℕ, List, slice_index, true, false, Option, Some, None}
use Rattle.events.specs.declared.event.Call.{Call}
use Rattle.events.specs.declared.event.Reply.{Reply}
use Rattle.map_object.specs.MapObject.{Contents}
use Rattle.art_rows.specs.declared.table.Shape.{Shape}
use Rattle.art_rows.specs.declared.table.Kind.{Kind}
use Rattle.art_rows.specs.Table.{info_at}
use Rattle.art_rows.specs.declared.variant.Variant.TheVariants.{Optimistic}
use Rattle.art_rows.specs.TreeCalls.{is_tree_call}
use Rattle.art_rows.specs.Rows.{is_insert, is_scan}
use Rattle.art_control_states.specs.declared.stage.Stage.{Stage}
use Rattle.art_control_states.specs.Stages.{setting}
use Rattle.art_control_states.specs.Automaton.{stage_after}
use Rattle.art_core.specs.Core.{Plan, State}
use Rattle.art_core.specs.Plans.{IsRun}
use Rattle.art_core.specs.Meaning.{Means}
use Rattle.art_schedules.specs.trees.Trees.{IsAtRest}
use Rattle.art_schedules.specs.versions.Holding.{Each, KnowsKey}
use Rattle.art_schedules.specs.versions.Versions.{IsSettled}
use Rattle.art_schedules.specs.versions.Steady.{IsSteady}
use Rattle.art_schedules.specs.versions.Locking.{held_at_stage}
use Rattle.art_schedules.specs.work.Works.{RowsOf}
use Rattle.art_schedules.specs.calm.Calm.{calm_of}
use Rattle.art_schedules.specs.changes.Effects.{Effect}
use Rattle.art_schedules.specs.changes.Courses.{IsStill, TreeGoesOn}
use Rattle.art_schedules.specs.optimistic.Knows.{KnowsWay}
use Rattle.art_schedules.specs.optimistic.Goes.{Agrees, Gets, Goes}
use Rattle.art_schedules.specs.calm.Changes.{IsRunStep}

-- Before its first access a call knows its way.
abbrev pub WaysBegin : Type 0
WaysBegin = (shape : Shape) (call : Call) (calm words : List ℕ)
    → KnowsWay (setting shape Optimistic call) calm words None (Rattle.art_control_states.specs.Automaton.start_at false)

-- A call that knows its way goes on or starts again, or its work begins, or it finds what it will answer.
abbrev pub WaysGoOn : Type 0
WaysGoOn = (shape : Shape) (call : Call) (n : ℕ) (calm words : List ℕ) (m : Contents) (stage : Stage) (w : ℕ) → is_tree_call call ≡ true
    → is_scan call ≡ false → IsAtRest shape n calm → Means shape calm m → Agrees shape words calm
    → KnowsKey (RowsOf shape) (setting shape Optimistic call) stage
    → KnowsWay (setting shape Optimistic call) calm words None stage → Gets (setting shape Optimistic call) words stage w
    → Goes (setting shape Optimistic call) calm words m (stage_after (setting shape Optimistic call) stage w)

-- A call that has found what it will answer has it still, or starts again.
abbrev pub FindingsStay : Type 0
FindingsStay = (shape : Shape) (call : Call) (calm words : List ℕ) (stage : Stage) (w : ℕ) (reply : Reply)
    → KnowsWay (setting shape Optimistic call) calm words (Some reply) stage → Gets (setting shape Optimistic call) words stage w
    → KnowsWay (setting shape Optimistic call) calm words (Some reply) (stage_after (setting shape Optimistic call) stage w)
    ⊎ KnowsWay (setting shape Optimistic call) calm words None (stage_after (setting shape Optimistic call) stage w)

-- the info word of each settled row stays
abbrev pub InfosStay : Shape → State → State → Type 0
InfosStay shape s t = (base : ℕ) (kind : Kind) → IsSettled Optimistic shape s base kind
    → slice_index t.words (info_at base) ≡ slice_index s.words (info_at base)

-- A step of any process, by which the calm tree changes by an effect or by none, leaves a call what
-- it knew. A row leaves the tree only if it is obsolete.
abbrev pub WaysAreKept : Type 0
WaysAreKept = (shape : Shape) (call : Call) (calm after : List ℕ) (pairs : Contents) (effect : Option Effect) (s t : State)
    (found : Option Reply)
    (stage : Stage) → TreeGoesOn shape t.words calm after pairs effect → Agrees shape s.words calm → Agrees shape t.words after
    → IsSteady Optimistic shape s t → InfosStay shape s t
    → KnowsKey (IsSettled Optimistic shape s) (setting shape Optimistic call) stage
    → Each (IsStill calm s.words after t.words effect) (held_at_stage false (is_insert call) stage)
    → KnowsWay (setting shape Optimistic call) calm s.words found stage → KnowsWay (setting shape Optimistic call) after t.words found stage

-- In each step of a run the info word of each settled row stays.
abbrev pub InfosStayInRuns : Type 0
InfosStayInRuns = (plan : Plan) (start : Contents) (words schedule : List ℕ) (p : ℕ) (s t : State)
    → IsRunStep plan start words schedule p s t
    → plan.variant ≡ Optimistic → InfosStay plan.shape s t

-- In every state of a run calm agrees with the words.
abbrev pub CalmAgrees : Type 0
CalmAgrees = (plan : Plan) (start : Contents) (words schedule : List ℕ) (s : State) → IsRun plan start words schedule s
    → plan.variant ≡ Optimistic
    → Agrees plan.shape s.words (calm_of plan words schedule)
