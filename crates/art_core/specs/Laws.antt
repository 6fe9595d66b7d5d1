-- Laws of schedules.
use Rattle.std.specs.Prelude.{◌≡◌, ℕ, ◌+◌, ◌*◌, ◌<◌, ◌≤◌, List, ◌++◌, length, map, slice_index, All, Option, Some, None}
use Rattle.events.specs.declared.event.Call.{Call}
use Rattle.events.specs.Limits.{call_limit}
use Rattle.events.specs.Histories.{AreHistoryEvents}
use Rattle.events.specs.Logs.{Stamped}
use Rattle.art_rows.specs.declared.table.Shape.{Shape}
use Rattle.art_rows.specs.Table.{clock, table_words}
use Rattle.art_rows.specs.declared.variant.Variant.{Variant}
use Rattle.art_rows.specs.Act.{act}
use Rattle.art_core.specs.declared.process.Process.{Process}
use Rattle.art_core.specs.Core.{Plan, State, Move, Invokes, begun, move_of, history_of, opened_on}
use Rattle.art_core.specs.Runs.{Gives}
use Rattle.art_core.specs.Plans.{IsPlan}
use Rattle.art_core.specs.declared.item.Item.{Item}
use Rattle.art_core.specs.NamedTurns.{AreMadeWhole}
use Rattle.art_core.specs.Schedules.{Run, begun_run, items_made}

-- the one list begins the other
abbrev pub Begins : List Call → List Call → Type 0
Begins script longer = (rest : List Call) × (longer ≡ script ++ rest)

-- the calls begun so far as scripts
abbrev pub begun_plan : Shape → Variant → List Process → Plan
begun_plan shape variant processes = record { shape = shape; variant = variant; scripts = map begun processes }

-- what a process may do next, whichever call it begins
abbrev pub MayMove : Shape → Variant → Process → Option Call → Move → Type 0
MayMove shape variant q None m = (call : Call) × (m ≡ Invokes call)
MayMove shape variant q (Some call) m = m ≡ move_of (act shape variant call q.got)

-- The clock is above all stamps, and counts few of them; what was logged is a history.
pub record IsClocked (s : State) : Type 0 where
  pub stamps : All (λ q. All (λ (e : Stamped). e.0 < slice_index s.words clock) q.log) s.processes
  pub few : slice_index s.words clock ≤ 2 * call_limit
  pub history : AreHistoryEvents (history_of s)

-- In each state that a schedule of a plan within the limits gives, the clock is ahead, however many
-- steps were made.
abbrev pub ClocksAreAhead : Type 0
ClocksAreAhead = (plan : Plan) (words schedule : List ℕ) (s : State) → IsPlan plan → length words ≡ table_words plan.shape
    → slice_index words clock ≡ 0
    → Gives plan (opened_on plan words) schedule s → IsClocked s

-- The turns that items name are as many, and lead to one state.
abbrev pub NamedTurnsAreOne : Type 0
NamedTurnsAreOne = (plan : Plan) (items : List Item) (first s t : State) (n m : ℕ) → AreMadeWhole plan items first n s
    → AreMadeWhole plan items first m t
    → (n ≡ m) × (s ≡ t)

-- a run that was not refused made all the turns that its items name
pub record HasComputed (plan : Plan) (items : List Item) (first : State) (left : ℕ) (r : Run) : Type 0 where
  pub made : ℕ
  pub turns : AreMadeWhole plan items first made r.state
  pub costs : r.left + made ≡ left

-- What is computed of a schedule is what its items name.
abbrev pub SchedulesCompute : Type 0
SchedulesCompute = (plan : Plan) (items : List Item) (first : State) (left : ℕ)
    → (items_made plan items (begun_run first left)).refused ≡ None
    → HasComputed plan items first left (items_made plan items (begun_run first left))
