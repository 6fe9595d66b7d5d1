-- What becomes of a call on a key of the optimistic tree in a step of its own.
use Rattle.std.specs.Prelude.{◌≡◌, ℕ, List, slice_index, false, Option, Some, None}
use Rattle.events.specs.declared.event.Reply.{Reply}
use Rattle.map_object.specs.MapObject.{Contents, Does}
use Rattle.art_rows.specs.declared.table.Shape.{Shape}
use Rattle.art_rows.specs.declared.table.Kind.{Kind}
use Rattle.art_rows.specs.Table.{kind_at, info_at}
use Rattle.art_rows.specs.declared.access.Access.{Access}
use Rattle.art_rows.specs.declared.access.Point.{Point}
use Rattle.art_rows.specs.Steps.{Asks}
use Rattle.art_rows.specs.Rows.{Setting}
use Rattle.art_control_states.specs.declared.stage.Hold.{Hold}
use Rattle.art_control_states.specs.declared.stage.Work.{Work}
use Rattle.art_control_states.specs.declared.stage.Stage.{Stage}
use Rattle.art_control_states.specs.Automaton.{turn_at, work_at}
use Rattle.art_core.specs.Accesses.{got_by}
use Rattle.art_core.specs.Meaning.{Reached}
use Rattle.art_schedules.specs.versions.Holding.{Each}
use Rattle.art_schedules.specs.versions.Locking.{rows_of_hold}
use Rattle.art_schedules.specs.versions.Steady.{SameWords}
use Rattle.art_schedules.specs.calm.Calm.{is_busy}
use Rattle.art_schedules.specs.effects.Begins.{BeginsWork}
use Rattle.art_schedules.specs.optimistic.Knows.{KnowsWay, IsHeldReached}

-- Calm has all words of each row that is not busy, and the info word of each row of its tree, busy or not.
pub record Agrees (shape : Shape) (words calm : List ℕ) : Type 0 where
  pub free : (base : ℕ) (kind : Kind) → kind_at shape base ≡ Some kind → is_busy (slice_index words base) ≡ false
      → SameWords words calm base kind
  pub info : (base : ℕ) (kind : Kind) → Reached shape calm base kind → slice_index calm (info_at base) ≡ slice_index words (info_at base)

-- the access of the stage gets this word
abbrev pub Gets : Setting → List ℕ → Stage → ℕ → Type 0
Gets c words stage w = (a : Access) (mark : Option Point) → turn_at c stage ≡ Asks a mark → w ≡ got_by a words

-- It goes on its way, or starts again; or its work begins; or it has found what it will answer: the reply is legal at these pairs, and
-- leaves them as they are.
pub data Goes (c : Setting) (calm words : List ℕ) (m : Contents) (next : Stage) : Type 0 where
  GoesOn : KnowsWay c calm words None next → Goes c calm words m next
  Works : (h : Hold) → (work : Work) → next ≡ work_at c h work → BeginsWork c calm h work
      → Each (IsHeldReached c.shape calm words) (rows_of_hold h)
      → Goes c calm words m next
  Finds : (reply : Reply) → Does m c.call reply m → KnowsWay c calm words (Some reply) next → Goes c calm words m next
