-- What becomes of a call on a key under lock coupling in a step of its own.
use Rattle.std.specs.Prelude.{◌≡◌, ℕ, List, slice_index, false, Option, Some, None}
use Rattle.events.specs.declared.event.Reply.{Reply}
use Rattle.map_object.specs.MapObject.{Contents, Does}
use Rattle.art_rows.specs.declared.table.Kind.{Kind}
use Rattle.art_rows.specs.Words.{is_obsolete, locked_word}
use Rattle.art_rows.specs.declared.access.Access.TheVariants.{Load, Exchange as Swap}
use Rattle.art_rows.specs.declared.access.Point.{Point}
use Rattle.art_rows.specs.Steps.{Asks}
use Rattle.art_rows.specs.Rows.{Setting}
use Rattle.art_control_states.specs.declared.stage.Hold.{Hold}
use Rattle.art_control_states.specs.declared.stage.Work.{Work}
use Rattle.art_control_states.specs.declared.stage.Stage.{Stage}
use Rattle.art_control_states.specs.Automaton.{turn_at, work_at}
use Rattle.art_core.specs.Meaning.{Reached}
use Rattle.art_schedules.specs.trees.Trees.{SameRow}
use Rattle.art_schedules.specs.versions.Holding.{Each}
use Rattle.art_schedules.specs.versions.Locking.{rows_of_hold}
use Rattle.art_schedules.specs.coupled.Knows.{KnowsWay, IsHeldLive}
use Rattle.art_schedules.specs.effects.Begins.{BeginsWork}

-- What the access gets: a load gets the word as it is. If an exchange takes a row of the calm tree,
-- that row is not obsolete, and after its version the words are the calm ones.
pub record Gets (c : Setting) (calm words : List ℕ) (stage : Stage) (w : ℕ) : Type 0 where
  pub loads : (word : ℕ) (mark : Option Point) → turn_at c stage ≡ Asks (Load word) mark → w ≡ slice_index words word
  pub takes : (word v : ℕ) (mark : Option Point) → turn_at c stage ≡ Asks (Swap word v (locked_word v)) mark → w ≡ v → (kind : Kind)
      → Reached c.shape calm word kind → SameRow calm words word kind × (is_obsolete v ≡ false)

-- It goes on its way, or its work begins, or it has found what it will answer: the reply is legal at these pairs, and leaves them as they
-- are.
pub data Goes (c : Setting) (calm words : List ℕ) (m : Contents) (next : Stage) : Type 0 where
  GoesOn : KnowsWay c calm words None next → Goes c calm words m next
  Works : (h : Hold) → (work : Work) → next ≡ work_at c h work → BeginsWork c calm h work → Each (IsHeldLive calm words) (rows_of_hold h)
      → Goes c calm words m next
  Finds : (reply : Reply) → Does m c.call reply m → KnowsWay c calm words (Some reply) next → Goes c calm words m next
