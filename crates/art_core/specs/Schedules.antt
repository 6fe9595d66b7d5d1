-- Schedules as they are written, computed: what items make of a run under a limit of turns.
use Rattle.std.specs.Prelude.{ℕ, zero, suc, Bool, false, not, ◌||◌, ◌==◌, if◌then◌else◌, List, [], ◌∷◌, slice_get, Option, Some, None}
use Rattle.art_rows.specs.declared.access.Point.{Point}
use Rattle.art_rows.specs.declared.access.Point.TheVariants as point
use Rattle.art_core.specs.declared.item.Item.{Item}
use Rattle.art_core.specs.declared.item.Item.TheVariants.{Turns, End, Until}
use Rattle.art_core.specs.declared.process.Process.{Process}
use Rattle.art_core.specs.Core.{Plan, State, step, opened}
use Rattle.art_core.specs.NamedTurns.{next_point, finished_count}

-- Why a turn is refused.
pub data Refusal : Type 0 where
  NoProcess NothingToDo TurnLimit : Refusal

-- What a run has come to: its state, the turns left to it, and why it stopped, if it did.
pub record Run : Type 0 where
  pub state : State
  pub left : ℕ
  pub refused : Option Refusal

-- one turn: it needs a process, something to do, and a turn left, tested in this order
abbrev pub turn_with : Run → ℕ → Option Process → Option State → Run
turn_with r left None next = record { state = r.state; left = r.left; refused = Some NoProcess }
turn_with r left (Some q) None = record { state = r.state; left = r.left; refused = Some NothingToDo }
turn_with r zero (Some q) (Some s) = record { state = r.state; left = r.left; refused = Some TurnLimit }
turn_with r (suc left) (Some q) (Some s) = record { state = s; left = left; refused = None }

abbrev pub turn : Plan → Run → ℕ → Run
turn plan r p = turn_with r r.left (slice_get r.state.processes p) (step plan r.state p)

-- goes on where nothing was refused
abbrev pub if_refused : Option Refusal → Run → (Run → Run) → Run
if_refused None r f = f r
if_refused (Some x) r f = r

abbrev pub unless_refused : Run → (Run → Run) → Run
unless_refused r f = if_refused r.refused r f

abbrev pub turns_made : Plan → ℕ → ℕ → Run → Run
turns_made plan p zero r = r
turns_made plan p (suc n) r = unless_refused (turn plan r p) (turns_made plan p n)

-- Turns of p until the test holds. Each takes one of the turns left; where none is left, one more is refused.
abbrev pub turns_until : Plan → ℕ → (State → Bool) → ℕ → Run → Run
turns_until plan p stop zero r = if stop r.state then r else turn plan r p
turns_until plan p stop (suc left) r =
    if stop r.state then r else unless_refused (turn plan r p) (turns_until plan p stop left)

abbrev pub point_number : Point → ℕ
point_number point.Child = 0
point_number point.Check = 1
point_number point.LockRoot = 2
point_number point.LockRow = 3
point_number point.Unlock = 4
point_number point.Answer = 5

abbrev pub is_at : Point → Option Point → Bool
is_at q None = false
is_at q (Some r) = point_number q == point_number r

-- p has finished another number of calls than n
abbrev pub has_finished : ℕ → ℕ → State → Bool
has_finished p n s = not (finished_count (slice_get s.processes p) == n)

-- what an item makes of a run
abbrev pub made : Plan → Item → Run → Run
made plan (Turns p n) r = turns_made plan p n r
made plan (End p) r = turns_until plan p (has_finished p (finished_count (slice_get r.state.processes p))) r.left r
made plan (Until p q) r =
    turns_until plan p
    (λ s. has_finished p (finished_count (slice_get r.state.processes p)) s || is_at q (next_point plan (slice_get s.processes p)))
    r.left r

-- the items in order, up to the first refused turn
abbrev pub items_made : Plan → List Item → Run → Run
items_made plan [] r = r
items_made plan (i ∷ is) r = unless_refused (made plan i r) (items_made plan is)

-- a run before its first turn
abbrev pub begun_run : State → ℕ → Run
begun_run s left = record { state = s; left = left; refused = None }

unfoldable pub schedule_run : Plan → ℕ → List Item → Run
schedule_run plan limit items = items_made plan items (begun_run (opened plan) limit)
