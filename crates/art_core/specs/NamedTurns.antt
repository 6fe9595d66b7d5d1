-- The turns that the items of a schedule name: each item is about one process, and names turns of it until it has what it waits for.
use Rattle.std.specs.Prelude.{◌≡◌, ◌≢◌, ℕ, ◌+◌, ◌<◌, List, [], ◌∷◌, length, replicate, slice_get, Option, Some, None}
use Rattle.art_rows.specs.declared.access.Point.{Point}
use Rattle.art_rows.specs.Act.{act, point_of}
use Rattle.events.specs.declared.event.Call.{Call}
use Rattle.art_core.specs.declared.item.Item.{Item}
use Rattle.art_core.specs.declared.item.Item.TheVariants.{Turns, End, Until}
use Rattle.art_core.specs.declared.process.Process.{Process}
use Rattle.art_core.specs.Core.{Plan, State, finished}
use Rattle.art_core.specs.Runs.{Gives}

-- the process that an item is about
abbrev pub process_of_item : Item → ℕ
process_of_item (Turns p count) = p
process_of_item (End p) = p
process_of_item (Until p point) = p

-- the point that a process's next step is at: none with no open call
abbrev pub point_in : Plan → List ℕ → Option Call → Option Point
point_in plan got None = None
point_in plan got (Some call) = point_of (act plan.shape plan.variant call got)

abbrev pub next_point : Plan → Option Process → Option Point
next_point plan None = None
next_point plan (Some q) = point_in plan q.got q.call

-- how many calls a process has finished
abbrev pub finished_count : Option Process → ℕ
finished_count None = 0
finished_count (Some q) = length (finished q)

-- no call of p was answered between the two states
abbrev pub HasNotAnswered : ℕ → State → State → Type 0
HasNotAnswered p first now = finished_count (slice_get now.processes p) ≡ finished_count (slice_get first.processes p)

-- Whether an item that began in the first state names one more turn after those that led to the
-- present state. `Turns` names a number of turns in all. `End` names turns until a call is
-- answered. `Until` names turns until that, or until the next step is at the point.
abbrev pub WantsTurn : Plan → Item → State → ℕ → State → Type 0
WantsTurn plan (Turns p count) first made now = made < count
WantsTurn plan (End p) first made now = HasNotAnswered p first now
WantsTurn plan (Until p point) first made now = HasNotAnswered p first now × (next_point plan (slice_get now.processes p) ≢ Some point)

-- This many turns of the item's process lead from the first state to the present one, and the item
-- names each of them.
pub record AreMade (plan : Plan) (item : Item) (first : State) (made : ℕ) (now : State) : Type 0 where
  pub gives : Gives plan first (replicate made (process_of_item item)) now
  pub wanted : (earlier : ℕ) (s : State) → earlier < made → Gives plan first (replicate earlier (process_of_item item)) s
      → WantsTurn plan item first earlier s

-- these are all the turns that it names
pub record IsMadeWhole (plan : Plan) (item : Item) (first : State) (made : ℕ) (now : State) : Type 0 where
  pub turns : AreMade plan item first made now
  pub over : WantsTurn plan item first made now → ⊥

-- The items are made whole one after another, by this many turns together.
abbrev pub AreMadeWhole : Plan → List Item → State → ℕ → State → Type 0
AreMadeWhole plan [] first made now = (made ≡ 0) × (first ≡ now)
AreMadeWhole plan (item ∷ items) first made now =
    (here : ℕ) × (later : ℕ) × (between : State) × IsMadeWhole plan item first here between × AreMadeWhole plan items between later now
    × (made ≡ here + later)
