-- Schedules that a machine can make, and the replays of them.
use Rattle.std.specs.Prelude.{◌≡◌, ⊤, ℕ, ◌<◌, ◌≤◌, ◌⊎◌, List, [], length, flat_map, replicate, IsTrue, All}
use Rattle.events.specs.declared.event.Call.{Call}
use Rattle.art_rows.specs.declared.table.Shape.{Shape}
use Rattle.art_rows.specs.declared.variant.Variant.{Variant}
use Rattle.art_core.specs.declared.item.Item.{Item}
use Rattle.art_core.specs.declared.item.Item.TheVariants.{Turns, End, Until}
use Rattle.art_core.specs.Core.{Plan, State, opened}
use Rattle.art_core.specs.Runs.{Gives}
use Rattle.machine.specs.Running.{plan_of}
use Rattle.plan_text.specs.Replays.{ReplayView, is_item, item_limit}
use Rattle.plan_text.specs.WrittenReplays.{AreHeld}
use Rattle.replays.specs.declared.draw_fault.DrawFault.{DrawFault}
use Rattle.replays.specs.declared.draw_fault.DrawFault.TheVariants.{TooManyItems, Memory}
use Rattle.replays.specs.Rest.{NoneGoesOn}

-- some state is what these turns give: each of them can be made
pub record CanBeMade (plan : Plan) (first : State) (turns : List ℕ) : Type 0 where
  pub state : State
  pub gives : Gives plan first turns state

-- Turns from this state on that can be made. They are as many as the limit, or fewer where no process goes on after them.
pub record IsDrawnRun (plan : Plan) (first : State) (limit : ℕ) (turns : List ℕ) : Type 0 where
  pub made : CanBeMade plan first turns
  pub few : length turns ≤ limit
  pub ended : (length turns ≡ limit) ⊎ NoneGoesOn plan made.state

-- the turns that an item names by its number alone
abbrev pub turns_in : Item → List ℕ
turns_in (Turns process turns) = replicate turns process
turns_in (End process) = []
turns_in (Until process point) = []

-- items of numbers of turns, which are within the limits and name these turns
pub record Name (items : List Item) (turns : List ℕ) : Type 0 where
  pub named : flat_map turns_in items ≡ turns
  pub standing : All (λ item. IsTrue (is_item item)) items
  pub held : AreHeld items

-- a schedule of this plan under the limit, from the opening on: its items name such turns
pub record IsScheduleOf (plan : Plan) (limit : ℕ) (items : List Item) : Type 0 where
  pub turns : List ℕ
  pub name : Name items turns
  pub run : IsDrawnRun plan (opened plan) limit turns

-- a replay of these scripts without starting pairs, by such a schedule
pub record IsDrawnReplay (shape : Shape) (variant : Variant) (limit : ℕ) (scripts : List (List Call)) (r : ReplayView) : Type 0 where
  pub limit_is : r.limit ≡ limit
  pub shape_is : r.shape ≡ shape
  pub variant_is : r.variant ≡ variant
  pub no_start : r.start ≡ []
  pub scripts_are : r.scripts ≡ scripts
  pub schedule : IsScheduleOf (plan_of shape variant scripts) limit r.schedule

-- such a schedule has more items than a replay
pub record IsTooLong (shape : Shape) (variant : Variant) (limit : ℕ) (scripts : List (List Call)) : Type 0 where
  pub items : List Item
  pub schedule : IsScheduleOf (plan_of shape variant scripts) limit items
  pub many : item_limit < length items

-- why none is drawn: its schedule is too long; or memory ran out
abbrev pub IsUndrawn : Shape → Variant → ℕ → List (List Call) → DrawFault → Type 0
IsUndrawn shape variant limit scripts TooManyItems = IsTooLong shape variant limit scripts
IsUndrawn shape variant limit scripts Memory = ⊤
