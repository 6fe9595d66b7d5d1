-- Replays: what is run, and by which schedule.
use Rattle.std.specs.Prelude.{ℕ, ◌≤◌, Bool, true, ◌&&◌, nat_le, IsTrue, List, length, All}
use Rattle.events.specs.declared.event.Call.{Call}
use Rattle.map_object.specs.MapObject.{Contents}
use Rattle.art_rows.specs.declared.table.Shape.{Shape}
use Rattle.art_rows.specs.declared.variant.Variant.{Variant}
use Rattle.art_core.specs.declared.item.Item.{Item}
use Rattle.art_core.specs.declared.item.Item.TheVariants.{Turns, End, Until}
use Rattle.art_core.specs.Starts.{IsStartOf}
use Rattle.art_core.specs.Core.{Plan}
use Rattle.art_core.specs.Plans.{IsPlan}

-- the most turns of a machine, and of an item
abbrev pub turn_limit : ℕ
turn_limit = 1000000

-- the most items of a schedule
abbrev pub item_limit : ℕ
item_limit = 100000

-- what a contract sees of a replay
pub record ReplayView : Type 0 where
  pub limit : ℕ
  pub shape : Shape
  pub variant : Variant
  pub start : Contents
  pub scripts : List (List Call)
  pub schedule : List Item

-- what a replay runs
abbrev pub plan_in : ReplayView → Plan
plan_in r = record { shape = r.shape; variant = r.variant; scripts = r.scripts }

-- whether an item that names a number of turns names some, and not too many
abbrev pub is_item : Item → Bool
is_item (Turns process turns) = nat_le 1 turns && nat_le turns turn_limit
is_item (End process) = true
is_item (Until process point) = true

-- a replay within the limits
pub record IsReplay (r : ReplayView) : Type 0 where
  pub some_turn : 1 ≤ r.limit
  pub few_turns : r.limit ≤ turn_limit
  pub plan : IsPlan (plan_in r)
  pub start : IsStartOf (plan_in r) r.start
  pub few_items : length r.schedule ≤ item_limit
  pub items : All (λ item. IsTrue (is_item item)) r.schedule
