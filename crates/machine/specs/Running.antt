-- What a machine shows at opening, and after a run of a schedule.
use Rattle.std.specs.Prelude.{◌≡◌, ℕ, ◌+◌, List, [], take, slice_get, Some}
use Rattle.events.specs.declared.event.Call.{Call}
use Rattle.art_rows.specs.declared.table.Shape.{Shape}
use Rattle.art_rows.specs.declared.variant.Variant.{Variant}
use Rattle.art_core.specs.declared.item.Item.{Item}
use Rattle.art_core.specs.Core.{Plan, State, opened}
use Rattle.art_core.specs.NamedTurns.{process_of_item, WantsTurn, AreMade, IsMadeWhole, AreMadeWhole}
use Rattle.machine.specs.declared.machines.Machine.{Machine}
use Rattle.plans.specs.declared.fault.MachineFault.{MachineFault}
use Rattle.machine.specs.Machines.{Shows, start_of, turns_left}
use Rattle.machine.specs.Refusals.{IsRefusedIn}

abbrev pub plan_of : Shape → Variant → List (List Call) → Plan
plan_of shape variant scripts = record { shape = shape; variant = variant; scripts = scripts }

-- the machine shows the opening state of the plan, with this many turns left and no starting pairs
pub record IsOpened (shape : Shape) (variant : Variant) (scripts : List (List Call)) (limit : ℕ) (m : Machine) : Type 0 where
  pub shows : Shows (plan_of shape variant scripts) m (opened (plan_of shape variant scripts))
  pub left : turns_left m ≡ limit
  pub no_start : start_of m ≡ []

-- From the first state, with this many turns left, the items were made whole, and the machine shows
-- the state after them.
pub record HasMadeAll (plan : Plan) (items : List Item) (first : State) (left : ℕ) (m : Machine) : Type 0 where
  pub state : State
  pub made : ℕ
  pub turns : AreMadeWhole plan items first made state
  pub shows : Shows plan m state
  pub costs : turns_left m + made ≡ left

-- From the first state, with this many turns left, the item was made whole, and the machine shows
-- the state after it.
pub record HasMadeItem (plan : Plan) (item : Item) (first : State) (left : ℕ) (m : Machine) : Type 0 where
  pub state : State
  pub made : ℕ
  pub turns : IsMadeWhole plan item first made state
  pub shows : Shows plan m state
  pub costs : turns_left m + made ≡ left

-- From the first state, with this many turns left, turns of the item were made. The next one that
-- it names is refused for this cause, and the machine shows the state before it.
pub record HasStoppedIn (plan : Plan) (item : Item) (first : State) (left : ℕ) (fault : MachineFault) (m : Machine) : Type 0 where
  pub state : State
  pub made : ℕ
  pub turns : AreMade plan item first made state
  pub wants : WantsTurn plan item first made state
  pub refused : IsRefusedIn plan state (turns_left m) (process_of_item item) fault
  pub shows : Shows plan m state
  pub costs : turns_left m + made ≡ left

-- The items before this place were made whole, and the one there was stopped.
pub record HasStoppedAt (plan : Plan) (items : List Item) (first : State) (left : ℕ) (place : ℕ) (fault : MachineFault)
    (m : Machine) : Type 0 where
  pub item : Item
  pub is_item : slice_get items place ≡ Some item
  pub between : State
  pub made : ℕ
  pub before : AreMadeWhole plan (take place items) first made between
  pub rest : ℕ
  pub costs : rest + made ≡ left
  pub stops : HasStoppedIn plan item between rest fault m
