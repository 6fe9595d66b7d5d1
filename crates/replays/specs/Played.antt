-- What the run of a replay records, and why there is none.
use Rattle.std.specs.Prelude.{◌≡◌, ◌⊎◌, ⊤, Bool, true, false, ℕ, ◌+◌, ◌≤◌, List, take, slice_get, Some}
use Rattle.events.specs.HistoryView.{HistoryView}
use Rattle.map_object.specs.MapObject.{Contents}
use Rattle.orders.specs.Orders.{IsLinearizableHistory}
use Rattle.art_rows.specs.declared.variant.Variant.TheVariants.{Coupled, Optimistic}
use Rattle.art_core.specs.declared.item.Item.{Item}
use Rattle.art_core.specs.Core.{Plan, State, opened_on, history_of}
use Rattle.art_core.specs.NamedTurns.{process_of_item, WantsTurn, AreMade, AreMadeWhole}
use Rattle.art_core.specs.Starts.{StartsOn}
use Rattle.plans.specs.declared.fault.MachineFault.{MachineFault}
use Rattle.plans.specs.declared.fault.MachineFault.TheVariants as machines
use Rattle.machine.specs.Refusals.{IsRefusedIn}
use Rattle.machine.specs.Starting.{IsNotOpened}
use Rattle.plan_text.specs.Replays.{ReplayView, plan_in}
use Rattle.plan_text.specs.ReplayTexts.{SpellsReplay}
use Rattle.plan_text.specs.ReplayTextFaults.{IsReplayTextFault}
use Rattle.replays.specs.declared.fault.ReplayFault.{ReplayFault}
use Rattle.replays.specs.declared.fault.ReplayFault.TheVariants.{Replay, Schedule, Memory}

-- whether memory ran out
abbrev pub is_memory : MachineFault → Bool
is_memory machines.Memory = true
is_memory fault = false

-- ---- the run of a schedule

-- From the first state, all turns that the items name lead to a state, and they are no more than
-- were left. The history is that of this state, and has the starting pairs.
pub record Records (plan : Plan) (items : List Item) (first : State) (left : ℕ) (start : Contents) (history : HistoryView) : Type 0 where
  pub state : State
  pub made : ℕ
  pub turns : AreMadeWhole plan items first made state
  pub few : made ≤ left
  pub recorded : history ≡ record { start = start; events = history_of state }

-- From the first state, with this many turns left, the items before this place are made whole; of
-- the item there some turns are made, and the next one that it names is refused for this cause.
pub record StopsAt (plan : Plan) (items : List Item) (first : State) (left place : ℕ) (fault : MachineFault) : Type 0 where
  pub item : Item
  pub is_item : slice_get items place ≡ Some item
  pub between : State
  pub earlier : ℕ
  pub before : AreMadeWhole plan (take place items) first earlier between
  pub state : State
  pub here : ℕ
  pub turns : AreMade plan item between here state
  pub wants : WantsTurn plan item between here state
  pub rest : ℕ
  pub costs : rest + here + earlier ≡ left
  pub refused : IsRefusedIn plan state rest (process_of_item item) fault

-- ---- the run of a replay

-- From the words on which its tree has the starting pairs, its schedule records this history. Where the tree is a full one, the history has an
-- order.
pub record Plays (r : ReplayView) (history : HistoryView) : Type 0 where
  pub words : List ℕ
  pub starts : StartsOn r.shape r.variant r.start words
  pub records : Records (plan_in r) r.schedule (opened_on (plan_in r) words) r.limit r.start history
  pub linearizable : (r.variant ≡ Coupled) ⊎ (r.variant ≡ Optimistic) → IsLinearizableHistory history

-- or stops at this item
pub record Stops (r : ReplayView) (place : ℕ) (fault : MachineFault) : Type 0 where
  pub words : List ℕ
  pub starts : StartsOn r.shape r.variant r.start words
  pub stops : StopsAt (plan_in r) r.schedule (opened_on (plan_in r) words) r.limit place fault

-- why a replay records no history: its starting pairs are refused, or its schedule stops at an item; or memory ran out
abbrev pub IsUnplayedFor : ReplayView → ReplayFault → Type 0
IsUnplayedFor r (Replay fault) = (is_memory fault ≡ false) × IsNotOpened r.shape r.variant r.start fault
IsUnplayedFor r (Schedule stop) = (is_memory stop.fault ≡ false) × Stops r stop.item stop.fault
IsUnplayedFor r Memory = ⊤

-- ---- from a text

-- the text spells a replay that records this history
abbrev pub IsPlayed : List ℕ → HistoryView → Type 0
IsPlayed text history = (r : ReplayView) × SpellsReplay text r × Plays r history

-- why a text gives no history: it spells no replay, or one that records none
abbrev pub IsUnplayed : List ℕ → ReplayFault → Type 0
IsUnplayed text Memory = ⊤
IsUnplayed text (Replay fault) =
    ((is_memory fault ≡ false) × IsReplayTextFault text fault) ⊎ ((r : ReplayView) × SpellsReplay text r × IsUnplayedFor r (Replay fault))
IsUnplayed text (Schedule stop) = (r : ReplayView) × SpellsReplay text r × IsUnplayedFor r (Schedule stop)

-- why a run of a schedule records no history
abbrev pub IsUnrecorded : Plan → List Item → State → ℕ → ReplayFault → Type 0
IsUnrecorded plan items first left (Replay fault) = ⊥
IsUnrecorded plan items first left (Schedule stop) = (is_memory stop.fault ≡ false) × StopsAt plan items first left stop.item stop.fault
IsUnrecorded plan items first left Memory = ⊤
