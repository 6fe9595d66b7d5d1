-- Laws of locations.
use Rattle.std.specs.Prelude.{◌≡◌, ℕ, ◌≤◌, ⊤, true, List, Option, is_some}
use Rattle.events.specs.HistoryView.{HistoryView}
use Rattle.events.specs.Histories.{IsHistory}
use Rattle.explain_locate.specs.declared.location.Location.{Location}
use Rattle.explain_locate.specs.declared.location.Location.TheVariants.{Yes, No, Lost, Undecided}
use Rattle.explain_locate.specs.FirstOrders.{IsFoundBefore}
use Rattle.explain_locate.specs.Locations.{IsDecidedByJudge, IsLocated}
use Rattle.explain_locate.specs.Reports.{location_data}

-- what a location says: yes; no, at this event of this call; or that it is not known at this event
pub data Said : Type 0 where
  SaysYes : Said
  SaysNo : (event number : ℕ) → Said
  SaysUndecided : (event : ℕ) → Said

abbrev pub said_by : Location → Said
said_by Yes = SaysYes
said_by (No event number) = SaysNo event number
said_by (Lost loss) = SaysNo loss.event loss.number
said_by (Undecided event number) = SaysUndecided event

-- Two do not contradict each other. Two that say no say the same event of the same call. None says no if another says yes, and none is
-- undecided after the event of a no.
abbrev pub DoNotContradict : Said → Said → Type 0
DoNotContradict SaysYes (SaysNo event number) = ⊥
DoNotContradict (SaysNo event number) SaysYes = ⊥
DoNotContradict (SaysNo event number) (SaysNo other call) = (event ≡ other) × (number ≡ call)
DoNotContradict (SaysNo event number) (SaysUndecided other) = other ≤ event
DoNotContradict (SaysUndecided other) (SaysNo event number) = other ≤ event
DoNotContradict a b = ⊤

abbrev pub Agree : Location → Location → Type 0
Agree a b = DoNotContradict (said_by a) (said_by b)

-- locations of one history agree, whatever the budgets
abbrev pub LocationsAgree : Type 0
LocationsAgree = (budget other : ℕ) (history : HistoryView) (a b : Location) → IsHistory history → IsLocated budget history a
    → IsLocated other history b → Agree a b

-- if the judge's verdicts at a budget say where a history goes wrong, all locations at that budget have one report
abbrev pub OneLocationWhereJudged : Type 0
OneLocationWhereJudged = (budget : ℕ) (history : HistoryView) (a b : Location) → IsHistory history → IsDecidedByJudge budget history
    → IsLocated budget history a
    → IsLocated budget history b → location_data a ≡ location_data b

-- if the judge's verdicts at a budget say where a history goes wrong, an order of the events before is found
abbrev pub OrdersAreFoundWhereJudged : Type 0
OrdersAreFoundWhereJudged = (budget : ℕ) (history : HistoryView) (location : Location) (found : Option (List ℕ)) → IsHistory history
    → IsLocated budget history location → IsFoundBefore budget history location found → IsDecidedByJudge budget history → is_some found ≡ true
