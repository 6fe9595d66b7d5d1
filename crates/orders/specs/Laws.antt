-- Laws of the object and of orders.
use Rattle.std.specs.Prelude.{◌≡◌, ◌↔◌, ℕ, List, IsTrue}
use Rattle.events.specs.declared.operation.Operation.{Operation}
use Rattle.events.specs.HistoryView.{HistoryView}
use Rattle.events.specs.PlainHistories.{is_plain}
use Rattle.events.specs.Operations.{operations}
use Rattle.map_object.specs.MapObject.{Contents}
use Rattle.orders.specs.Orders.{after_calls, IsLegal, IsOrderOfHistory}
use Rattle.orders.specs.Leads.{Leads}
use Rattle.orders.specs.PlainOrders.{IsPlainOrder}

-- the object does a list of calls in turn exactly if the list is legal, and then leaves the pairs
-- after it
abbrev pub LegalListsLead : Type 0
LegalListsLead = (m m2 : Contents) (calls : List Operation) → Leads m calls m2 ↔ (IsLegal m calls × (m2 ≡ after_calls m calls))

-- the orders of a history with neither starting pairs nor a replace are those by the definitions
-- that mention neither
abbrev pub PlainHistoriesHavePlainOrders : Type 0
PlainHistoriesHavePlainOrders =
    (history : HistoryView) (order : List ℕ) → IsTrue (is_plain history)
    → IsOrderOfHistory history order ↔ IsPlainOrder (operations history.events) order
