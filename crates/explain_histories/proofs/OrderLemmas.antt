-- A history with some calls has an order exactly where they have one.
use Rattle.explain_histories.proofs.Common.{List, Option, Some, None, sym, subst, ◌↔◌, IfSome, MatchOption, operations, Operation, PlacesDoNotMatter}
use Rattle.events.specs.HistoryView.{HistoryView}
use Rattle.map_object.specs.MapObject.{Contents}
use Rattle.orders.specs.Orders.{IsLinearizable}
use Rattle.explain_histories.specs.SmallHistories.{IsHistoryWith, AreOfNoHistory}

pub same_orders : PlacesDoNotMatter → (start : Contents) (calls : List Operation) (found : Option HistoryView)
    → MatchOption found (AreOfNoHistory start calls) (λ history. IsHistoryWith start calls history)
    → IfSome found (λ history. IsLinearizable start calls ↔ IsLinearizable history.start (operations history.events))
same_orders law start calls None h = tt
same_orders law start calls (Some history) h =
    let others = operations history.events in (
      λ order. subst (λ (m : Contents). IsLinearizable m others) (sym h.start_is)
          (order.0, (law start calls others order.0 h.alike).0 order.1),
      λ order.
          let here = subst (λ (m : Contents). IsLinearizable m others) h.start_is order in
          (here.0, (law start calls others here.0 h.alike).1 here.1),
    )
