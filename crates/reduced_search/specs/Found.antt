-- What a search of calls found.
use Rattle.std.specs.Prelude.{ℕ, List}
use Rattle.events.specs.declared.operation.Operation.{Operation}
use Rattle.map_object.specs.MapObject.{Contents}
use Rattle.orders.specs.Orders.{IsOrder, IsLinearizable}
use Rattle.memo.specs.Counts.{ReachesMoreThan}
use Rattle.reduced_search.specs.declared.found.SearchEnd.{SearchEnd}
use Rattle.reduced_search.specs.declared.found.SearchEnd.TheVariants.{Order, NoOrder, Spent}

-- what each answer says of the calls: an order of them, that they have none, or that more
-- configurations are reachable than the budget
abbrev pub IsFound : Contents → List Operation → ℕ → SearchEnd → Type 0
IsFound start calls budget (Order order) = IsOrder start calls order.items
IsFound start calls budget NoOrder = IsLinearizable start calls → ⊥
IsFound start calls budget Spent = ReachesMoreThan start calls budget
