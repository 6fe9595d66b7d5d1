-- Laws of the faults of a list of numbers.
use Rattle.std.specs.Prelude.{◌≡◌, ℕ, List}
use Rattle.events.specs.declared.operation.Operation.{Operation}
use Rattle.map_object.specs.MapObject.{Contents}
use Rattle.orders.specs.Orders.{IsOrder}
use Rattle.certificate.specs.declared.fault.OrderFault.{OrderFault}
use Rattle.certificate.specs.Faults.{IsFirstFault}

-- a list of numbers has one first fault at most
abbrev pub HasOneFirstFault : Type 0
HasOneFirstFault = (start : Contents) (calls : List Operation) (order : List ℕ) (fault other : OrderFault)
    → IsFirstFault start calls order fault → IsFirstFault start calls order other → fault ≡ other

-- a list of numbers that has a first fault is no order
abbrev pub FaultyIsNoOrder : Type 0
FaultyIsNoOrder = (start : Contents) (calls : List Operation) (order : List ℕ) (fault : OrderFault)
    → IsFirstFault start calls order fault → IsOrder start calls order → ⊥
