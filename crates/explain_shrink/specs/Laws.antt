-- Laws of calls, some of them left out.
use Rattle.std.specs.Prelude.{◌≡◌, false, ℕ, List}
use Rattle.events.specs.declared.operation.Operation.{Operation}
use Rattle.map_object.specs.MapObject.{Contents, IsRising}
use Rattle.orders.specs.Orders.{IsLinearizable}
use Rattle.call_effects.specs.TimeCuts.{InvocationsRise}
use Rattle.explain_shrink.specs.Rest.{rest_of, are_held}
use Rattle.explain_shrink.specs.Relaxed.{IsRelaxed}

-- if all calls have an order, the calls that are left have one
abbrev pub RelaxedCallsHaveOrders : Type 0
RelaxedCallsHaveOrders =
    (start : Contents) (calls others : List Operation) → IsRising start → InvocationsRise calls → InvocationsRise others
    → IsRelaxed calls others
    → IsLinearizable start calls → IsLinearizable start others

-- what is kept of the calls that stay is such a rest, if none of them waits for what a call left
-- out may put
abbrev pub RestsAreRelaxed : Type 0
RestsAreRelaxed =
    (places : List ℕ) (calls : List Operation) → InvocationsRise calls → are_held places calls ≡ false
    → IsRelaxed calls (rest_of places calls)
