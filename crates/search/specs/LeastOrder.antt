-- The least order of a list of calls.
use Rattle.std.specs.Prelude.{ℕ, Bool, true, false, nat_lt, ◌==◌, if◌then◌else◌, IsTrue, List, [], ◌∷◌}
use Rattle.events.specs.declared.operation.Operation.{Operation}
use Rattle.map_object.specs.MapObject.{Contents}
use Rattle.orders.specs.Orders.{IsOrder}

-- whether a list is at or before another: by their first differing number, and a list that begins
-- another comes first
abbrev pub is_at_or_before : List ℕ → List ℕ → Bool
is_at_or_before [] ys = true
is_at_or_before (x ∷ xs) [] = false
is_at_or_before (x ∷ xs) (y ∷ ys) = if x == y then is_at_or_before xs ys else nat_lt x y

-- an order of the calls that is at or before each of their orders
pub record IsLeastOrder (start : Contents) (calls : List Operation) (order : List ℕ) : Type 0 where
  pub is_order : IsOrder start calls order
  pub least : (other : List ℕ) → IsOrder start calls other → IsTrue (is_at_or_before order other)
