-- What the checker remembers of the numbers so far.
use Rattle.std.specs.Prelude.{◌≡◌, ℕ, ◌<◌, false, List, length, map, slice_index_or}
use Rattle.events.specs.declared.operation.Operation.{Operation}
use Rattle.events.specs.Lists.{greatest, has_number}
use Rattle.map_object.specs.MapObject.{Contents}
use Rattle.orders.specs.Orders.{IsLegalOrder, after_calls, calls_at}
use Rattle.certificate.specs.declared.prefix.Prefix.{Prefix}

-- the numbers are a legal order, and the checker remembers this of them: the pairs after their
-- calls, which numbers they are, and their latest invocation
pub record IsPrefixOf (start : Contents) (calls : List Operation) (numbers : List ℕ) (prefix : Prefix) : Type 0 where
  pub sound : IsLegalOrder start calls numbers
  pub pairs : prefix.map ≡ after_calls start (calls_at calls numbers)
  pub size : length prefix.taken.items ≡ length calls
  pub taken : (n : ℕ) → n < length calls → slice_index_or prefix.taken.items n false ≡ has_number numbers n
  pub latest : prefix.latest ≡ greatest (map (λ a. a.inv) (calls_at calls numbers))
