-- Configurations of a search: Lowe 2017.
use Rattle.std.specs.Prelude.{◌≡◌, ◌↔◌, ℕ, List, Contains}
use Rattle.std.specs.List.Sorted.{IsStrictlyIncreasing}
use Rattle.events.specs.declared.operation.Operation.{Operation}
use Rattle.map_object.specs.MapObject.{Contents}
use Rattle.orders.specs.Orders.{calls_at, after_calls}
use Rattle.memo.specs.Fronts.{IsFront}

-- the set of calls taken, as its places by rising number, and the pairs that the map then holds
pub record Configuration : Type 0 where
  pub taken : List ℕ
  pub pairs : Contents

-- the configuration that a front leads to
pub record LeadsTo (start : Contents) (calls : List Operation) (front : List ℕ) (configuration : Configuration) : Type 0 where
  pub rising : IsStrictlyIncreasing configuration.taken
  pub taken : (n : ℕ) → Contains configuration.taken n ↔ Contains front n
  pub pairs : configuration.pairs ≡ after_calls start (calls_at calls front)

-- some front leads there; the empty front counts
abbrev pub IsReachable : Contents → List Operation → Configuration → Type 0
IsReachable start calls configuration = (front : List ℕ) × IsFront start calls front × LeadsTo start calls front configuration
