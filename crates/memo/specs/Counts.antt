-- How many configurations a search for the least order meets.
use Rattle.std.specs.Prelude.{◌≢◌, ℕ, ◌<◌, List, length, All, AllPairs}
use Rattle.events.specs.declared.operation.Operation.{Operation}
use Rattle.map_object.specs.MapObject.{Contents}
use Rattle.memo.specs.Configurations.{Configuration, IsReachable}

-- each configuration is once in the list
abbrev pub AreDistinct : List Configuration → Type 0
AreDistinct configurations = AllPairs (λ a b. a ≢ b) configurations

-- more than n configurations are reachable
pub record ReachesMoreThan (start : Contents) (calls : List Operation) (n : ℕ) : Type 0 where
  pub reached : List Configuration
  pub distinct : AreDistinct reached
  pub each : All (IsReachable start calls) reached
  pub above : n < length reached
