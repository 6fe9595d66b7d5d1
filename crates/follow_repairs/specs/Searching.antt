-- Calls that are to be ordered, and those of them that are left after a front.
use Rattle.std.specs.Prelude.{◌≡◌, ◌↔◌, ℕ, ◌+◌, ◌<◌, ◌^◌, List, length, AllPairs, Contains}
use Rattle.events.specs.declared.operation.Operation.{Operation}
use Rattle.events.specs.Precedence.{NonePrecedesItself}

-- calls that can be ordered: by rising invocation, none precedes itself, and no more
-- than have numbers
pub record AreCalls (calls : List Operation) : Type 0 where
  pub few : length calls + 1 < 2 ^ 32
  pub rising : AllPairs (λ a b. a.inv < b.inv) calls
  pub apart : NonePrecedesItself calls

-- the calls that are not in a front, by rising place
pub record AreLeft (calls : List Operation) (path left : List ℕ) : Type 0 where
  pub rising : AllPairs (λ m n. m < n) left
  pub each : (n : ℕ) → Contains left n ↔ ((n < length calls) × (Contains path n → ⊥))
