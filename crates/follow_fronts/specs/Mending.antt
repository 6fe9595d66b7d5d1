-- What is known while calls of a front are taken back, so that another call comes among them.
use Rattle.std.specs.Prelude.{◌≡◌, ℕ, List, [], ◌∷◌, ◌++◌, Option, Some, None, Contains}
use Rattle.events.specs.declared.operation.Operation.{Operation}
use Rattle.orders.specs.Orders.{IsCompletedAt}
use Rattle.memo.specs.Fronts.{PrecedesAt}

-- each completed call is in a list
abbrev pub HasCompleted : List Operation → List ℕ → Type 0
HasCompleted calls path = (n : ℕ) → IsCompletedAt calls n → Contains path n

-- a list goes on as another one
abbrev pub GoesOn : List ℕ → List ℕ → Type 0
GoesOn path longer = (more : List ℕ) × (longer ≡ path ++ more)

-- the last call of a front was taken back, and does not precede another one; or no call was taken
-- back
abbrev pub IsTaken : List Operation → ℕ → List ℕ → List ℕ → Option ℕ → Type 0
IsTaken calls place old new None = new ≡ old
IsTaken calls place old new (Some last) = (old ≡ new ++ last ∷ []) × (PrecedesAt calls last place → ⊥)
