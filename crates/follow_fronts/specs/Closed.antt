-- Lists of calls that are fronts except for their answers.
use Rattle.std.specs.Prelude.{◌≡◌, ◌≢◌, ℕ, ◌<◌, List, length, Some, slice_get, take, All, AllPairs, Contains}
use Rattle.events.specs.declared.operation.Operation.{Operation}
use Rattle.memo.specs.Fronts.{PrecedesAt}

-- distinct calls, each after all that precede it
pub record IsClosed (calls : List Operation) (path : List ℕ) : Type 0 where
  pub known : All (λ n. n < length calls) path
  pub distinct : AllPairs (λ m n. m ≢ n) path
  pub closed : (i m n : ℕ) → slice_get path i ≡ Some n → PrecedesAt calls m n → Contains (take i path) m
