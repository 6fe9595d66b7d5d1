-- Fronts of a list of calls, which name calls by their places: Wing and Gong 1993.
use Rattle.std.specs.Prelude.{◌≡◌, ◌≢◌, ℕ, ◌<◌, true, List, length, Some, slice_get, take, All, AllPairs, Contains}
use Rattle.events.specs.declared.operation.Operation.{Operation}
use Rattle.events.specs.Precedence.{precedes}
use Rattle.map_object.specs.MapObject.{Contents}
use Rattle.orders.specs.Orders.{calls_at, IsLegal}

-- call m precedes call n
abbrev pub PrecedesAt : List Operation → ℕ → ℕ → Type 0
PrecedesAt calls m n = (a b : Operation) × (slice_get calls m ≡ Some a) × (slice_get calls n ≡ Some b) × (precedes a b ≡ true)

-- a front: distinct calls, each after all that precede it, in a legal list
pub record IsFront (start : Contents) (calls : List Operation) (front : List ℕ) : Type 0 where
  pub known : All (λ n. n < length calls) front
  pub distinct : AllPairs (λ m n. m ≢ n) front
  pub closed : (i m n : ℕ) → slice_get front i ≡ Some n → PrecedesAt calls m n → Contains (take i front) m
  pub legal : IsLegal start (calls_at calls front)
