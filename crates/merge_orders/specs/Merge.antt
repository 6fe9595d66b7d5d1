-- The merged order of the segments' orders.
use Rattle.std.specs.Prelude.{◌≡◌, ℕ, ◌≤◌, ◌==◌, if◌then◌else◌, List, [], ◌∷◌, map, filter, All, AllPairs, IsPermutation}
use Rattle.std.specs.List.{concat}
use Rattle.events.specs.declared.operation.Operation.{Operation}
use Rattle.orders.specs.Orders.{calls_at}
use Rattle.events.specs.Lists.{greatest, has_number}

-- the numbers up to a number's place in a list
abbrev pub up_to : ℕ → List ℕ → List ℕ
up_to n [] = []
up_to n (m ∷ order) = if m == n then m ∷ [] else m ∷ up_to n order

-- the point of a call in its order: the greatest place of an invocation up to its place
abbrev pub point_in : List Operation → List ℕ → ℕ → ℕ
point_in calls order n = greatest (map (λ a. a.inv) (calls_at calls (up_to n order)))

-- the point of a call, if each call is in one of the orders
abbrev pub point_of : List Operation → List (List ℕ) → ℕ → ℕ
point_of calls [] n = 0
point_of calls (order ∷ orders) n = if has_number order n then point_in calls order n else point_of calls orders n

-- the merged order: the calls of all orders by rising point; calls of one order stay in its order
pub record IsMergedOrder (calls : List Operation) (orders : List (List ℕ)) (merged : List ℕ) : Type 0 where
  pub same_calls : IsPermutation (concat orders) merged
  pub by_point : AllPairs (λ m n. point_of calls orders m ≤ point_of calls orders n) merged
  pub by_place : All (λ order. filter (has_number order) merged ≡ order) orders
