-- The answers on the segments of a history, in the order of the segments.
use Rattle.std.specs.Prelude.{◌≡◌, ℕ, ◌<◌, List, [], ◌∷◌, Some, slice_get}
use Rattle.search.specs.declared.found.Found.{Found}
use Rattle.search.specs.declared.found.Found.TheVariants.{Order}

-- this answer is at the place, and not at an earlier one
pub record IsFirstAt (sought : Found) (answers : List Found) (place : ℕ) : Type 0 where
  pub here : slice_get answers place ≡ Some sought
  pub first : (n : ℕ) → n < place → slice_get answers n ≡ Some sought → ⊥

-- the orders among the answers
abbrev pub orders_in : List Found → List (List ℕ)
orders_in [] = []
orders_in (Order order ∷ answers) = order.items ∷ orders_in answers
orders_in (other ∷ answers) = orders_in answers
