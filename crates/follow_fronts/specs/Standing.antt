-- The state of a front: what its stack, its map and its marks say of the calls that are in it.
use Rattle.std.specs.Prelude.{◌≡◌, ℕ, ◌<◌, Bool, List, [], ◌∷◌, ◌++◌, length, map, take, Option, Some, None, slice_get, Contains, ⊤}
use Rattle.events.specs.declared.operation.Operation.{Operation}
use Rattle.map_object.specs.MapObject.{Contents}
use Rattle.orders.specs.Orders.{IsCompletedAt, IsOrder}
use Rattle.memo.specs.Fronts.{IsFront}
use Rattle.search.specs.Standing.{pairs_after}
use Rattle.search.specs.Undo.{undone}
use Rattle.search_choices.specs.Standing.{AreMarked}
use Rattle.follow_fronts.specs.declared.front.Level.{Level}
use Rattle.follow_fronts.specs.declared.front.Front.{Front}

-- the calls of a front, by place
abbrev pub places : List Level → List ℕ
places levels = map (λ level. level.place) levels

-- what undoes a call leads back to the pairs before it
abbrev pub IsUndone : Contents → List Operation → List ℕ → Level → Type 0
IsUndone start calls path level =
    undone (pairs_after start calls (path ++ level.place ∷ [])) level.undo ≡ pairs_after start calls path

-- this is the state of a front
pub record IsStateBut (start : Contents) (calls : List Operation) (levels : List Level) (pairs : Contents) (taken : List Bool)
    (low : ℕ) : Type 0 where
  pub is_front : IsFront start calls (places levels)
  pub holds : pairs ≡ pairs_after start calls (places levels)
  pub undoes : (i : ℕ) (level : Level) → slice_get levels i ≡ Some level → IsUndone start calls (take i (places levels)) level
  pub marked : AreMarked (length calls) (places levels) taken low

abbrev pub Stands : List Operation → Front → Type 0
Stands calls front = IsStateBut front.start calls front.levels.items front.map front.taken.items front.low

-- the completed calls below a place are in a list
abbrev pub HasBelow : List Operation → List ℕ → ℕ → Type 0
HasBelow calls path from = (n : ℕ) → n < from → IsCompletedAt calls n → Contains path n

-- the front is an order of the calls
abbrev pub IsWhole : List Operation → Front → Type 0
IsWhole calls front = IsOrder front.start calls (places front.levels.items)

-- the last call of a front was taken back, if it had one
abbrev pub IsPopped : List ℕ → List ℕ → Option ℕ → Type 0
IsPopped old new None = (old ≡ []) × (new ≡ [])
IsPopped old new (Some place) = old ≡ new ++ place ∷ []

-- calls that were taken back from a call on, if any were
abbrev pub IsFromOn : ℕ → List ℕ → Type 0
IsFromOn place [] = ⊤
IsFromOn place (n ∷ again) = n ≡ place

-- the calls that were taken back, or this one where none were
abbrev pub again_or : ℕ → List ℕ → List ℕ
again_or place [] = place ∷ []
again_or place (n ∷ again) = n ∷ again
