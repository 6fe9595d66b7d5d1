-- The state of a search: what its stack, its map, its memo and its lists say of the calls taken.
use Rattle.std.specs.Prelude.{◌≡◌, ◌⊎◌, ℕ, ◌+◌, ◌-◌, ◌*◌, ◌<◌, ◌≤◌, true, false, Bool, List, [], ◌∷◌, ◌++◌, length, map, take, Option, Some}
use Rattle.std.specs.Prelude.{slice_get}
use Rattle.std.specs.Prelude.{slice_index_or, slice_set, Contains}
use Rattle.events.specs.declared.event.Call.{Call}
use Rattle.events.specs.declared.operation.Operation.{Operation}
use Rattle.events.specs.Lists.{has_number}
use Rattle.map_object.specs.MapObject.{Contents}
use Rattle.orders.specs.Orders.{IsOrder, IsLinearizable}
use Rattle.memo.specs.Fronts.{IsFront}
use Rattle.memo.specs.Configurations.{Configuration, LeadsTo, IsReachable}
use Rattle.memo.proofs.FrontLemmas.{IsNext}
use Rattle.search.specs.Standing.{pairs_after, IsConfigurationAt}
use Rattle.search.specs.Undo.{undone}
use Rattle.search_choices.specs.Reads.{HasOrderAfter}
use Rattle.search_choices.specs.declared.branch.Branch.{Branch}
use Rattle.search_choices.specs.declared.branch.CallSearch.{CallSearch}
use Rattle.search_choices.specs.declared.branch.SearchStep.{SearchStep}
use Rattle.search_choices.specs.declared.branch.SearchStep.TheVariants.{Made, Order, NoOrder}

-- the calls taken, by place
abbrev pub places : List Branch → List ℕ
places levels = map (λ level. level.place) levels

-- some calls are a dead end: they go on to no order
abbrev pub IsDead : Contents → List Operation → List ℕ → Type 0
IsDead start calls path = HasOrderAfter start calls path → ⊥

-- a configuration is a dead end: all fronts that lead there are
abbrev pub IsDeadAt : Contents → List Operation → Configuration → Type 0
IsDeadAt start calls c = (path : List ℕ) → IsFront start calls path → LeadsTo start calls path c → IsDead start calls path

-- each call listed may come next
abbrev pub AreNext : Contents → List Operation → List ℕ → List ℕ → Type 0
AreNext start calls path rest = (n : ℕ) → Contains rest n → IsNext start calls path n

-- if each call listed is taken in vain, the calls taken are a dead end
abbrev pub Closes : Contents → List Operation → List ℕ → List ℕ → Type 0
Closes start calls path rest = ((n : ℕ) → Contains rest n → IsDead start calls (path ++ n ∷ [])) → IsDead start calls path

-- a level of the stack: the search's state before its call, what undoes the call, and what is left
-- to try instead
pub record Remembers (start : Contents) (calls : List Operation) (visited : List Configuration) (path : List ℕ)
    (level : Branch) : Type 0 where
  pub at : IsConfigurationAt start calls visited path level.at
  pub undo : undone (pairs_after start calls (path ++ level.place ∷ [])) level.undo ≡ pairs_after start calls path
  pub next : AreNext start calls path level.rest.items
  pub closes : IsDead start calls (path ++ level.place ∷ []) → Closes start calls path level.rest.items

-- a configuration that was visited is a dead end, or one on the way to the calls taken
abbrev pub IsSettled : Contents → List Operation → List ℕ → Configuration → Type 0
IsSettled start calls path c = IsDeadAt start calls c ⊎ ((i : ℕ) × (i ≤ length path) × LeadsTo start calls (take i path) c)

-- which calls are taken, and a place below which all are
pub record AreMarked (size : ℕ) (path : List ℕ) (taken : List Bool) (low : ℕ) : Type 0 where
  pub all : length taken ≡ size
  pub marks : (n : ℕ) → n < size → slice_index_or taken n false ≡ has_number path n
  pub within : low ≤ size
  pub below : (n : ℕ) → n < low → Contains path n

-- this is the state of a search, apart from what it tries next
pub record IsStateBut (start : Contents) (calls : List Operation) (levels : List Branch) (at : ℕ) (pairs : Contents)
    (visited : List Configuration) (taken : List Bool) (low : ℕ) : Type 0 where
  pub is_front : IsFront start calls (places levels)
  pub holds : pairs ≡ pairs_after start calls (places levels)
  pub stands_at : IsConfigurationAt start calls visited (places levels) at
  pub remembers : (i : ℕ) (level : Branch) → slice_get levels i ≡ Some level → Remembers start calls visited (take i (places levels)) level
  pub reached : (c : Configuration) → Contains visited c → IsReachable start calls c
  pub settled : (c : Configuration) → Contains visited c → IsSettled start calls (places levels) c
  pub marked : AreMarked (length calls) (places levels) taken low

abbrev pub StandsBare : Contents → List Operation → CallSearch → Type 0
StandsBare start calls s = IsStateBut start calls s.levels.items s.at s.map s.memo s.taken.items s.low

-- calls that are to be tried, and that all calls tried make an end
pub record AreChoices (start : Contents) (calls : List Operation) (path rest : List ℕ) : Type 0 where
  pub next : AreNext start calls path rest
  pub closes : Closes start calls path rest

-- some of these calls, where taking any of the others is a dead end
pub record IsReduced (start : Contents) (calls : List Operation) (path rest fewer : List ℕ) : Type 0 where
  pub from : (n : ℕ) → Contains fewer n → Contains rest n
  pub others : (n : ℕ) → Contains rest n → Contains fewer n ⊎ IsDead start calls (path ++ n ∷ [])
  pub few : length fewer ≤ length rest

-- this is the state of a search
abbrev pub Stands : Contents → List Operation → CallSearch → Type 0
Stands start calls s = StandsBare start calls s × AreChoices start calls (places s.levels.items) s.rest.items

-- the calls that are to be tried, with the levels that are to be gone back
abbrev pub to_try : List Branch → List ℕ → ℕ
to_try [] rest = length rest
to_try (level ∷ levels) rest = 1 + length level.rest.items + to_try levels rest

-- the number that falls at each step: the configurations that the budget still allows, each with
-- all its calls, and the calls to be tried
abbrev pub rest_of : ℕ → ℕ → CallSearch → ℕ
rest_of budget size s = (budget + 1 - length s.memo) * (size + 2) + to_try s.levels.items s.rest.items

-- a search has moved: it visited one configuration more, or none and has less to try
pub record HasMoved (start : Contents) (calls : List Operation) (old new : CallSearch) : Type 0 where
  pub stands : Stands start calls new
  pub progress :
      ((length new.memo ≡ length old.memo) × (to_try new.levels.items new.rest.items < to_try old.levels.items old.rest.items)) ⊎
      ((length new.memo ≡ length old.memo + 1)
      × (to_try new.levels.items new.rest.items ≤ to_try old.levels.items old.rest.items + length calls))

-- a call of those to be tried, and the others: where it is a dead end, they make an end
pub record IsNextOf (start : Contents) (calls : List Operation) (path : List ℕ) (n : ℕ) (rest : List ℕ) : Type 0 where
  pub is_next : IsNext start calls path n
  pub next : AreNext start calls path rest
  pub closes : IsDead start calls (path ++ n ∷ []) → Closes start calls path rest

-- one call more on the stack, at the configuration that was visited last
pub record IsPushed (place : ℕ) (undo : Option Call) (old new : CallSearch) : Type 0 where
  pub levels : new.levels.items ≡ old.levels.items ++ record { place = place; undo = undo; at = old.at; rest = old.rest } ∷ []
  pub at : new.at ≡ length old.memo - 1
  pub map : new.map ≡ old.map
  pub memo : new.memo ≡ old.memo
  pub taken : new.taken.items ≡ slice_set old.taken.items place true
  pub within : new.low ≤ length new.taken.items
  pub below : (n : ℕ) → n < new.low → (n < old.low) ⊎ (slice_index_or new.taken.items n false ≡ true)

-- what became of a call: it was taken and leads to a configuration that is new, or it was not taken,
-- since it is a dead end
abbrev pub IsTaken : Contents → List Operation → ℕ → CallSearch → CallSearch → Bool → Type 0
IsTaken start calls place old new true =
    StandsBare start calls new × (length new.memo ≡ length old.memo + 1)
    × (to_try new.levels.items [] ≡ to_try old.levels.items old.rest.items + 1)
IsTaken start calls place old new false =
    StandsBare start calls new × (new.memo ≡ old.memo) × (new.levels ≡ old.levels) × (new.rest ≡ old.rest)
    × IsDead start calls (places old.levels.items ++ place ∷ [])

-- what was found of the calls that may come next: what is to be tried, or that the calls taken are
-- an order
abbrev pub IsLooked : Contents → List Operation → CallSearch → CallSearch → SearchStep → Type 0
IsLooked start calls old new Made =
    Stands start calls new × (new.memo ≡ old.memo) × (new.levels ≡ old.levels) × (length new.rest.items ≤ length calls)
IsLooked start calls old new Order = IsOrder start calls (places new.levels.items) × (new.levels ≡ old.levels)
IsLooked start calls old new NoOrder = ⊥

-- what a step came to
abbrev pub IsStep : Contents → List Operation → CallSearch → CallSearch → SearchStep → Type 0
IsStep start calls old new Made = HasMoved start calls old new
IsStep start calls old new Order = IsOrder start calls (places new.levels.items)
IsStep start calls old new NoOrder = IsLinearizable start calls → ⊥
