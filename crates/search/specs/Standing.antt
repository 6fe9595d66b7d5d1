-- The state of a walk: what its stack, its map, its memo and its links say of the calls taken.
use Rattle.std.specs.Prelude.{◌≡◌, ◌≢◌, ◌⊎◌, ℕ, ◌+◌, ◌-◌, ◌<◌, ◌≤◌, true, IsSomeAnd, List, [], ◌∷◌, ◌++◌, length, map, take, reverse}
use Rattle.std.specs.Prelude.{Option, Some, slice_get}
use Rattle.std.specs.Prelude.{slice_index, All, AllPairs, Contains}
use Rattle.std.specs.List.{range_with_len}
use Rattle.events.specs.declared.event.Call.{Call}
use Rattle.events.specs.declared.operation.Operation.{Operation}
use Rattle.events.specs.Precedence.{is_before}
use Rattle.map_object.specs.MapObject.{Contents}
use Rattle.orders.specs.Orders.{calls_at, after_calls, IsOrder, IsLinearizable}
use Rattle.memo.specs.Fronts.{PrecedesAt}
use Rattle.memo.specs.Configurations.{Configuration, LeadsTo}
use Rattle.search.specs.LeastCounts.{HasCount}
use Rattle.search.specs.declared.standing.Level.{Level}
use Rattle.search.specs.declared.standing.Standing.{Standing}
use Rattle.search.specs.declared.standing.Progress.{Progress}
use Rattle.search.specs.declared.standing.Progress.TheVariants.{Made, Order, NoOrder}
use Rattle.search.specs.Cursor.{cursor, StandsAtCursor}
use Rattle.search.specs.Links.{LinksView, AreWithin, AreLeft, unlinked, IsChain}
use Rattle.search.specs.Undo.{undone}

-- the calls taken, by place
abbrev pub places : List Level → List ℕ
places levels = map (λ level. level.place) levels

-- the pairs after some calls
abbrev pub pairs_after : Contents → List Operation → List ℕ → Contents
pairs_after start calls path = after_calls start (calls_at calls path)

-- the configuration to which some calls lead has this place in the memo
abbrev pub IsConfigurationAt : Contents → List Operation → List Configuration → List ℕ → ℕ → Type 0
IsConfigurationAt start calls visited path at = (c : Configuration) × (slice_get visited at ≡ Some c) × LeadsTo start calls path c

-- the pairs of the configuration that was visited first
abbrev pub first_pairs : List Configuration → Contents
first_pairs [] = []
first_pairs (c ∷ visited) = c.pairs

-- a level of the stack: the configuration before its call, and what undoes the call
pub record Remembers (start : Contents) (calls : List Operation) (visited : List Configuration) (path : List ℕ)
    (level : Level) : Type 0 where
  pub at : IsConfigurationAt start calls visited path level.at
  pub undo : undone (pairs_after start calls (path ++ level.place ∷ [])) level.undo ≡ pairs_after start calls path

-- a call was answered before a place
abbrev pub IsAnsweredBefore : List Operation → ℕ → ℕ → Type 0
IsAnsweredBefore calls n place = IsSomeAnd (slice_get calls n) (λ a. is_before a.response place ≡ true)

-- a call is answered no later than another
abbrev pub IsNoLater : List Operation → ℕ → ℕ → Type 0
IsNoLater calls m n = (place : ℕ) → IsAnsweredBefore calls n place → IsAnsweredBefore calls m place

-- the first calls, this many, each answered no later than those after it
pub record IsByAnswer (calls : List Operation) (count : ℕ) (order : List ℕ) : Type 0 where
  pub below : All (λ n. n < count) order
  pub distinct : AllPairs (λ m n. m ≢ n) order
  pub all : (n : ℕ) → n < count → Contains order n
  pub sorted : AllPairs (IsNoLater calls) order

-- the links of the calls left, in the order of their invocations and in the order of their answers;
-- the calls taken are listed from the latest one
pub record AreLinksOf (calls : List Operation) (out : List ℕ) (by_number by_answer : LinksView) : Type 0 where
  pub number_size : length by_number.after ≡ length calls + 1
  pub answer_size : length by_answer.after ≡ length calls + 1
  pub calls_left : AreLeft (length calls) (range_with_len 0 (length calls)) out by_number
  pub order : List ℕ
  pub sorted : IsByAnswer calls (length calls) order
  pub answers_left : AreLeft (length calls) order out by_answer

-- a walk is in this state
pub record IsStateBut (start : Contents) (calls : List Operation) (levels : List Level) (next at : ℕ) (pairs : Contents)
    (visited : List Configuration) (by_number by_answer : LinksView) : Type 0 where
  pub cursor : StandsAtCursor start calls (places levels) next visited
  pub within : next ≤ length calls
  pub left : next < length calls → Contains (places levels) next → ⊥
  pub begins : first_pairs visited ≡ start
  pub holds : pairs ≡ pairs_after start calls (places levels)
  pub stands_at : IsConfigurationAt start calls visited (places levels) at
  pub remembers : (i : ℕ) (level : Level) → slice_get levels i ≡ Some level → Remembers start calls visited (places (take i levels)) level
  pub links : AreLinksOf calls (reverse (places levels)) by_number by_answer

abbrev pub Stands : Contents → List Operation → Standing → Type 0
Stands start calls s = IsStateBut start calls s.levels.items s.next s.at s.map s.memo s.calls s.answers

-- the calls that are not tried yet, at all levels
abbrev pub untried : ℕ → List Level → ℕ → ℕ
untried size [] next = size - next
untried size (level ∷ levels) next = (size - level.place) + untried size levels next

-- the next call may be tried: there is one, all calls that precede it are taken, and a completed
-- call is left
pub record MayTry (start : Contents) (calls : List Operation) (path : List ℕ) (next : ℕ) : Type 0 where
  pub known : next < length calls
  pub preceded : (m : ℕ) → PrecedesAt calls m next → Contains path m
  pub not_order : IsOrder start calls path → ⊥

-- a walk has moved. It took the next call and visited one more configuration, to which the calls
-- taken now lead. Or it visited none, and has fewer calls to try
pub record HasMoved (start : Contents) (calls : List Operation) (old new : Standing) : Type 0 where
  pub stands : Stands start calls new
  pub progress :
      ((new.memo ≡ old.memo) × (untried (length calls) new.levels.items new.next < untried (length calls) old.levels.items old.next)) ⊎
      ((c : Configuration) × (new.memo ≡ old.memo ++ c ∷ []) × LeadsTo start calls (places new.levels.items) c
      × (untried (length calls) new.levels.items new.next ≤ untried (length calls) old.levels.items old.next + length calls)
      × (places new.levels.items ≡ cursor (places old.levels.items) old.next))

-- every call was tried: there is no order, and the configurations that were visited are those that
-- count
pub record IsExhausted (start : Contents) (calls : List Operation) (visited : List Configuration) : Type 0 where
  pub none : IsLinearizable start calls → ⊥
  pub count : HasCount start calls (length visited)

-- what a step did
abbrev pub IsProgress : Contents → List Operation → Standing → Standing → Progress → Type 0
IsProgress start calls old new Made = HasMoved start calls old new
IsProgress start calls old new Order = (new ≡ old) × IsOrder start calls (places old.levels.items)
IsProgress start calls old new NoOrder = IsExhausted start calls old.memo

-- one call more on the stack, at the configuration that was visited last
pub record IsPushed (size place : ℕ) (undo : Option Call) (old new : Standing) : Type 0 where
  pub levels : new.levels.items ≡ old.levels.items ++ record { place = place; undo = undo; at = old.at } ∷ []
  pub next : new.next ≡ slice_index (unlinked old.calls place).after size
  pub at : new.at ≡ length old.memo - 1
  pub map : new.map ≡ old.map
  pub memo : new.memo ≡ old.memo
  pub calls : new.calls ≡ unlinked old.calls place
  pub answers : new.answers ≡ unlinked old.answers place
  pub calls_within : AreWithin old.calls
  pub answers_within : AreWithin old.answers

-- the links of all calls, in the order of their answers
abbrev pub IsLinkedByAnswer : List Operation → LinksView → Type 0
IsLinkedByAnswer calls links = (order : List ℕ) × IsByAnswer calls (length calls) order × IsChain links (length calls) order (length calls)
