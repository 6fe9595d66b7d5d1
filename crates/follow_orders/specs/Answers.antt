-- What is known of an order of calls.
use Rattle.std.specs.Prelude.{◌≡◌, ℕ, ◌<◌, true, List, Contains}
use Rattle.events.specs.declared.operation.Operation.{Operation}
use Rattle.events.specs.Precedence.{precedes}
use Rattle.map_object.specs.MapObject.{Contents}
use Rattle.orders.specs.Orders.{IsOrder, IsLinearizable}
use Rattle.memo.specs.Counts.{ReachesMoreThan}
use Rattle.follow_orders.specs.Views.{StoredOrderView, HasCome}
use Rattle.follow_orders.specs.declared.kept.Mended.{Mended}
use Rattle.follow_orders.specs.declared.kept.Mended.TheVariants.{Order, NoOrder, Spent}

-- an order of these calls is kept
pub record Keeps (start : Contents) (calls : List Operation) (kept : StoredOrderView) : Type 0 where
  pub same_start : kept.start ≡ start
  pub same_calls : kept.calls ≡ calls
  pub is_order : IsOrder start calls kept.order

-- the calls have no order, and are returned
pub record HaveNoOrder (start : Contents) (calls : List Operation) (start_back : Contents) (calls_back : List Operation) : Type 0 where
  pub none : IsLinearizable start calls → ⊥
  pub same_start : start_back ≡ start
  pub same_calls : calls_back ≡ calls

-- no two calls overlap: the one that began first ended before the other began
abbrev pub HaveNoOverlap : List Operation → Type 0
HaveNoOverlap calls = (a b : Operation) → Contains calls a → Contains calls b → a.inv < b.inv → precedes a b ≡ true

-- more configurations are reachable than the budget, some calls overlap, and the calls are returned
pub record IsSpent (start : Contents) (calls : List Operation) (budget : ℕ) (start_back : Contents) (calls_back : List Operation) : Type 0 where
  pub reaches : ReachesMoreThan start calls budget
  pub overlap : HaveNoOverlap calls → ⊥
  pub same_start : start_back ≡ start
  pub same_calls : calls_back ≡ calls

-- what each answer says of the calls
abbrev pub IsAnswer : Contents → List Operation → ℕ → Mended → Type 0
IsAnswer start calls budget (Order kept) = Keeps start calls kept
IsAnswer start calls budget (NoOrder start_back calls_back) = HaveNoOrder start calls start_back calls_back.items
IsAnswer start calls budget (Spent start_back calls_back) = IsSpent start calls budget start_back calls_back.items

-- what each answer says of the calls and one that came to them
pub record IsAnswerWith (operation : Operation) (start : Contents) (calls : List Operation) (budget : ℕ) (kept : Mended) : Type 0 where
  pub more : List Operation
  pub came : HasCome operation calls more
  pub answer : IsAnswer start more budget kept
