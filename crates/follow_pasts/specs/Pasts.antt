-- What becomes of pasts.
use Rattle.std.specs.Prelude.{◌≡◌, ◌⊎◌, ℕ, ◌≤◌, ◌<◌, List, [], ◌∷◌, ◌++◌, length, take, drop, map, Option, None, Some, All, AllPairs, Contains, ⊤}
use Rattle.events.specs.declared.operation.Operation.{Operation}
use Rattle.events.specs.declared.operation.Response.{Response}
use Rattle.orders.specs.Orders.{IsLinearizable}
use Rattle.memo.specs.Counts.{ReachesMoreThan}
use Rattle.follow_laws.specs.Left.{answered}
use Rattle.follow_orders.specs.Answers.{HaveNoOverlap}
use Rattle.follow_orders.specs.declared.kept.Mended.{Mended}
use Rattle.follow_orders.specs.declared.kept.Mended.TheVariants.{Order, NoOrder, Spent}
use Rattle.follow_laws.specs.Pasts.{KeptPast}
use Rattle.follow_cuts.specs.PartCuts.{kept_of}
use Rattle.follow_cuts.specs.declared.past.Past.{Past}
use Rattle.follow_pasts.specs.Views.{past_of}
use Rattle.follow_pasts.specs.declared.pasts.GoneOn.{GoneOn}
use Rattle.follow_pasts.specs.declared.pasts.GoneOn.TheVariants.{Alive, Dead, Doubtful}

-- what is left of a past has no order
abbrev pub IsDead : KeptPast → Type 0
IsDead past = IsLinearizable past.pairs past.left → ⊥

-- these are the pasts from one on, and those before it are dead
pub record AreAlive (pasts left : List KeptPast) : Type 0 where
  pub front : List KeptPast
  pub dead : All IsDead front
  pub parts : pasts ≡ front ++ left

-- the pasts before one are dead, and the search of that one is beyond the budget; some of its calls overlap
pub record AreDoubtful (budget : ℕ) (pasts : List KeptPast) : Type 0 where
  pub front : List KeptPast
  pub past : KeptPast
  pub back : List KeptPast
  pub dead : All IsDead front
  pub parts : pasts ≡ front ++ past ∷ back
  pub reaches : ReachesMoreThan past.pairs past.left budget
  pub overlap : HaveNoOverlap past.left → ⊥

-- what becomes of pasts: the first with an order and those after it; or all of them, which are dead; or all, if a search is beyond the budget
abbrev pub AreGoneOn : ℕ → List KeptPast → GoneOn → Type 0
AreGoneOn budget pasts (Alive first found others) = AreAlive pasts (past_of first found.items ∷ map kept_of others.items)
AreGoneOn budget pasts (Dead again) = (map kept_of again.items ≡ pasts) × All IsDead pasts
AreGoneOn budget pasts (Doubtful again) = (map kept_of again.items ≡ pasts) × AreDoubtful budget pasts

-- the calls that are left of each past, of one whose order is known or not, and of those that go on
abbrev pub lefts : List Past → List (List Operation)
lefts pasts = map (λ past. past.calls.items) pasts

abbrev pub lefts_of_kept : Mended → List (List Operation)
lefts_of_kept (Order first) = first.calls ∷ []
lefts_of_kept (NoOrder start calls) = []
lefts_of_kept (Spent start calls) = []

abbrev pub lefts_of : GoneOn → List (List Operation)
lefts_of (Alive first found others) = first.calls ∷ lefts others.items
lefts_of (Dead again) = []
lefts_of (Doubtful again) = []

-- the place for a call among calls, by rising invocation
pub record IsPlaceFor (calls : List Operation) (inv place : ℕ) : Type 0 where
  pub within : place ≤ length calls
  pub less : All (λ a. a.inv < inv) (take place calls)
  pub no_less : All (λ a. inv ≤ a.inv) (drop place calls)

-- an operation is the answer of a pending call
pub record IsAnswerOf (o : Operation) (response : Response) (operation : Operation) : Type 0 where
  pub pending : o.response ≡ None
  pub is : operation ≡ answered response o

-- calls that are left after an answer: by rising invocation, each as it was, or with the answer
pub record AreLeftAfter (operation : Operation) (calls left : List Operation) : Type 0 where
  pub rising : AllPairs (λ a b. a.inv < b.inv) left
  pub each : (o : Operation) → Contains left o
      → Contains calls o ⊎ ((o.response ≡ operation.response) × ((a : Operation) × Contains calls a × (a.inv ≡ o.inv)))

abbrev pub IsLeftKept : Operation → List Operation → Mended → Type 0
IsLeftKept operation calls (Order next) = AreLeftAfter operation calls next.calls
IsLeftKept operation calls (NoOrder start calls_back) = ⊤
IsLeftKept operation calls (Spent start calls_back) = ⊤

-- the past after an answer, if there is one
abbrev pub kept_if : Option Past → List KeptPast
kept_if None = []
kept_if (Some past) = kept_of past ∷ []
