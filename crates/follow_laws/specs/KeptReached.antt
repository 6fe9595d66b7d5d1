-- What it means that a past is reached.
use Rattle.std.specs.Prelude.{◌≡◌, ◌≢◌, ◌⊎◌, ℕ, true, List, [], ◌∷◌, ◌++◌, None, IsTrue, All, AllPairs, Contains}
use Rattle.events.specs.declared.operation.Operation.{Operation}
use Rattle.events.specs.Precedence.{is_completed}
use Rattle.map_object.specs.MapObject.{Contents, IsRising, value_at}
use Rattle.orders.specs.Orders.{IsLegal, KeepsPrecedence, after_calls}
use Rattle.follow_laws.specs.Cuts.{Keys}
use Rattle.follow_laws.specs.Operations.{HasSomeKeyIn}
use Rattle.follow_laws.specs.Pasts.{FoundAt, KeptPast}
use Rattle.follow_laws.specs.KeptParts.{KeptPart, AreKept}

-- in an order, a pending call found a value, or none
pub record IsFoundIn (start : Contents) (order : List Operation) (f : FoundAt) : Type 0 where
  pub front : List Operation
  pub call : Operation
  pub back : List Operation
  pub parts : order ≡ front ++ call ∷ back
  pub own : call.inv ≡ f.inv
  pub pending : call.response ≡ None
  pub value : value_at (after_calls start front) f.key ≡ f.value

-- A past of some keys is reached: some of the calls have a legal order that keeps precedence, and leaves at these keys what the past has there.
-- Take a call with a key among these. If it was answered, it is in the order or left in the past. If it is pending and the past has what it
-- found, it is in the order.
pub record IsReached (start : Contents) (calls : List Operation) (keys : Keys) (past : KeptPast) : Type 0 where
  pub order : List Operation
  pub known : (o : Operation) → Contains order o → Contains calls o
  pub distinct : AllPairs (λ a b. a.inv ≢ b.inv) order
  pub precedence : KeepsPrecedence order
  pub legal : IsLegal start order
  pub leaves : (key : ℕ) → keys key ≡ true → value_at (after_calls start order) key ≡ value_at past.pairs key
  pub taken : (o : Operation) → Contains order o → Contains past.left o → ⊥
  pub whole : (o : Operation) → Contains calls o → IsTrue (is_completed o) → HasSomeKeyIn keys o → Contains past.left o ⊎ Contains order o
  pub found : (f : FoundAt) → Contains past.found f → IsFoundIn start order f
  pub pending : (o : Operation) → Contains order o → o.response ≡ None → HasSomeKeyIn keys o
      → (f : FoundAt) × Contains past.found f × (f.inv ≡ o.inv)

-- a part has some past
abbrev pub HasPasts : KeptPart → Type 0
HasPasts part = part.pasts ≢ []

-- each past of a part is reached, if each other part has a past
abbrev pub KeptPastsAreReached : Type 0
KeptPastsAreReached =
    (start : Contents) (place : ℕ) (calls : List Operation) (part : KeptPart) (rest : List KeptPart) → IsRising start
    → AreKept start place calls (part ∷ rest) → All HasPasts rest → All (IsReached start calls part.keys) part.pasts
