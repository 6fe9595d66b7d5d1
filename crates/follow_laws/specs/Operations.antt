-- What is left at some keys, as calls of a map that has only these keys.
use Rattle.std.specs.Prelude.{◌≡◌, ◌⊎◌, ℕ, ◌==◌, ◌<◌, true, false, not, List, filter, None, AllPairs, Contains}
use Rattle.events.specs.declared.operation.Operation.{Operation}
use Rattle.events.specs.Precedence.{precedes}
use Rattle.map_object.specs.MapObject.{Contents, IsRising, value_at}
use Rattle.orders.specs.Orders.{IsLegalCall}
use Rattle.follow_laws.specs.KeyedCalls.{KeyedCall, IsNoEffect, concerns_key, keyed}
use Rattle.follow_laws.specs.Forms.{HaveForms}
use Rattle.follow_laws.specs.Choices.{Choice}
use Rattle.follow_laws.specs.Cuts.{Keys}
use Rattle.follow_laws.specs.Apart.{IsAlikeAt}
use Rattle.follow_laws.specs.Parts.{left_at}
use Rattle.follow_laws.specs.Steps.{IsLeftAt}

-- The map holds what the keys hold, and nothing else. The operations are alike at the keys to what
-- is left there of calls, except of calls that have no effect.
pub record AreLeftCalls (keys : Keys) (past : Choice) (calls : List KeyedCall) (pairs : Contents) (left : List Operation) : Type 0 where
  pub rises : IsRising pairs
  pub same : (key : ℕ) → keys key ≡ true → value_at pairs key ≡ past.holds key
  pub nothing : (key : ℕ) → keys key ≡ false → value_at pairs key ≡ None
  pub rising : AllPairs (λ a b. a.inv < b.inv) left
  pub forms : HaveForms left
  pub there : (a : KeyedCall) → Contains calls a
      → ((key : ℕ) → IsNoEffect ((left_at keys past a).effect key))
      ⊎ ((o : Operation) × Contains left o × IsAlikeAt keys (left_at keys past a) (keyed o))
  pub back : (o : Operation) → Contains left o → (a : KeyedCall) × Contains calls a × IsAlikeAt keys (left_at keys past a) (keyed o)

-- each operation is like a call that was not refused, and some of that call is left
abbrev pub AreOfLeftCalls : Keys → Choice → List KeyedCall → List Operation → Type 0
AreOfLeftCalls keys past calls left =
    (o : Operation) → Contains left o
    → (a : KeyedCall) × Contains calls a × (a.refused ≡ false) × IsLeftAt keys past a × IsAlikeAt keys (left_at keys past a) (keyed o)

-- the operations have all that is left of the calls that began before a place and were not refused
abbrev pub AreAllLeft : Keys → Choice → ℕ → List KeyedCall → List Operation → Type 0
AreAllLeft keys past limit calls left =
    (a : KeyedCall) → Contains calls a → a.inv < limit → a.refused ≡ false → IsLeftAt keys past a
    → (o : Operation) × Contains left o × IsAlikeAt keys (left_at keys past a) (keyed o)

-- some key of a call is among these
abbrev pub HasSomeKeyIn : Keys → Operation → Type 0
HasSomeKeyIn keys o = (key : ℕ) × (keys key ≡ true) × (concerns_key o.call key ≡ true)

-- an operation may come next at some keys: it has one of them, the map allows its answer, and no operation that has one of them precedes it
pub record OperationMayCome (some : Keys) (pairs : Contents) (left : List Operation) (o : Operation) : Type 0 where
  pub concerned : HasSomeKeyIn some o
  pub legal : IsLegalCall pairs o.call o.response
  pub first : (q : Operation) → Contains left q → HasSomeKeyIn some q → precedes q o ≡ false

-- the operations without one
abbrev pub without_call : ℕ → List Operation → List Operation
without_call inv left = filter (λ q. not (q.inv == inv)) left
