-- The lossy map: the object, which may lose any keys before each call, as a cache does.
use Rattle.std.specs.Prelude.{◌≢◌, ℕ, ◌<◌, Bool, filter, List, [], ◌∷◌, length, All, AllPairs, Contains, ⊤}
use Rattle.events.specs.declared.operation.Operation.{Operation}
use Rattle.events.specs.HistoryView.{HistoryView}
use Rattle.events.specs.Operations.{operations}
use Rattle.map_object.specs.MapObject.{Contents}
use Rattle.orders.specs.Orders.{after_call, IsLegalCall, calls_at, KeepsPrecedence, IsCompletedAt}

-- the pairs that are left when some keys disappear: those of the keys that stay
abbrev pub left : (ℕ → Bool) → Contents → Contents
left stays m = filter (λ pair. stays pair.0) m

-- a legal list of calls of the lossy map: before each call some keys disappear, and the call is
-- legal at the pairs that are left
abbrev pub IsLossyLegal : Contents → List Operation → Type 0
IsLossyLegal m [] = ⊤
IsLossyLegal m (a ∷ calls) =
    (stays : ℕ → Bool) × IsLegalCall (left stays m) a.call a.response
    × IsLossyLegal (after_call (left stays m) a.call a.response) calls

-- an order of the calls at the lossy map: as at the object, with legal lists of the lossy map
pub record IsLossyOrder (start : Contents) (calls : List Operation) (order : List ℕ) : Type 0 where
  pub known : All (λ n. n < length calls) order
  pub distinct : AllPairs (λ m n. m ≢ n) order
  pub precedence : KeepsPrecedence (calls_at calls order)
  pub legal : IsLossyLegal start (calls_at calls order)
  pub complete : (n : ℕ) → IsCompletedAt calls n → Contains order n

-- the calls are linearizable over the lossy map: they have such an order
abbrev pub IsLossyLinearizable : Contents → List Operation → Type 0
IsLossyLinearizable start calls = (order : List ℕ) × IsLossyOrder start calls order

-- a history is linearizable over the lossy map: its calls have such an order
abbrev pub IsLossyLinearizableHistory : HistoryView → Type 0
IsLossyLinearizableHistory history = IsLossyLinearizable history.start (operations history.events)
