-- Legal lists of calls, and the orders of a history from the pairs that it starts with: Herlihy and
-- Wing 1990, section 2, who call an order a linearization.
use Rattle.std.specs.Prelude.{◌≡◌, ◌≢◌, ℕ, ◌<◌, false, IsTrue, IsSomeAnd, List, [], ◌∷◌, length, Option, Some, None, slice_get, filter_map}
use Rattle.std.specs.Prelude.{All, AllPairs}
use Rattle.std.specs.Prelude.{Contains, ⊤}
use Rattle.events.specs.declared.event.Call.{Call}
use Rattle.events.specs.declared.operation.Operation.{Operation}
use Rattle.events.specs.declared.operation.Response.{Response}
use Rattle.events.specs.HistoryView.{HistoryView}
use Rattle.events.specs.Operations.{operations}
use Rattle.events.specs.Precedence.{is_completed, precedes}
use Rattle.map_object.specs.MapObject.{Contents, after, after_reply, IsLegalReply}

-- the pairs after a call of a history; a pending call that is taken was not refused
abbrev pub after_call : Contents → Call → Option Response → Contents
after_call m call None = after m call
after_call m call (Some response) = after_reply m call response.reply

-- a completed call may get its recorded reply; a pending one may always come
abbrev pub IsLegalCall : Contents → Call → Option Response → Type 0
IsLegalCall m call None = ⊤
IsLegalCall m call (Some response) = IsLegalReply m call response.reply

-- the pairs after a list of calls
abbrev pub after_calls : Contents → List Operation → Contents
after_calls m [] = m
after_calls m (a ∷ calls) = after_calls (after_call m a.call a.response) calls

-- a legal list of calls from m on: each call is legal after those before it
abbrev pub IsLegal : Contents → List Operation → Type 0
IsLegal m [] = ⊤
IsLegal m (a ∷ calls) = IsLegalCall m a.call a.response × IsLegal (after_call m a.call a.response) calls

-- the calls with these numbers
abbrev pub calls_at : List Operation → List ℕ → List Operation
calls_at calls numbers = filter_map (slice_get calls) numbers

-- no later call precedes an earlier one
abbrev pub KeepsPrecedence : List Operation → Type 0
KeepsPrecedence calls = AllPairs (λ a b. precedes b a ≡ false) calls

-- some of the calls, in an order that keeps precedence and is legal
pub record IsLegalOrder (start : Contents) (calls : List Operation) (order : List ℕ) : Type 0 where
  pub known : All (λ n. n < length calls) order
  pub distinct : AllPairs (λ m n. m ≢ n) order
  pub precedence : KeepsPrecedence (calls_at calls order)
  pub legal : IsLegal start (calls_at calls order)

-- call n is completed
abbrev pub IsCompletedAt : List Operation → ℕ → Type 0
IsCompletedAt calls n = IsSomeAnd (slice_get calls n) (λ a. IsTrue (is_completed a))

-- an order of the calls: it has each completed call, and any of the pending ones
pub record IsOrder (start : Contents) (calls : List Operation) (order : List ℕ) : Type 0 where
  pub legal_order : IsLegalOrder start calls order
  pub complete : (n : ℕ) → IsCompletedAt calls n → Contains order n

-- the calls are linearizable: they have an order
abbrev pub IsLinearizable : Contents → List Operation → Type 0
IsLinearizable start calls = (order : List ℕ) × IsOrder start calls order

-- an order of a history: an order of its calls, from the pairs that it starts with
abbrev pub IsOrderOfHistory : HistoryView → List ℕ → Type 0
IsOrderOfHistory history order = IsOrder history.start (operations history.events) order

-- a history is linearizable: it has an order
abbrev pub IsLinearizableHistory : HistoryView → Type 0
IsLinearizableHistory history = IsLinearizable history.start (operations history.events)
