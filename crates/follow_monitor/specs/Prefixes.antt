-- The first events of a history, and the one event at which a history goes wrong. Linearizability
-- is closed under prefixes (Herlihy and Wing 1990; Lynch 1996, section 13.1), so it is lost at one
-- event.
use Rattle.std.specs.Prelude.{◌≡◌, ℕ, ◌+◌, List, IsSomeAnd, slice_get, take}
use Rattle.events.specs.declared.event.Event.{Event}
use Rattle.events.specs.HistoryView.{HistoryView}
use Rattle.events.specs.Operations.{operations}
use Rattle.orders.specs.Orders.{IsLinearizableHistory}

-- the history of this many first events, from the same starting pairs
abbrev pub prefix_of : HistoryView → ℕ → HistoryView
prefix_of history count = record { start = history.start; events = take count history.events }

-- the event at a place is the answer of this call
abbrev pub IsAnswerOf : List Event → ℕ → ℕ → Type 0
IsAnswerOf events number place = IsSomeAnd (slice_get (operations events) number) (λ a. IsSomeAnd a.response
    (λ response. response.res ≡ place))

-- the history goes wrong at this event: the events before it have an order, with it they have none,
-- and it is the answer of this call
pub record GoesWrongAt (history : HistoryView) (number place : ℕ) : Type 0 where
  pub before : IsLinearizableHistory (prefix_of history place)
  pub after : IsLinearizableHistory (prefix_of history (place + 1)) → ⊥
  pub answer : IsAnswerOf history.events number place
