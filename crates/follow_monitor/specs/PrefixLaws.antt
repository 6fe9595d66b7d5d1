-- Laws of prefixes.
use Rattle.std.specs.Prelude.{◌≡◌, ℕ, ◌+◌, ◌*◌, ◌<◌, ◌≤◌, length, Some, slice_get}
use Rattle.events.specs.declared.event.Call.{Call}
use Rattle.events.specs.declared.event.Reply.{Reply}
use Rattle.events.specs.declared.event.Event.TheVariants.{Invoke, Answer}
use Rattle.events.specs.Limits.{call_limit}
use Rattle.events.specs.HistoryView.{HistoryView, with_event}
use Rattle.events.specs.Histories.{IsHistory}
use Rattle.orders.specs.Orders.{IsLinearizableHistory}
use Rattle.follow_monitor.specs.Prefixes.{prefix_of, IsAnswerOf, GoesWrongAt}

-- the first events of a history are a history
abbrev pub PrefixesAreHistories : Type 0
PrefixesAreHistories = (history : HistoryView) (count : ℕ) → IsHistory history → IsHistory (prefix_of history count)

-- if a history has an order, its first events have one
abbrev pub PrefixesHaveOrders : Type 0
PrefixesHaveOrders = (history : HistoryView) (count : ℕ) → IsLinearizableHistory history → IsLinearizableHistory (prefix_of history count)

-- if a history has an order, it has one with one more invocation at its end
abbrev pub InvocationsKeepOrders : Type 0
InvocationsKeepOrders =
    (history : HistoryView) (process : ℕ) (call : Call) → IsLinearizableHistory history
    → IsLinearizableHistory (with_event history (Invoke process call))

-- each response of a history is the answer of a call
abbrev pub AnswersHaveCalls : Type 0
AnswersHaveCalls =
    (history : HistoryView) (place process : ℕ) (reply : Reply) → IsHistory history
    → slice_get history.events place ≡ Some (Answer process reply) → (number : ℕ)
    × IsAnswerOf history.events number place

-- an event is the answer of at most one call
abbrev pub AnswersHaveOneCall : Type 0
AnswersHaveOneCall =
    (history : HistoryView) (number other place : ℕ) → IsHistory history → IsAnswerOf history.events number place
    → IsAnswerOf history.events other place
    → number ≡ other

-- the event at which an order is lost is the answer of a call
abbrev pub OrdersAreLostAtAnswers : Type 0
OrdersAreLostAtAnswers =
    (history : HistoryView) (place : ℕ) → IsHistory history → place < length history.events
    → IsLinearizableHistory (prefix_of history place)
    → (IsLinearizableHistory (prefix_of history (place + 1)) → ⊥) → (number : ℕ) × GoesWrongAt history number place

-- a history goes wrong at one event at most. If it does, it has no order, and neither have its
-- first events up to that event or a later one
abbrev pub OneEventGoesWrong : Type 0
OneEventGoesWrong =
    (history : HistoryView) (number place : ℕ) → GoesWrongAt history number place
    → ((other elsewhere : ℕ) → GoesWrongAt history other elsewhere → place ≡ elsewhere)
    × (IsLinearizableHistory history → ⊥) × ((count : ℕ) → place < count → IsLinearizableHistory (prefix_of history count) → ⊥)

-- a history has at most twice as many events as calls are allowed
abbrev pub HistoriesHaveFewEvents : Type 0
HistoriesHaveFewEvents = (history : HistoryView) → IsHistory history → length history.events ≤ 2 * call_limit
