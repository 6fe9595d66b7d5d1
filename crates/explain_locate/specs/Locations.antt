-- What each location says of a history.
use Rattle.std.specs.Prelude.{◌≡◌, ◌⊎◌, ℕ, Some, slice_get, take}
use Rattle.events.specs.declared.event.Event.TheVariants.{Answer}
use Rattle.events.specs.declared.event.Reply.{Reply}
use Rattle.events.specs.HistoryView.{HistoryView}
use Rattle.orders.specs.Orders.{IsLinearizableHistory}
use Rattle.follow_monitor.specs.Prefixes.{prefix_of, IsAnswerOf, GoesWrongAt}
use Rattle.follow_violations.specs.declared.loss.Violation.{Violation}
use Rattle.follow_monitor.specs.Following.{IsFollowing}
use Rattle.follow_monitor.specs.MonitorView.{MonitorView}
use Rattle.follow_monitor.specs.Outcomes.{IsAnswered}
use Rattle.follow_monitor.specs.declared.answered.Answered.{Answered}
use Rattle.follow_monitor.specs.declared.answered.Answered.TheVariants as outcomes
use Rattle.explain_locate.specs.Bisections.{IsJudgedWhole, IsLeftOpen, IsRefutedWith, IsYes}
use Rattle.explain_locate.specs.declared.location.Location.{Location}
use Rattle.explain_locate.specs.declared.location.Location.TheVariants.{Yes, No, Lost, Undecided}

-- the event at a place is an answer, and this is what it makes of a monitor that has taken the events before it
pub record IsAnswerFollowed (budget : ℕ) (history : HistoryView) (place : ℕ) (answered : Answered) : Type 0 where
  pub process : ℕ
  pub reply : Reply
  pub event_is : slice_get history.events place ≡ Some (Answer process reply)
  pub monitor : MonitorView
  pub follows : IsFollowing history.start (take place history.events) monitor
  pub answered_is : IsAnswered history.start (take place history.events) monitor process reply budget answered

-- the history goes wrong at this event and call, and the judge's verdicts at the budget lead to it
pub record IsFoundAt (budget : ℕ) (history : HistoryView) (event number : ℕ) : Type 0 where
  pub wrong : GoesWrongAt history number event
  pub judged : IsRefutedWith budget history (Some event)

-- the judge's verdicts at the budget say where a history goes wrong: the one on the whole history is a yes, or bisection finds an event
abbrev pub IsDecidedByJudge : ℕ → HistoryView → Type 0
IsDecidedByJudge budget history =
    IsJudgedWhole IsYes budget history ⊎ ((event : ℕ) × ((number : ℕ) × IsFoundAt budget history event number))

-- the judge's verdicts leave it open, the history goes wrong at this event and call, and there the monitor has this loss
pub record IsLostAt (budget : ℕ) (history : HistoryView) (loss : Violation) : Type 0 where
  pub open_to_judge : IsLeftOpen budget history
  pub wrong : GoesWrongAt history loss.number loss.event
  pub followed : IsAnswerFollowed budget history loss.event (outcomes.Lost loss)

-- The judge's verdicts leave it open, and the events before this one have an order. The event is the answer of this call, and a search of the
-- monitor goes beyond the budget there.
pub record IsUndecidedAt (budget : ℕ) (history : HistoryView) (event number : ℕ) : Type 0 where
  pub open_to_judge : IsLeftOpen budget history
  pub before : IsLinearizableHistory (prefix_of history event)
  pub answer : IsAnswerOf history.events number event
  pub loss : Violation
  pub event_is : loss.event ≡ event
  pub number_is : loss.number ≡ number
  pub followed : IsAnswerFollowed budget history event (outcomes.Spent loss)

-- what the location says of the history is so
abbrev pub IsLocated : ℕ → HistoryView → Location → Type 0
IsLocated budget history Yes = IsLinearizableHistory history
IsLocated budget history (No event number) = IsFoundAt budget history event number
IsLocated budget history (Lost loss) = IsLostAt budget history loss
IsLocated budget history (Undecided event number) = IsUndecidedAt budget history event number
