-- Why an event of a stream is not followed.
use Rattle.follow_monitor.specs.declared.fault.FollowFault.TheVariants as turns
use Rattle.std.specs.Prelude.{◌≡◌, ◌≢◌, ℕ, Some}
use Rattle.events.specs.declared.event.Event.{Event}
use Rattle.events.specs.declared.event.Event.TheVariants.{Invoke, Answer}
use Rattle.events.specs.HistoryView.{HistoryView}
use Rattle.follow_violations.specs.declared.loss.Violation.{Violation}
use Rattle.follow_monitor.specs.Outcomes.{IsLost, IsSpent}
use Rattle.cli_follow.specs.Refusals.{turn_fault}
use Rattle.cli_follow.specs.declared.stops.Stop.{Stop}
use Rattle.cli_follow.specs.declared.stops.Stop.TheVariants.{Refused, Lost, Spent}

-- the stream goes wrong at this event, an answer, whatever follows
abbrev pub IsLostAt : HistoryView → Event → Violation → Type 0
IsLostAt stream (Invoke process call) loss = ⊥
IsLostAt stream (Answer process reply) loss = IsLost stream.start stream.events process reply loss

-- it is not known whether it does: a search is beyond the budget
abbrev pub IsSpentAt : HistoryView → ℕ → Event → Violation → Type 0
IsSpentAt stream budget (Invoke process call) loss = ⊥
IsSpentAt stream budget (Answer process reply) loss = IsSpent stream.start stream.events process reply budget loss

-- why this event is not followed: it is out of turn or an event too many, unless memory ran out; or
-- the stream goes wrong at its answer, or may do so
abbrev pub IsStop : HistoryView → ℕ → Event → Stop → Type 0
IsStop stream budget e (Refused fault) = fault ≢ turns.Memory → turn_fault stream.events e ≡ Some fault
IsStop stream budget e (Lost loss) = IsLostAt stream e loss
IsStop stream budget e (Spent loss) = IsSpentAt stream budget e loss
