-- What one process recorded: events with the stamps that were drawn for them, in their order.
use Rattle.std.specs.Prelude.{◌≡◌, ℕ, ◌+◌, ◌*◌, ◌<◌, ◌≤◌, Bool, cond, List, length, map, All, AllPairs}
use Rattle.events.specs.declared.event.Event.{Event}
use Rattle.events.specs.Events.{process_of}
use Rattle.events.specs.Limits.{process_limit, call_limit}
use Rattle.events.specs.Histories.{call_count, AreHistoryEvents}
use Rattle.events.specs.HistoryFaults.{has_open_call}
use Rattle.events.specs.Logs.{Stamped}

-- the events without their stamps
abbrev pub events_in : List Stamped → List Event
events_in log = map (λ e. e.1) log

-- the stamps without the events
abbrev pub stamps_in : List Stamped → List ℕ
stamps_in log = map (λ e. e.0) log

-- the stamps rise
abbrev pub StampsRise : List Stamped → Type 0
StampsRise log = AllPairs (λ a b. a.0 < b.0) log

-- the log of a process that began this many of its calls: its own events, which are a history on
-- their own, by rising stamp
pub record IsRecord (process calls begun : ℕ) (has_open : Bool) (log : List Stamped) : Type 0 where
  pub known : process < process_limit
  pub own : All (λ e. process_of e.1 ≡ process) log
  pub history : AreHistoryEvents (events_in log)
  pub waits : has_open ≡ has_open_call process (events_in log)
  pub begun_is : begun ≡ call_count (events_in log)
  pub few : begun ≤ calls
  pub small : calls ≤ call_limit
  pub paired : length log + cond has_open 1 0 ≡ 2 * begun
  pub rises : StampsRise log
