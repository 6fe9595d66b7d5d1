-- What the program remembers of the events so far.
use Rattle.std.specs.Prelude.{◌≡◌, ℕ, ◌<◌, false, List, slice_index_or}
use Rattle.events.specs.declared.event.Event.{Event}
use Rattle.events.specs.declared.open_calls.OpenCalls.{OpenCalls}
use Rattle.events.specs.Limits.{process_limit}
use Rattle.events.specs.Histories.{call_count}
use Rattle.events.specs.HistoryFaults.{has_open_call}

-- how many calls there are, and which processes have an open one
pub record AreOpenAfter (before : List Event) (turns : OpenCalls) : Type 0 where
  pub calls : turns.calls ≡ call_count before
  pub has_open : (p : ℕ) → p < process_limit → slice_index_or turns.has_open p false ≡ has_open_call p before
