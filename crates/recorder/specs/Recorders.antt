-- What a clause can say of a recorder and its passes.
use Rattle.std.specs.Prelude.{◌≡◌, ℕ, ◌<◌, List, map, flat_map, sum_by, All, Contains}
use Rattle.atomic_table.specs.Seated.{TableId}
use Rattle.events.specs.declared.event.Event.{Event}
use Rattle.events.specs.Events.{events_of}
use Rattle.events.specs.Logs.{history_of_logs}
use Rattle.tickets.specs.Hands.{counter, quota_of}
use Rattle.recorder.specs.declared.pass.Pass.{Pass}
use Rattle.recorder.specs.declared.recorders.Recorder.{Recorder}
use Rattle.recorder.specs.Passes.{process_number, calls_of, log_of, stamps_of, source_of, draws_of, events_by}

-- the counter from which all stamps are drawn
abbrev pub source : Recorder → TableId
source r = counter r.tickets

-- how many processes record
abbrev pub processes_of : Recorder → ℕ
processes_of r = r.processes

-- how many calls each process may begin
abbrev pub calls_for_each : Recorder → ℕ
calls_for_each r = r.calls_each

-- how many stamps can be drawn in all
abbrev pub draws : Recorder → ℕ
draws r = quota_of r.tickets

-- the pass is one of the recorder
pub record IsPassOf (r : Recorder) (p : Pass) : Type 0 where
  pub source_is : source_of p ≡ source r
  pub process : process_number p < processes_of r
  pub calls : calls_of p ≡ calls_for_each r

-- each process below a number has a pass among these
abbrev pub HasProcesses : ℕ → List Pass → Type 0
HasProcesses n passes = (p : ℕ) → p < n → Contains (map process_number passes) p

-- each process has a pass among these, and all draws are with them
pub record AreAll (r : Recorder) (passes : List Pass) : Type 0 where
  pub processes : HasProcesses (processes_of r) passes
  pub draws_are : sum_by draws_of passes ≡ draws r

-- the stamps of all passes
abbrev pub all_stamps : List Pass → List ℕ
all_stamps passes = flat_map stamps_of passes

-- the history of all passes: all their events, by rising stamp
abbrev pub history_of : List Pass → List Event
history_of passes = history_of_logs (map log_of passes)

-- in the history of all passes, the events of each process are all events of its pass, in order
abbrev pub HasOwnEvents : List Pass → Type 0
HasOwnEvents passes = All (λ p. events_of (process_number p) (history_of passes) ≡ events_by p) passes
