-- What a clause can say of a pass, and why a pass refuses an event.
use Rattle.std.specs.Prelude.{◌≡◌, ℕ, ◌<◌, Bool, nat_le, nat_lt, not, if◌then◌else◌, List, [], ◌∷◌, ◌++◌, All, Option, Some, None}
use Rattle.atomic_table.specs.Seated.{TableId}
use Rattle.events.specs.declared.event.Event.{Event}
use Rattle.events.specs.declared.event.Reply.{Reply}
use Rattle.events.specs.Limits.{pair_limit}
use Rattle.events.specs.Histories.{call_count, pair_count}
use Rattle.events.specs.HistoryFaults.{has_open_call}
use Rattle.events.specs.Logs.{Stamped}
use Rattle.tickets.specs.declared.hand.Hand.{Hand}
use Rattle.tickets.specs.Hands.{counter_of, share_of}
use Rattle.recorder.specs.declared.fault.RecorderFault.{RecorderFault}
use Rattle.recorder.specs.declared.fault.RecorderFault.TheVariants as faults
use Rattle.recorder.specs.declared.pass.Pass.{Pass}
use Rattle.recorder.specs.Records.{events_in, stamps_in}

-- the process that records with a pass
abbrev pub process_number : Pass → ℕ
process_number p = p.process

-- how many calls it may begin in all
abbrev pub calls_of : Pass → ℕ
calls_of p = p.calls

-- its events with their stamps, in their order
abbrev pub log_of : Pass → List Stamped
log_of p = p.log.items

-- its events
abbrev pub events_by : Pass → List Event
events_by p = events_in (log_of p)

-- its stamps
abbrev pub stamps_of : Pass → List ℕ
stamps_of p = stamps_in (log_of p)

-- the counter from which its stamps are drawn
abbrev pub source_of : Pass → TableId
source_of p = counter_of p.hand

-- how many draws it has, made or left
abbrev pub draws_of : Pass → ℕ
draws_of p = share_of p.hand

-- all that a pass shows
pub record PassView : Type 0 where
  pub process : ℕ
  pub calls : ℕ
  pub log : List Stamped
  pub hand : Hand

abbrev pub view_of : Pass → PassView
view_of p = record { process = p.process; calls = p.calls; log = p.log.items; hand = p.hand }

-- whether its process has an open call
abbrev pub is_waiting : Pass → Bool
is_waiting p = has_open_call (process_number p) (events_by p)

-- what is wrong with one more invocation
abbrev pub invoke_fault : Pass → Option RecorderFault
invoke_fault p =
    if is_waiting p then Some faults.OutOfTurn
    else if nat_le (calls_of p) (call_count (events_by p)) then Some faults.TooMany
    else None

-- what is wrong with a response of this reply
abbrev pub answer_fault : Pass → Reply → Option RecorderFault
answer_fault p reply =
    if not (is_waiting p) then Some faults.OutOfTurn
    else if nat_lt pair_limit (pair_count reply) then Some faults.TooMany
    else None

-- why an event was refused: for its fault, or if it has none because memory ran out
abbrev pub IsRefusedFor : Option RecorderFault → RecorderFault → Type 0
IsRefusedFor None fault = fault ≡ faults.Memory
IsRefusedFor (Some wrong) fault = fault ≡ wrong

-- the pass recorded this event, with a stamp above all that it had drawn; nothing else changed
pub record HasRecorded (old : Pass) (event : Event) (new : Pass) : Type 0 where
  pub stamp : ℕ
  pub log : log_of new ≡ log_of old ++ (stamp, event) ∷ []
  pub above : All (λ x. x < stamp) (stamps_of old)
  pub process : process_number new ≡ process_number old
  pub calls : calls_of new ≡ calls_of old
  pub source : source_of new ≡ source_of old
