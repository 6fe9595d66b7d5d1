-- Why an event is not taken after others.
use Rattle.follow_monitor.specs.declared.fault.FollowFault.TheVariants as faults
use Rattle.std.specs.Prelude.{ℕ, ◌-◌, ◌^◌, nat_lt, nat_le, not, if◌then◌else◌, List, length, Option, Some, None}
use Rattle.events.specs.declared.event.Call.{Call}
use Rattle.events.specs.declared.event.Event.{Event}
use Rattle.events.specs.HistoryFaults.{has_open_call}
use Rattle.events.specs.Keys.{low_key, high_key}
use Rattle.follow_monitor.specs.declared.fault.FollowFault.{FollowFault}

-- how many events are taken at most
abbrev pub event_limit : ℕ
event_limit = 2 ^ 44 - 2

-- what is wrong with the invocation of a call after these events: its shape, its turn, and the
-- limit
abbrev pub invocation_fault : List Event → ℕ → Call → Option FollowFault
invocation_fault events process call =
    if nat_lt (high_key call) (low_key call) then Some faults.Shape
    else if has_open_call process events then Some faults.NotWellFormed
    else if nat_le event_limit (length events) then Some faults.TooMany
    else None

-- what is wrong with an answer after these events: its turn, and the limit
abbrev pub answer_fault : List Event → ℕ → Option FollowFault
answer_fault events process =
    if not (has_open_call process events) then Some faults.NotWellFormed
    else if nat_le event_limit (length events) then Some faults.TooMany
    else None

-- what an error shows of an event: nothing if memory ran out
abbrev pub shown : FollowFault → Option FollowFault
shown faults.Memory = None
shown fault = Some fault
