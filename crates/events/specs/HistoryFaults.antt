-- The first fault of pairs and events that are not a history. A fault of the pairs comes before one
-- of the events.
use Rattle.events.specs.declared.fault.HistoryFault.TheVariants as faults
use Rattle.std.specs.Prelude.{◌≡◌, ℕ, ◌⊎◌, Bool, false, not, ◌||◌, nat_lt, nat_le, if◌then◌else◌, List, [], ◌∷◌, ◌++◌, length, Option, Some}
use Rattle.std.specs.Prelude.{None, ⊤}
use Rattle.std.specs.List.{list_all}
use Rattle.events.specs.declared.event.Event.{Event}
use Rattle.events.specs.declared.event.Event.TheVariants.{Invoke, Answer}
use Rattle.events.specs.declared.fault.HistoryFault.{HistoryFault}
use Rattle.events.specs.Limits.{call_limit, start_limit}
use Rattle.events.specs.Events.{process_of, is_invocation, events_of}
use Rattle.events.specs.HistoryView.{HistoryView}
use Rattle.events.specs.Starts.{IsStart}
use Rattle.events.specs.Histories.{is_shaped, is_small, call_count, AreHistoryEvents}

-- whether the last event is an invocation; for an empty list, `waiting` says so
abbrev pub ends_waiting : Bool → List Event → Bool
ends_waiting waiting [] = waiting
ends_waiting waiting (e ∷ events) = ends_waiting (is_invocation e) events

-- whether a process has an open call after the events
abbrev pub has_open_call : ℕ → List Event → Bool
has_open_call p events = ends_waiting false (events_of p events)

-- whether an event comes out of turn: an invocation while its process has an open call, or a
-- response while it has none
abbrev pub is_out_of_turn : Bool → Event → Bool
is_out_of_turn has_open (Invoke p call) = has_open
is_out_of_turn has_open (Answer p reply) = not has_open

-- whether an event is an invocation that is one too many, after a number of calls
abbrev pub is_call_too_many : ℕ → Event → Bool
is_call_too_many calls (Invoke p call) = nat_le call_limit calls
is_call_too_many calls (Answer p reply) = false

-- the fault of an event at a place, after a number of calls: first of its shape, then of a limit,
-- then of its turn
abbrev pub event_fault : ℕ → ℕ → Bool → Event → Option HistoryFault
event_fault place calls has_open e =
    if not (is_shaped e) then Some (faults.Shape place)
    else if not (is_small e) || is_call_too_many calls e then Some faults.TooMany
    else if is_out_of_turn has_open e then Some (faults.NotWellFormed place)
    else None

-- the fault of the event that follows these
abbrev pub fault_after : List Event → Event → Option HistoryFault
fault_after before e = event_fault (length before) (call_count before) (has_open_call (process_of e) before) e

-- whether a key is above the keys of all pairs before it; if these rise, whether it is above the
-- last one
abbrev pub is_above : List (ℕ × ℕ) → ℕ → Bool
is_above before key = list_all (λ pair. nat_lt pair.0 key) before

-- the fault of the pair that follows these: there is one pair too many, or its key does not rise
abbrev pub pair_fault_after : List (ℕ × ℕ) → ℕ × ℕ → Option HistoryFault
pair_fault_after before pair =
    if nat_le start_limit (length before) then Some faults.TooMany
    else if not (is_above before pair.0) then Some (faults.Start (length before))
    else None

-- the list begins with sound items, and the next item shows the fault
pub record IsFirstFaultOf {X : Type 0} (IsSound : List X → Type 0) (fault_of_next : List X → X → Option HistoryFault) (items : List X)
    (fault : HistoryFault)
    : Type 0 where
  pub before : List X
  pub next : X
  pub rest : List X
  pub parts : items ≡ before ++ next ∷ rest
  pub sound : IsSound before
  pub shows : fault_of_next before next ≡ Some fault

-- the first fault of pairs, and of events
abbrev pub IsFirstPairFault : List (ℕ × ℕ) → HistoryFault → Type 0
IsFirstPairFault pairs fault = IsFirstFaultOf IsStart pair_fault_after pairs fault

abbrev pub IsFirstEventFault : List Event → HistoryFault → Type 0
IsFirstEventFault events fault = IsFirstFaultOf AreHistoryEvents fault_after events fault

-- the first fault: that of the pairs, or that of the events if the pairs have none
abbrev pub IsFirstFault : HistoryView → HistoryFault → Type 0
IsFirstFault history fault = IsFirstPairFault history.start fault ⊎ (IsStart history.start × IsFirstEventFault history.events fault)

-- why pairs and events were refused: their first fault, unless memory ran out
abbrev pub IsRefusedFor : HistoryView → HistoryFault → Type 0
IsRefusedFor history faults.Memory = ⊤
IsRefusedFor history fault = IsFirstFault history fault

-- why an event was refused after others: for its fault there, unless memory ran out
abbrev pub IsRefusedAfter : List Event → Event → HistoryFault → Type 0
IsRefusedAfter before e faults.Memory = ⊤
IsRefusedAfter before e fault = fault_after before e ≡ Some fault

-- why a pair was refused after others: for its fault there, unless memory ran out
abbrev pub IsPairRefusedAfter : List (ℕ × ℕ) → ℕ × ℕ → HistoryFault → Type 0
IsPairRefusedAfter before pair faults.Memory = ⊤
IsPairRefusedAfter before pair fault = pair_fault_after before pair ≡ Some fault
