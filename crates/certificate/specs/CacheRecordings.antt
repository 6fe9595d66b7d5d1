-- How a history of a cache is recorded, event by event. Next to a scan, each key that it misses is
-- removed, by a process of its own.
use Rattle.events.specs.declared.event.Reply.TheVariants as replies
use Rattle.std.specs.Prelude.{ℕ, ◌+◌, ◌*◌, ◌==◌, ◌&&◌, nat_le, not, Bool, false, is_some, if◌then◌else◌, List, [], ◌∷◌, ◌++◌, filter, map}
use Rattle.std.specs.Prelude.{Option, Some, None}
use Rattle.events.specs.declared.event.Call.{Call}
use Rattle.events.specs.declared.event.Call.TheVariants.{Get, Remove, Scan}
use Rattle.events.specs.declared.event.Reply.{Reply}
use Rattle.events.specs.declared.event.Event.{Event}
use Rattle.events.specs.declared.event.Event.TheVariants.{Invoke, Answer}
use Rattle.events.specs.Limits.{process_limit}
use Rattle.events.specs.HistoryView.{HistoryView}
use Rattle.map_object.specs.MapObject.{value_at}
use Rattle.certificate.specs.CacheRecords.{recorded_call, recorded_reply}

-- whether a call with this answer misses a key: it is a scan with the key in its range, and none of
-- the pairs has the key
abbrev pub is_missed : Call → Reply → ℕ → Bool
is_missed (Scan low high) (replies.Pairs pairs) key = nat_le low key && (nat_le key high && not (is_some (value_at pairs key)))
is_missed call reply key = false

-- the keys that it misses, of the given ones
abbrev pub missed_keys : List ℕ → Call → Reply → List ℕ
missed_keys keys call reply = filter (is_missed call reply) keys

-- the process that removes a key next to the scan of a process; there is one for each process and
-- key, and none is a process of the history
abbrev pub helper : ℕ → ℕ → ℕ
helper p key = process_limit + p + process_limit * key

-- the next answer to a process, if there is one
abbrev pub answer_to_come : ℕ → List Event → Option Reply
answer_to_come p [] = None
answer_to_come p (Invoke q call ∷ events) = answer_to_come p events
answer_to_come p (Answer q reply ∷ events) = if q == p then Some reply else answer_to_come p events

-- what is recorded of an invocation, given the answer that comes later
abbrev pub recorded_invocation : ℕ → List ℕ → ℕ → Call → Option Reply → List Event
recorded_invocation fresh keys p call None = Invoke p call ∷ []
recorded_invocation fresh keys p call (Some reply) =
    Invoke p (recorded_call fresh call reply) ∷ map (λ key. Invoke (helper p key) (Remove key)) (missed_keys keys call reply)

-- what is recorded of an answer, by the call
abbrev pub recorded_answer : List ℕ → ℕ → Call → Reply → List Event
recorded_answer keys p call reply =
    Answer p (recorded_reply call reply) ∷ map (λ key. Answer (helper p key) replies.Done) (missed_keys keys call reply)

-- what is recorded of an event, given the last call of each process and the events that come later
abbrev pub recorded_event : ℕ → List ℕ → (ℕ → Call) → Event → List Event → List Event
recorded_event fresh keys last (Invoke p call) events = recorded_invocation fresh keys p call (answer_to_come p events)
recorded_event fresh keys last (Answer p reply) events = recorded_answer keys p (last p) reply

-- the last call of each process, after an event
abbrev pub last_after : (ℕ → Call) → Event → ℕ → Call
last_after last (Invoke p call) q = if p == q then call else last q
last_after last (Answer p reply) q = last q

-- what is recorded of events
abbrev pub recorded_events : ℕ → List ℕ → (ℕ → Call) → List Event → List Event
recorded_events fresh keys last [] = []
recorded_events fresh keys last (e ∷ events) =
    recorded_event fresh keys last e events ++ recorded_events fresh keys (last_after last e) events

-- the recording of a history. At first no process has a last call, and the function for it is never
-- asked
abbrev pub recording_of : ℕ → List ℕ → HistoryView → HistoryView
recording_of fresh keys history = record {
  start = history.start;
  events = recorded_events fresh keys (λ p. Get 0) history.events;
}
