-- What a history is here: well-formed events (Herlihy and Wing 1990, section 2) within limits that
-- are this program's own.
use Rattle.events.specs.declared.event.Reply.TheVariants as replies
use Rattle.std.specs.Prelude.{ℕ, ◌≤◌, Bool, true, ◌&&◌, IsTrue, nat_lt, nat_le, List, length, count_by}
use Rattle.std.specs.List.{list_all}
use Rattle.events.specs.declared.event.Call.{Call}
use Rattle.events.specs.declared.event.Call.TheVariants.{Get, Insert, Remove, Scan, Replace}
use Rattle.events.specs.declared.event.Reply.{Reply}
use Rattle.events.specs.declared.event.Event.{Event}
use Rattle.events.specs.declared.event.Event.TheVariants.{Invoke, Answer}
use Rattle.events.specs.Limits.{process_limit, call_limit, pair_limit}
use Rattle.events.specs.Events.{is_invocation, IsWellFormed}
use Rattle.events.specs.HistoryView.{HistoryView}
use Rattle.events.specs.Starts.{IsStart}

-- whether a scan's first key is not above its last
abbrev pub has_range : Call → Bool
has_range (Get key) = true
has_range (Insert key value) = true
has_range (Remove key) = true
has_range (Scan low high) = nat_le low high
has_range (Replace key old new) = true

-- how many pairs a reply lists
abbrev pub pair_count : Reply → ℕ
pair_count replies.None = 0
pair_count (replies.Some value) = 0
pair_count (replies.Pairs pairs) = length pairs
pair_count replies.Refused = 0
pair_count replies.Done = 0
pair_count replies.Found = 0
pair_count replies.Other = 0

-- whether an event has a range if it needs one
abbrev pub is_shaped : Event → Bool
is_shaped (Invoke p call) = has_range call
is_shaped (Answer p reply) = true

-- whether an event's process and pairs are within the limits
abbrev pub is_small : Event → Bool
is_small (Invoke p call) = nat_lt p process_limit
is_small (Answer p reply) = nat_lt p process_limit && nat_le (pair_count reply) pair_limit

-- how many calls are invoked
abbrev pub call_count : List Event → ℕ
call_count events = count_by is_invocation events

-- the events of a history
pub record AreHistoryEvents (events : List Event) : Type 0 where
  pub shaped : IsTrue (list_all is_shaped events)
  pub small : IsTrue (list_all is_small events)
  pub calls : call_count events ≤ call_limit
  pub well_formed : IsWellFormed events

-- a history: pairs that a history may start with, and events of a history
pub record IsHistory (history : HistoryView) : Type 0 where
  pub start : IsStart history.start
  pub events : AreHistoryEvents history.events
