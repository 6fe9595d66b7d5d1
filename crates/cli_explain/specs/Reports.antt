-- The lines of an explanation: JSON, with members by rising bytes.
use Rattle.std.specs.Prelude.{ℕ, ◌==◌, ◌&&◌, Bool, if◌then◌else◌, List, [], ◌∷◌, ◌++◌, Option, Some, None, is_some, codes, slice_get, map}
use Rattle.std.specs.List.{list_any}
use Rattle.std.specs.Option.{option_map_or}
use Rattle.serde_json.specs.Data.{Data, Members, string, object, no_members, member, put}
use Rattle.serde_json.specs.Written.{compact_text}
use Rattle.events.specs.declared.event.Event.{Event}
use Rattle.events.specs.declared.operation.Operation.{Operation}
use Rattle.events.specs.declared.operation.Response.{Response}
use Rattle.events.specs.Events.{process_of}
use Rattle.events.specs.HistoryView.{HistoryView}
use Rattle.events.specs.Operations.{operations}
use Rattle.history_text.specs.Texts.{number_data, call_data, reply_data, list_data}
use Rattle.cli_outcome.specs.Lines.{line}
use Rattle.explain_reads_from.specs.declared.missing.Missed.{Missed}
use Rattle.explain_reads_from.specs.Missed.{missed_writes, missed_of}
use Rattle.explain_shrink.specs.declared.explanation.Reason.{Reason}
use Rattle.explain_shrink.specs.declared.explanation.Reason.TheVariants.{Order, Spent, Held}

-- the answer of a call among a few: the reply, or a word if it has none there
abbrev pub answer_data : Option Response → Data
answer_data None = string (codes "open")
answer_data (Some response) = reply_data response.reply

-- whether the call that was invoked at a place was answered
abbrev pub was_answered : List Operation → ℕ → Bool
was_answered calls place = list_any (λ a. a.inv == place && is_some a.response) calls

-- the answer of a call as far as it counts: the reply, or a word if none counts. The word says
-- whether the call was open, or its answer is left out
abbrev pub kept_data : Bool → Option Response → Data
kept_data answered None = string (if answered then codes "left out" else codes "open")
kept_data answered (Some response) = reply_data response.reply

-- the process of the event at a place, or 0 if there is none
abbrev pub process_at : List Event → ℕ → ℕ
process_at events place = option_map_or process_of (slice_get events place) 0

-- why a call stays, in a word
abbrev pub reason_word : Reason → List ℕ
reason_word (Order order) = codes "order"
reason_word Spent = codes "spent"
reason_word Held = codes "held"

-- a call that another misses: what was called, and the event of its invocation with its process
abbrev pub missed_data : List Event → Missed → Data
missed_data events m =
    object (member (codes "call") (call_data m.call) (member (codes "event") (number_data m.event)
    (member (codes "process") (number_data (process_at events m.event)) no_members)))

-- members, with one more for the calls that one misses, if it misses any
abbrev pub with_missed : List Event → List Missed → Members → Members
with_missed events [] members = members
with_missed events (m ∷ missed) members = put (codes "misses") (list_data (map (missed_data events) (m ∷ missed))) members

-- a call of a history that stays: the answer that counts, what was called, the event of its
-- invocation, the calls that it misses, its process, and why it stays
abbrev pub missing_line_data : HistoryView → Operation → List Missed → Reason → Data
missing_line_data history a missed reason =
    object (with_missed history.events missed (
    member (codes "answer") (kept_data (was_answered (operations history.events) a.inv) a.response)
    (member (codes "call") (call_data a.call) (member (codes "event") (number_data a.inv)
    (member (codes "process") (number_data (process_at history.events a.inv))
    (member (codes "reason") (string (reason_word reason)) no_members))))))

-- a call of a history that stays, with all calls of the history that it misses
abbrev pub call_line_data : HistoryView → Operation → Reason → Data
call_line_data history a reason = missing_line_data history a (map missed_of (missed_writes a (operations history.events))) reason

-- a line for each call, with its reason
abbrev pub rows : HistoryView → List Operation → List Reason → List ℕ
rows history [] reasons = []
rows history (a ∷ calls) [] = []
rows history (a ∷ calls) (reason ∷ reasons) = line (compact_text (call_line_data history a reason)) ++ rows history calls reasons
