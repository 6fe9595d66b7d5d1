-- The text of a history: JSON whose value has its starting pairs and its events, in one of three
-- versions.
use Rattle.events.specs.declared.event.Reply.TheVariants as replies
use Rattle.history_text.specs.declared.version.TextVersion.TheVariants.{One, Two, Three}
use Rattle.std.specs.Prelude.{◌≡◌, ◌⊎◌, ⊤, ℕ, ◌≤◌, Bool, ◌||◌, not, if◌then◌else◌, List, [], ◌∷◌, length, map, Option, Some, None}
use Rattle.std.specs.Prelude.{is_some, codes, IsTrue}
use Rattle.std.specs.List.{list_all}
use Rattle.std.specs.Str.{IsUtf8}
use Rattle.serde_json.specs.Data.{unsigned, Data, null, number, string, array, object, no_members, member}
use Rattle.serde_json.specs.Read.{read}
use Rattle.serde_json.specs.View.{items_of}
use Rattle.events.specs.declared.event.Call.{Call}
use Rattle.events.specs.declared.event.Call.TheVariants.{Get, Insert, Remove, Scan, Replace}
use Rattle.events.specs.declared.event.Reply.{Reply}
use Rattle.events.specs.declared.event.Event.{Event}
use Rattle.events.specs.declared.event.Event.TheVariants.{Invoke, Answer}
use Rattle.events.specs.HistoryView.{HistoryView}
use Rattle.events.specs.PlainHistories.{is_replace, is_plain}
use Rattle.events.specs.Told.{is_complete, are_complete}
use Rattle.history_text.specs.declared.version.TextVersion.{TextVersion}
use Rattle.history_text.specs.Limits.{text_limit}
use Rattle.history_text.specs.Versions.{version_number, has_start, may_be_partial, has_notes}

-- ---- the values that JSON gives them

abbrev pub number_data : ℕ → Data
number_data n = number (unsigned n)

abbrev pub list_data : List Data → Data
list_data items = array (items_of items)

abbrev pub pair_data : ℕ × ℕ → Data
pair_data pair = list_data (number_data pair.0 ∷ number_data pair.1 ∷ [])

abbrev pub call_data : Call → Data
call_data (Get key) = list_data (string (codes "get") ∷ number_data key ∷ [])
call_data (Insert key value) = list_data (string (codes "insert") ∷ number_data key ∷ number_data value ∷ [])
call_data (Remove key) = list_data (string (codes "remove") ∷ number_data key ∷ [])
call_data (Scan low high) = list_data (string (codes "scan") ∷ number_data low ∷ number_data high ∷ [])
call_data (Replace key old new) = list_data (string (codes "replace") ∷ number_data key ∷ number_data old ∷ number_data new ∷ [])

abbrev pub reply_data : Reply → Data
reply_data replies.None = null
reply_data (replies.Some value) = number_data value
reply_data (replies.Pairs pairs) = list_data (map pair_data pairs)
reply_data replies.Refused = string (codes "refused")
reply_data replies.Done = string (codes "done")
reply_data replies.Found = string (codes "found")
reply_data replies.Other = string (codes "other")

abbrev pub event_data : Event → Data
event_data (Invoke p call) = object (member (codes "invoke") (call_data call) (member (codes "process") (number_data p) no_members))
event_data (Answer p reply) = object (member (codes "answer") (reply_data reply) (member (codes "process") (number_data p) no_members))

-- the value of an event with a note; the note says nothing of the event
abbrev pub noted_data : Data → Event → Data
noted_data note (Invoke p call) =
    object (member (codes "invoke") (call_data call) (member (codes "note") note (member (codes "process") (number_data p) no_members)))
noted_data note (Answer p reply) =
    object (member (codes "answer") (reply_data reply) (member (codes "note") note (member (codes "process") (number_data p) no_members)))

-- the value spells this event in a text of a version: without a note, or from version 3 on with a
-- note, which may be any value
abbrev pub IsEventData : TextVersion → Data → Event → Type 0
IsEventData version d e = (d ≡ event_data e) ⊎ (IsTrue (has_notes version) × (note : Data) × (d ≡ noted_data note e))

-- values that spell items one by one, in the same order
abbrev pub AreSpelled : {A : Type 0} → (Data → A → Type 0) → List Data → List A → Type 0
AreSpelled IsSpelled [] [] = ⊤
AreSpelled IsSpelled [] (x ∷ xs) = ⊥
AreSpelled IsSpelled (d ∷ ds) [] = ⊥
AreSpelled IsSpelled (d ∷ ds) (x ∷ xs) = IsSpelled d x × AreSpelled IsSpelled ds xs

-- the values spell these events in a text of a version
abbrev pub SpellEvents : TextVersion → List Data → List Event → Type 0
SpellEvents version items events = AreSpelled (IsEventData version) items events

-- whether an event may be in a text of a version: a replace only in a version with a start, a
-- partial answer only in version 3
abbrev pub may_stand : TextVersion → Event → Bool
may_stand version (Invoke p call) = has_start version || not (is_replace call)
may_stand version (Answer p reply) = may_be_partial version || is_complete reply

-- the value of a whole text, with these items for its events, and these for its start if it has one
abbrev pub document : TextVersion → Option (List Data) → List Data → Data
document version None items =
    object (member (codes "events") (list_data items) (member (codes "version") (number_data (version_number version)) no_members))
document version (Some start) items =
    object (member (codes "events") (list_data items)
    (member (codes "start") (list_data start) (member (codes "version") (number_data (version_number version)) no_members)))

-- the value is that of a whole text of a version, which has a start or has none
abbrev pub IsDocument : TextVersion → Option (List Data) → List Data → Data → Type 0
IsDocument version start items d = (is_some start ≡ has_start version) × (d ≡ document version start items)

-- the items of starting pairs, if a text has a start
abbrev pub start_data : Option (List (ℕ × ℕ)) → Option (List Data)
start_data None = None
start_data (Some pairs) = Some (map pair_data pairs)

-- the starting pairs; none if a text has no start
abbrev pub start_pairs : Option (List (ℕ × ℕ)) → List (ℕ × ℕ)
start_pairs None = []
start_pairs (Some pairs) = pairs

-- the lowest version that can represent a history
abbrev pub least_version : HistoryView → TextVersion
least_version history = if is_plain history then One else if are_complete history.events then Two else Three

-- the items of the start of a written history; none in a version without a start
abbrev pub written_start : TextVersion → List (ℕ × ℕ) → Option (List Data)
written_start version pairs = if has_start version then Some (map pair_data pairs) else None

-- the value that is written for a history: in the lowest version that can represent it, without
-- notes
abbrev pub history_data : HistoryView → Data
history_data history = document (least_version history) (written_start (least_version history) history.start) (map event_data history.events)

-- ---- texts

-- a text that is not too long, in UTF-8, and JSON with this value
pub record IsJson (text : List ℕ) (d : Data) : Type 0 where
  pub fits : length text ≤ text_limit
  pub utf8 : IsUtf8 text
  pub value : read text ≡ Some d

-- the value of a text spells this history: its items spell the starting pairs and the events, and
-- its version may have these events
pub record SpellsAs (d : Data) (history : HistoryView) : Type 0 where
  pub version : TextVersion
  pub start : Option (List (ℕ × ℕ))
  pub items : List Data
  pub value : IsDocument version (start_data start) items d
  pub starts : history.start ≡ start_pairs start
  pub spelled : SpellEvents version items history.events
  pub standing : IsTrue (list_all (may_stand version) history.events)

-- the text spells this history
pub record Spells (text : List ℕ) (history : HistoryView) : Type 0 where
  pub value : Data
  pub json : IsJson text value
  pub spelled : SpellsAs value history
