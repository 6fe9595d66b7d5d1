-- What a line of a stream spells: an event, or at the head of a stream the pairs that it starts
-- with.
use Rattle.history_text.specs.declared.version.TextVersion.TheVariants as versions
use Rattle.std.specs.Prelude.{◌≡◌, ℕ, ◌<◌, ◌≤◌, List, length, map, codes, IsTrue}
use Rattle.serde_json.specs.Data.{Data}
use Rattle.events.specs.declared.event.Event.{Event}
use Rattle.events.specs.declared.event.Event.TheVariants as events
use Rattle.events.specs.Events.{process_of}
use Rattle.events.specs.Histories.{is_shaped}
use Rattle.events.specs.Starts.{KeysRise}
use Rattle.history_text.specs.declared.version.TextVersion.{TextVersion}
use Rattle.history_text.specs.Versions.{version_number, has_start}
use Rattle.history_text.specs.Texts.{number_data, list_data, pair_data, IsEventData, may_stand, IsJson}
use Rattle.history_text.specs.ValueFaults.{object_of_two}
use Rattle.stream_text.specs.LineLimits.{line_limit, number_limit}
use Rattle.stream_text.specs.declared.event.StreamEvent.{StreamEvent}
use Rattle.stream_text.specs.declared.event.StreamEvent.TheVariants.{Invoke, Answer}
use Rattle.stream_text.specs.declared.event.FirstLine.{FirstLine}
use Rattle.stream_text.specs.declared.event.FirstLine.TheVariants as first

-- the event of a list of events that an event of a stream is
abbrev pub as_event : StreamEvent → Event
as_event (Invoke process call) = events.Invoke process call
as_event (Answer process reply) = events.Answer process reply

-- a line that is not too long, in UTF-8, and JSON with this value
pub record IsLine (line : List ℕ) (d : Data) : Type 0 where
  pub short : length line ≤ line_limit
  pub json : IsJson line d

-- an event that a stream of a version may have: a scan has its ends in order, a replace needs
-- starting pairs, and a partial answer needs version 3
pub record MayStandIn (version : TextVersion) (e : Event) : Type 0 where
  pub shaped : IsTrue (is_shaped e)
  pub standing : IsTrue (may_stand version e)
  pub few : process_of e < number_limit

-- the line spells this event, as an item of the events of a history's text of that version does
pub record SpellsEvent (version : TextVersion) (line : List ℕ) (e : Event) : Type 0 where
  pub value : Data
  pub is_line : IsLine line value
  pub spelled : IsEventData version value e
  pub stands : MayStandIn version e

-- an object with exactly the members `start` and `version`
abbrev pub start_object : Data → Data → Data
start_object start named = object_of_two (codes "start") start (codes "version") named

-- the value is the number of a version whose streams have a start
abbrev pub NamesVersion : Data → TextVersion → Type 0
NamesVersion named version = IsTrue (has_start version) × (named ≡ number_data (version_number version))

-- the value of starting pairs, of a stream of a version
abbrev pub start_line_data : TextVersion → List (ℕ × ℕ) → Data
start_line_data version pairs = start_object (list_data (map pair_data pairs)) (number_data (version_number version))

-- the line spells these starting pairs, and this version
pub record SpellsStart (version : TextVersion) (line : List ℕ) (pairs : List (ℕ × ℕ)) : Type 0 where
  pub starts : IsTrue (has_start version)
  pub value : IsLine line (start_line_data version pairs)
  pub rising : KeysRise pairs

-- the value of a first line is that of starting pairs by rising key, or of an event of a stream
-- without
abbrev pub IsFirstOf : Data → FirstLine → Type 0
IsFirstOf d (first.Start version pairs) = IsTrue (has_start version) × (d ≡ start_line_data version pairs) × KeysRise pairs
IsFirstOf d (first.Event e) = IsEventData versions.One d (as_event e) × MayStandIn versions.One (as_event e)

-- what the first line of a stream spells: starting pairs, or an event of a stream without, which is
-- of version 1
abbrev pub SpellsFirst : List ℕ → FirstLine → Type 0
SpellsFirst line (first.Start version pairs) = SpellsStart version line pairs
SpellsFirst line (first.Event e) = SpellsEvent versions.One line (as_event e)
