-- The faults of values that should spell pairs or events.
use Rattle.events.specs.declared.fault.HistoryFault.TheVariants as faults
use Rattle.std.specs.Prelude.{◌≡◌, ◌⊎◌, ℕ, ◌<◌, ◌≤◌, false, List, ◌∷◌, ◌++◌, map, codes, IsTrue, ⊤}
use Rattle.serde_json.specs.Data.{Data, object, no_members, member}
use Rattle.events.specs.declared.event.Event.{Event}
use Rattle.events.specs.declared.fault.HistoryFault.{HistoryFault}
use Rattle.events.specs.Limits.{start_limit}
use Rattle.events.specs.Starts.{IsStart}
use Rattle.events.specs.Histories.{is_shaped, is_small}
use Rattle.history_text.specs.declared.version.TextVersion.{TextVersion}
use Rattle.history_text.specs.Versions.{has_notes}
use Rattle.history_text.specs.Texts.{pair_data, IsEventData, SpellEvents, may_stand}
use Rattle.history_text.specs.TextFaults.{IsPairFaultAfter, SpellsNoEvent, IsFaultAfter, AreEventsOfText}

-- an object of two members, and of three
abbrev pub object_of_two : List ℕ → Data → List ℕ → Data → Data
object_of_two k d l e = object (member k d (member l e no_members))

abbrev pub object_of_three : List ℕ → Data → List ℕ → Data → List ℕ → Data → Data
object_of_three k d l e m f = object (member k d (member l e (member m f no_members)))

-- an invocation, by the values of its call and its process
abbrev pub invocation_data : Data → Data → Data
invocation_data call process = object_of_two (codes "invoke") call (codes "process") process

-- a response, by the values of its reply and its process
abbrev pub response_data : Data → Data → Data
response_data reply process = object_of_two (codes "answer") reply (codes "process") process

-- the value of an event: what was done, under its name, and the process. In a text whose events may
-- have notes it may have a note too
abbrev pub IsTurnData : TextVersion → List ℕ → Data → Data → Data → Type 0
IsTurnData version name done process d =
    (d ≡ object_of_two name done (codes "process") process)
    ⊎ (IsTrue (has_notes version) × (note : Data) × (d ≡ object_of_three name done (codes "note") note (codes "process") process))

-- why a value at a place was refused, whatever comes before it: it spells no event, or an event
-- above a limit
abbrev pub IsValueFault : TextVersion → ℕ → Data → HistoryFault → Type 0
IsValueFault version place d (faults.Shape at) = (at ≡ place) × SpellsNoEvent version d
IsValueFault version place d faults.TooMany =
    (e : Event) × IsEventData version d e × IsTrue (is_shaped e) × (is_small e ≡ false) × IsTrue (may_stand version e)
IsValueFault version place d faults.Memory = ⊤
IsValueFault version place d fault = ⊥

-- why a value at a place of a start was refused, whatever comes before it: it is one too many, or
-- it spells no pair
abbrev pub IsPairValueFault : ℕ → Data → HistoryFault → Type 0
IsPairValueFault place d (faults.Start at) = (at ≡ place) × (place < start_limit) × ((pair : ℕ × ℕ) → d ≡ pair_data pair → ⊥)
IsPairValueFault place d faults.TooMany = start_limit ≤ place
IsPairValueFault place d fault = ⊥

-- the values begin with pairs that a history may start with, and the next value shows the fault
pub record ShowsPairFaultAmong (items : List Data) (fault : HistoryFault) : Type 0 where
  pub before : List (ℕ × ℕ)
  pub next : Data
  pub rest : List Data
  pub parts : items ≡ map pair_data before ++ next ∷ rest
  pub start : IsStart before
  pub shows : IsPairFaultAfter before next fault

-- why a list of values was refused as a start: for its first faulty value, unless memory ran out
abbrev pub IsPairFaultAmong : List Data → HistoryFault → Type 0
IsPairFaultAmong items faults.Memory = ⊤
IsPairFaultAmong items fault = ShowsPairFaultAmong items fault

-- the first values spell events of a history, and the next value shows the fault
pub record ShowsFaultAmong (version : TextVersion) (items : List Data) (fault : HistoryFault) : Type 0 where
  pub first : List Data
  pub before : List Event
  pub next : Data
  pub rest : List Data
  pub parts : items ≡ first ++ next ∷ rest
  pub spelled : SpellEvents version first before
  pub events : AreEventsOfText version before
  pub shows : IsFaultAfter version before next fault

-- why a list of values was refused as events: for its first faulty value, unless memory ran out
abbrev pub IsFaultAmong : TextVersion → List Data → HistoryFault → Type 0
IsFaultAmong version items faults.TooLong = ⊥
IsFaultAmong version items faults.NotJson = ⊥
IsFaultAmong version items faults.Version = ⊥
IsFaultAmong version items faults.Memory = ⊤
IsFaultAmong version items (faults.Start at) = ⊥
IsFaultAmong version items fault = ShowsFaultAmong version items fault
