-- The first fault of a text that spells no history.
use Rattle.events.specs.declared.fault.HistoryFault.TheVariants as faults
use Rattle.std.specs.Prelude.{◌≡◌, ◌⊎◌, ℕ, ◌<◌, ◌≤◌, false, List, ◌∷◌, ◌++◌, length, map, Option, Some, IsTrue, ⊤}
use Rattle.std.specs.List.{list_all}
use Rattle.serde_json.specs.Data.{Data}
use Rattle.events.specs.declared.event.Event.{Event}
use Rattle.events.specs.declared.fault.HistoryFault.{HistoryFault}
use Rattle.events.specs.Limits.{start_limit}
use Rattle.events.specs.Starts.{IsStart}
use Rattle.events.specs.Histories.{is_shaped, AreHistoryEvents}
use Rattle.events.specs.HistoryFaults.{is_above, fault_after}
use Rattle.history_text.specs.JsonFaults.{IsTooLong, IsNoJson}
use Rattle.history_text.specs.Texts.{pair_data, IsEventData, SpellEvents, IsDocument, start_data, start_pairs, may_stand, IsJson}
use Rattle.history_text.specs.declared.version.TextVersion.{TextVersion}

-- ---- starting pairs

-- the fault of the value that follows these pairs: it is one too many, or it spells no pair with a
-- key above theirs
abbrev pub IsPairFaultAfter : List (ℕ × ℕ) → Data → HistoryFault → Type 0
IsPairFaultAfter before d fault =
    ((fault ≡ faults.TooMany) × (start_limit ≤ length before))
    ⊎ ((fault ≡ faults.Start (length before)) × (length before < start_limit)
    × ((pair : ℕ × ℕ) → d ≡ pair_data pair → is_above before pair.0 ≡ false))

-- the start begins with pairs that a history may start with, and the next value shows the fault,
-- whatever the events are
pub record ShowsPairFault (d : Data) (fault : HistoryFault) : Type 0 where
  pub version : TextVersion
  pub before : List (ℕ × ℕ)
  pub next : Data
  pub rest : List Data
  pub events : List Data
  pub parts : IsDocument version (Some (map pair_data before ++ next ∷ rest)) events d
  pub start : IsStart before
  pub shows : IsPairFaultAfter before next fault

-- ---- events

-- the value spells no event that may be in a text of this version and has a range if it needs one
abbrev pub SpellsNoEvent : TextVersion → Data → Type 0
SpellsNoEvent version d = (e : Event) → IsEventData version d e → IsTrue (is_shaped e) → IsTrue (may_stand version e) → ⊥

-- the fault of the value that follows these events: it spells no event, or an event with a fault
abbrev pub IsFaultAfter : TextVersion → List Event → Data → HistoryFault → Type 0
IsFaultAfter version before d fault =
    ((fault ≡ faults.Shape (length before)) × SpellsNoEvent version d)
    ⊎ ((e : Event) × IsEventData version d e × IsTrue (may_stand version e) × (fault_after before e ≡ Some fault))

-- events of a history that may be in a text of a version
pub record AreEventsOfText (version : TextVersion) (events : List Event) : Type 0 where
  pub history : AreHistoryEvents events
  pub standing : IsTrue (list_all (may_stand version) events)

-- the start has no fault, the first items spell events of a history, and the next item shows the
-- fault
pub record ShowsEventFault (d : Data) (fault : HistoryFault) : Type 0 where
  pub version : TextVersion
  pub start : Option (List (ℕ × ℕ))
  pub first : List Data
  pub before : List Event
  pub next : Data
  pub rest : List Data
  pub parts : IsDocument version (start_data start) (first ++ next ∷ rest) d
  pub is_start : IsStart (start_pairs start)
  pub spelled : SpellEvents version first before
  pub events : AreEventsOfText version before
  pub shows : IsFaultAfter version before next fault

-- ---- the whole text

-- the fault of the value of a text: of its top level, then of its first faulty pair, then of its
-- first faulty event; or memory ran out
abbrev pub IsDocumentFault : Data → HistoryFault → Type 0
IsDocumentFault d faults.TooLong = ⊥
IsDocumentFault d faults.NotJson = ⊥
IsDocumentFault d faults.Version = (version : TextVersion) (start : Option (List Data)) (events : List Data)
    → IsDocument version start events d → ⊥
IsDocumentFault d faults.Memory = ⊤
IsDocumentFault d fault = ShowsPairFault d fault ⊎ ShowsEventFault d fault

-- why a text was refused: it is too long, then it is not JSON, then its value has a fault
abbrev pub IsTextFault : List ℕ → HistoryFault → Type 0
IsTextFault text faults.TooLong = IsTooLong text
IsTextFault text faults.NotJson = IsNoJson text
IsTextFault text faults.Memory = ⊤
IsTextFault text fault = (d : Data) × IsJson text d × IsDocumentFault d fault
