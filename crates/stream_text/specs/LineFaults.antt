-- The first fault of a line that spells nothing that it may.
use Rattle.stream_text.specs.declared.line_fault.LineFault.TheVariants as faults
use Rattle.std.specs.Prelude.{◌≡◌, ◌⊎◌, ℕ, ◌<◌, ◌≤◌, false, List, ◌∷◌, ◌++◌, length, map, Some, IsTrue, ⊤}
use Rattle.std.specs.Str.{IsUtf8}
use Rattle.serde_json.specs.Data.{Data}
use Rattle.serde_json.specs.Read.{read}
use Rattle.events.specs.declared.event.Event.{Event}
use Rattle.events.specs.Events.{process_of}
use Rattle.events.specs.Histories.{is_shaped}
use Rattle.events.specs.HistoryFaults.{is_above}
use Rattle.events.specs.Starts.{KeysRise}
use Rattle.history_text.specs.declared.version.TextVersion.TheVariants as versions
use Rattle.history_text.specs.declared.version.TextVersion.{TextVersion}
use Rattle.history_text.specs.Texts.{list_data, pair_data, IsEventData, may_stand}
use Rattle.history_text.specs.TextFaults.{SpellsNoEvent}
use Rattle.stream_text.specs.LineLimits.{line_limit, number_limit}
use Rattle.stream_text.specs.Lines.{IsLine, start_object, NamesVersion}
use Rattle.stream_text.specs.declared.line_fault.LineFault.{LineFault}

-- ---- of the bytes alone

-- the line is too long, or otherwise is not JSON in UTF-8; or memory ran out
abbrev pub IsByteFault : List ℕ → LineFault → Type 0
IsByteFault line faults.TooLong = line_limit < length line
IsByteFault line faults.NotJson = (length line ≤ line_limit) × ((d : Data) → IsUtf8 line → read line ≡ Some d → ⊥)
IsByteFault line faults.Memory = ⊤
IsByteFault line fault = ⊥

-- ---- of the value of an event

-- the value does not have the form of an event, or otherwise its process number is too large; or
-- memory ran out
abbrev pub IsEventFault : TextVersion → Data → LineFault → Type 0
IsEventFault version d faults.Shape = SpellsNoEvent version d
IsEventFault version d faults.TooMany =
    (e : Event) × IsEventData version d e × IsTrue (is_shaped e) × IsTrue (may_stand version e) × (number_limit ≤ process_of e)
IsEventFault version d faults.Memory = ⊤
IsEventFault version d fault = ⊥

-- ---- of the value of starting pairs

-- the pairs begin with some by rising key, and the value after them is not a pair with a key above
-- theirs
pub record ShowsPairFault (items : List Data) (place : ℕ) : Type 0 where
  pub before : List (ℕ × ℕ)
  pub next : Data
  pub rest : List Data
  pub parts : items ≡ map pair_data before ++ next ∷ rest
  pub rising : KeysRise before
  pub here : length before ≡ place
  pub shows : (pair : ℕ × ℕ) → next ≡ pair_data pair → is_above before pair.0 ≡ false

-- why values spell no starting pairs: the first faulty one; or memory ran out
abbrev pub IsPairFault : List Data → LineFault → Type 0
IsPairFault items (faults.Start place) = ShowsPairFault items place
IsPairFault items faults.Memory = ⊤
IsPairFault items fault = ⊥

-- the members are not an array and the number of a version with a start, or otherwise a pair is
-- faulty; or memory ran out
abbrev pub IsStartFault : Data → Data → LineFault → Type 0
IsStartFault start named faults.Version = (items : List Data) (version : TextVersion) → start ≡ list_data items
    → NamesVersion named version → ⊥
IsStartFault start named (faults.Start place) =
    (items : List Data) × (version : TextVersion) × (start ≡ list_data items) × NamesVersion named version × ShowsPairFault items place
IsStartFault start named faults.Memory = ⊤
IsStartFault start named fault = ⊥

-- ---- of a first value, which is that of starting pairs if its members say so

abbrev pub IsFirstFault : Data → LineFault → Type 0
IsFirstFault d fault =
    ((start named : Data) × (d ≡ start_object start named) × IsStartFault start named fault)
    ⊎ (((start named : Data) → d ≡ start_object start named → ⊥) × IsEventFault versions.One d fault)

-- ---- of lines

-- a fault of the bytes, or of the value that they have
abbrev pub IsLineFault : (Data → LineFault → Type 0) → List ℕ → LineFault → Type 0
IsLineFault IsValueFault line fault = IsByteFault line fault ⊎ ((d : Data) × IsLine line d × IsValueFault d fault)

-- why a line spells no event, and why a first line spells nothing
abbrev pub IsEventLineFault : TextVersion → List ℕ → LineFault → Type 0
IsEventLineFault version line fault = IsLineFault (IsEventFault version) line fault

abbrev pub IsFirstLineFault : List ℕ → LineFault → Type 0
IsFirstLineFault line fault = IsLineFault IsFirstFault line fault
