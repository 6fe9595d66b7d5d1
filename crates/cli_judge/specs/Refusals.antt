-- The report on a text that spells no history: its first fault, what is at that place, and what was
-- expected.
use Rattle.std.specs.Prelude.{◌≡◌, ◌≢◌, ◌⊎◌, ⊤, ℕ, ◌==◌, if◌then◌else◌, false, List, [], ◌∷◌, Option, Some, None, option_and_then, codes}
use Rattle.std.specs.Prelude.{string_bytes}
use Rattle.serde_json.specs.Data.{Data}
use Rattle.serde_json.specs.Find.{get, at}
use Rattle.serde_json.specs.Read.{read}
use Rattle.serde_json.specs.Written.{compact_text, has_float, IsInOrder}
use Rattle.events.specs.declared.fault.HistoryFault.{HistoryFault}
use Rattle.events.specs.declared.fault.HistoryFault.TheVariants as histories
use Rattle.stream_text.specs.Cuts.{line_feed}
use Rattle.stream_text.specs.Lines.{SpellsFirst}
use Rattle.stream_text.specs.declared.event.FirstLine.{FirstLine}
use Rattle.cli_outcome.specs.declared.outcome.CommandOutcome.{CommandOutcome}
use Rattle.cli_outcome.specs.declared.outcome.CommandOutcome.TheVariants.{Refused, Memory}
use Rattle.cli_outcome.specs.Lines.{history_fault_line}
use Rattle.cli_outcome.specs.Found.{found_hint}
use Rattle.cli_outcome.specs.Wanted.{history_expected, expected_hint}

-- the item at a place of the array that is this member of a value
abbrev pub item_of : List ℕ → ℕ → Data → Option Data
item_of name place d = option_and_then (at place) (get name d)

-- the item at a place of such an array in a text
abbrev pub item_in : List ℕ → ℕ → List ℕ → Option Data
item_in name place text = option_and_then (item_of name place) (read text)

-- the value in a text at the place that a fault names
abbrev pub found_in : List ℕ → HistoryFault → Option Data
found_in text (histories.Shape event) = item_in (codes "events") event text
found_in text (histories.NotWellFormed event) = item_in (codes "events") event text
found_in text (histories.Start pair) = item_in (codes "start") pair text
found_in text histories.TooLong = None
found_in text histories.NotJson = None
found_in text histories.Version = None
found_in text histories.TooMany = None
found_in text histories.Memory = None

-- the text of a value: its members and items each once and in order, without spaces. How the digits
-- of a float are written is left open
pub record IsTextOfValue (d : Data) (text : List ℕ) : Type 0 where
  pub compact : has_float d ≡ false → text ≡ compact_text d
  pub in_order : IsInOrder text d

-- the text of a value, if there is one
abbrev pub IsTextOfFound : Option Data → Option (List ℕ) → Type 0
IsTextOfFound None None = ⊤
IsTextOfFound (Some d) (Some text) = IsTextOfValue d text
IsTextOfFound found text = ⊥

-- the bytes before the first line feed, or all if there is none
abbrev pub first_line : List ℕ → List ℕ
first_line [] = []
first_line (byte ∷ bytes) = if byte == line_feed then [] else byte ∷ first_line bytes

-- a stream may begin with the first line of a text: it spells an event, or starting pairs
abbrev pub BeginsStream : List ℕ → Type 0
BeginsStream text = (first : FirstLine) × SpellsFirst (first_line text) first

-- what was expected in place of a text that begins as a stream
abbrev pub stream_elsewhere : List ℕ
stream_elsewhere = codes "JSON in UTF-8; bench follow reads streams of events"

-- the hint on a fault: what is at its place, if that is known, and what was expected
abbrev pub fault_hint : HistoryFault → Option (List ℕ) → List ℕ
fault_hint fault None = expected_hint (history_expected fault)
fault_hint fault (Some text) = found_hint text (history_expected fault)

-- the hint on a fault of a text; if the text is not JSON and begins as a stream, the hint names the
-- subcommand that reads streams
abbrev pub IsFaultHint : List ℕ → HistoryFault → Option (List ℕ) → List ℕ → Type 0
IsFaultHint text histories.NotJson found hint =
    (BeginsStream text × (hint ≡ expected_hint stream_elsewhere))
    ⊎ ((BeginsStream text → ⊥) × (hint ≡ fault_hint histories.NotJson found))
IsFaultHint text fault found hint = hint ≡ fault_hint fault found

-- the line of this fault in a text, and the hint on it
abbrev pub IsToldFault : List ℕ → HistoryFault → List ℕ → List ℕ → Type 0
IsToldFault text fault bytes hint = (found : Option (List ℕ)) × IsTextOfFound (found_in text fault) found
    × (bytes ≡ history_fault_line fault) × IsFaultHint text fault found hint

-- the outcome of a text with this fault
abbrev pub IsRefusedText : List ℕ → HistoryFault → CommandOutcome → Type 0
IsRefusedText text fault (Refused bytes hint) = (fault ≢ histories.Memory) × IsToldFault text fault (string_bytes bytes) (string_bytes hint)
IsRefusedText text fault Memory = ⊤
IsRefusedText text fault outcome = ⊥
