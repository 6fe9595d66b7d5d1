-- A law of the place that a fault names.
use Rattle.std.specs.Prelude.{◌≡◌, ⊤, ℕ, List, Some}
use Rattle.serde_json.specs.Data.{Data}
use Rattle.events.specs.declared.fault.HistoryFault.{HistoryFault}
use Rattle.events.specs.declared.fault.HistoryFault.TheVariants as histories
use Rattle.history_text.specs.TextFaults.{IsTextFault}
use Rattle.cli_judge.specs.Refusals.{found_in}

-- the fault of an event, or of a starting pair
abbrev pub NamesPlace : HistoryFault → Type 0
NamesPlace (histories.Shape event) = ⊤
NamesPlace (histories.NotWellFormed event) = ⊤
NamesPlace (histories.Start pair) = ⊤
NamesPlace fault = ⊥

-- the first fault of a text names an event or a pair that the text has
abbrev pub FaultsAreFound : Type 0
FaultsAreFound =
    (text : List ℕ) (fault : HistoryFault) → IsTextFault text fault → NamesPlace fault → (d : Data) × (found_in text fault ≡ Some d)
