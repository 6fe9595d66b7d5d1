-- Laws of the texts of histories.
use Rattle.events.specs.declared.fault.HistoryFault.TheVariants as faults
use Rattle.std.specs.Prelude.{◌≡◌, ◌≢◌, ℕ, List}
use Rattle.events.specs.declared.fault.HistoryFault.{HistoryFault}
use Rattle.events.specs.HistoryView.{HistoryView}
use Rattle.events.specs.Histories.{IsHistory}
use Rattle.history_text.specs.Texts.{Spells}
use Rattle.history_text.specs.TextFaults.{IsTextFault}

-- a text spells one history only
abbrev pub SpellsOneHistory : Type 0
SpellsOneHistory = (text : List ℕ) (a b : HistoryView) → Spells text a → Spells text b → a ≡ b

-- a text has only one fault, apart from out-of-memory, which may happen with any text
abbrev pub HasOneFault : Type 0
HasOneFault = (text : List ℕ) (f g : HistoryFault) → IsTextFault text f → IsTextFault text g → f ≢ faults.Memory → g ≢ faults.Memory → f ≡ g

-- a text with a fault spells no history
abbrev pub FaultySpellsNoHistory : Type 0
FaultySpellsNoHistory =
    (text : List ℕ) (f : HistoryFault) (history : HistoryView) → IsTextFault text f → f ≢ faults.Memory → Spells text history
    → IsHistory history → ⊥
