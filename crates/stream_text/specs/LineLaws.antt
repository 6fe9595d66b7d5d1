-- Laws of the lines of streams.
use Rattle.stream_text.specs.declared.line_fault.LineFault.TheVariants as faults
use Rattle.std.specs.Prelude.{◌≡◌, ◌≢◌, ℕ, List, ◌∷◌, Some}
use Rattle.events.specs.declared.event.Event.{Event}
use Rattle.history_text.specs.declared.version.TextVersion.{TextVersion}
use Rattle.stream_text.specs.declared.event.FirstLine.{FirstLine}
use Rattle.stream_text.specs.declared.line_fault.LineFault.{LineFault}
use Rattle.stream_text.specs.Lines.{SpellsEvent, SpellsFirst}
use Rattle.stream_text.specs.LineFaults.{IsEventLineFault, IsFirstLineFault}
use Rattle.stream_text.specs.Cuts.{lines_of, TakesLine}

-- a line spells only one event
abbrev pub SpellsOneEvent : Type 0
SpellsOneEvent = (version : TextVersion) (line : List ℕ) (a b : Event) → SpellsEvent version line a → SpellsEvent version line b → a ≡ b

-- a first line spells only one thing: starting pairs, or an event
abbrev pub SpellsOneFirst : Type 0
SpellsOneFirst = (line : List ℕ) (a b : FirstLine) → SpellsFirst line a → SpellsFirst line b → a ≡ b

-- a line has only one fault, apart from `Memory`
abbrev pub HasOneLineFault : Type 0
HasOneLineFault =
    (version : TextVersion) (line : List ℕ) (f g : LineFault) → IsEventLineFault version line f → IsEventLineFault version line g
    → f ≢ faults.Memory → g ≢ faults.Memory → f ≡ g

-- a first line has only one fault, apart from `Memory`
abbrev pub HasOneFirstFault : Type 0
HasOneFirstFault =
    (line : List ℕ) (f g : LineFault) → IsFirstLineFault line f → IsFirstLineFault line g → f ≢ faults.Memory → g ≢ faults.Memory → f ≡ g

-- a line with a fault spells no event
abbrev pub FaultySpellsNoEvent : Type 0
FaultySpellsNoEvent =
    (version : TextVersion) (line : List ℕ) (f : LineFault) (e : Event) → IsEventLineFault version line f → f ≢ faults.Memory
    → SpellsEvent version line e → ⊥

-- a first line with a fault spells nothing
abbrev pub FaultySpellsNoFirst : Type 0
FaultySpellsNoFirst = (line : List ℕ) (f : LineFault) (first : FirstLine) → IsFirstLineFault line f → f ≢ faults.Memory
    → SpellsFirst line first → ⊥

-- lines that are taken one after another are those of the bytes
abbrev pub TakesFirstLine : Type 0
TakesFirstLine = (bytes line rest : List ℕ) → TakesLine (Some bytes) line (Some rest) → lines_of bytes ≡ line ∷ lines_of rest
