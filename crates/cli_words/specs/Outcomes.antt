-- The outcome of a run, for the words of the command line and the text on the source.
use Rattle.std.specs.Prelude.{◌≡◌, ⊤, ◌⊎◌, ℕ, List, string_bytes}
use Rattle.clap.specs.Words.{Text}
use Rattle.command_line.specs.declared.line.Line.{Line}
use Rattle.command_line.specs.declared.fault.LineFault.TheVariants as words_faults
use Rattle.command_line.specs.Lines.{IsLineOf}
use Rattle.command_line.specs.WordsFaults.{IsAccepted, IsFaultAt}
use Rattle.cli_outcome.specs.declared.outcome.CommandOutcome.{CommandOutcome}
use Rattle.cli_outcome.specs.declared.outcome.CommandOutcome.TheVariants.{Memory, Words}
use Rattle.cli_outcome.specs.Ends.{Change, IsSound, IsUnused}

-- the outcome of words that ask for no line: they have a fault, with this text; or memory ran out
abbrev pub IsFaultOutcome : List Text → CommandOutcome → Type 0
IsFaultOutcome words (Words text) = IsFaultAt words (words_faults.Line text)
IsFaultOutcome words Memory = ⊤
IsFaultOutcome words outcome = ⊥

-- the words ask for a line, which has this outcome
pub record IsAskedOutcome (IsLineOutcome : Line → Change → CommandOutcome → Type 0) (words : List Text) (source : Change) (outcome : CommandOutcome)
    : Type 0 where
  pub line : Line
  pub accepted : IsAccepted words
  pub asked : IsLineOf words line
  pub comes : IsLineOutcome line source outcome

-- the outcome of a run with these words: what they ask for, or the fault that they have; memory may
-- run out in reading them, or in doing what they ask
abbrev pub IsWordsOutcome : (Line → Change → CommandOutcome → Type 0) → List Text → Change → CommandOutcome → Type 0
IsWordsOutcome IsLineOutcome words source (Words text) = IsFaultAt words (words_faults.Line text) × IsSound source
IsWordsOutcome IsLineOutcome words source Memory = IsSound source
IsWordsOutcome IsLineOutcome words source outcome = IsAskedOutcome IsLineOutcome words source outcome

-- the outcome of a line that a part of the program does not do: it prints this text, or memory ran
-- out
abbrev pub IsUnsupportedOutcome : List ℕ → CommandOutcome → Type 0
IsUnsupportedOutcome text (Words written) = string_bytes written ≡ text
IsUnsupportedOutcome text Memory = ⊤
IsUnsupportedOutcome text outcome = ⊥

-- the words ask for such a line, and nothing is read
pub record AsksUnsupported (IsUnsupported : Line → Type 0) (text : List ℕ) (words : List Text) (source : Change) (outcome : CommandOutcome)
    : Type 0 where
  pub line : Line
  pub accepted : IsAccepted words
  pub asked : IsLineOf words line
  pub other : IsUnsupported line
  pub comes : IsUnsupportedOutcome text outcome
  pub unused : IsUnused source

-- The outcome of a run of a part of the program with these words: what they ask for; or the fault
-- that they have; or that they ask for what the part does not do.
abbrev pub IsPartOutcome : (Line → Change → CommandOutcome → Type 0) → (Line → Type 0) → List ℕ → List Text → Change → CommandOutcome → Type 0
IsPartOutcome IsLineOutcome IsUnsupported text words source outcome =
    IsWordsOutcome IsLineOutcome words source outcome ⊎ AsksUnsupported IsUnsupported text words source outcome
