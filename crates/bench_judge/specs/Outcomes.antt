-- The outcome of a run, by the command line and the text on the source.
use Rattle.std.specs.Prelude.{⊤, ℕ, List, codes}
use Rattle.clap.specs.Words.{Text}
use Rattle.command_line.specs.declared.line.Line.{Line}
use Rattle.command_line.specs.declared.line.Line.TheVariants.{Check, Judge}
use Rattle.cli_outcome.specs.declared.outcome.CommandOutcome.{CommandOutcome}
use Rattle.cli_outcome.specs.Ends.{Change}
use Rattle.cli_outcome.specs.Lines.{line}
use Rattle.cli_judge.specs.Outcomes.{IsCheckOutcome, IsJudgeOutcome}
use Rattle.cli_words.specs.Outcomes.{IsPartOutcome}

-- the outcome of what a line asks of a history; other lines have none
abbrev pub IsHistoryLineOutcome : Line → Change → CommandOutcome → Type 0
IsHistoryLineOutcome (Check order) source outcome = IsCheckOutcome order.items source outcome
IsHistoryLineOutcome (Judge budget workers) source outcome = IsJudgeOutcome budget source outcome
IsHistoryLineOutcome other source outcome = ⊥

-- a line that asks for something other than `check` and `judge`
abbrev pub IsUnsupported : Line → Type 0
IsUnsupported (Check order) = ⊥
IsUnsupported (Judge budget workers) = ⊥
IsUnsupported other = ⊤

-- the answer to such a line
abbrev pub unsupported_line : List ℕ
unsupported_line = line (codes "error: this program checks and judges alone")

-- the outcome of a run with this command line
abbrev pub IsHistoryWordsOutcome : List Text → Change → CommandOutcome → Type 0
IsHistoryWordsOutcome words source outcome = IsPartOutcome IsHistoryLineOutcome IsUnsupported unsupported_line words source outcome
