-- The outcome of a run, by the command line and the text on the source.
use Rattle.std.specs.Prelude.{List}
use Rattle.clap.specs.Words.{Text}
use Rattle.cli_outcome.specs.declared.outcome.CommandOutcome.{CommandOutcome}
use Rattle.cli_outcome.specs.Ends.{Change}
use Rattle.cli_words.specs.Outcomes.{IsPartOutcome}
use Rattle.cli_dispatch.specs.Outcomes.{AsksForTrees, IsJudgeLineOutcome, no_trees_line}

-- the outcome of a run with this command line
abbrev pub IsJudgeWordsOutcome : List Text → Change → CommandOutcome → Type 0
IsJudgeWordsOutcome words source outcome = IsPartOutcome IsJudgeLineOutcome AsksForTrees no_trees_line words source outcome
