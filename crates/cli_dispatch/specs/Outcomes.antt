-- How a run comes out, for what a line asks of a history or of a stream.
use Rattle.std.specs.Prelude.{⊤, ℕ, List, codes}
use Rattle.command_line.specs.declared.line.Line.{Line}
use Rattle.command_line.specs.declared.line.Line.TheVariants.{Check, Judge, Locate, Explain, Draw, Page, Follow}
use Rattle.cli_outcome.specs.declared.outcome.CommandOutcome.{CommandOutcome}
use Rattle.cli_outcome.specs.Ends.{Change, IsUnused}
use Rattle.cli_outcome.specs.Lines.{line}
use Rattle.cli_judge.specs.Outcomes.{IsCheckOutcome, IsJudgeOutcome}
use Rattle.cli_explain.specs.LocationOutcomes.{IsLocateOutcome}
use Rattle.cli_explain.specs.Outcomes.{IsExplainOutcome}
use Rattle.cli_draw.specs.Outcomes.{IsDrawOutcome}
use Rattle.cli_page.specs.Outcomes.{IsPageOutcome}
use Rattle.cli_follow.specs.Outcomes.{IsFollowOutcome}
use Rattle.cli_words.specs.Outcomes.{IsUnsupportedOutcome}

-- a line that asks for a plan or a tree
abbrev pub AsksForTrees : Line → Type 0
AsksForTrees (Check order) = ⊥
AsksForTrees (Judge budget workers) = ⊥
AsksForTrees (Locate budget order) = ⊥
AsksForTrees (Explain budget) = ⊥
AsksForTrees (Draw budget workers around calls) = ⊥
AsksForTrees (Page budget workers) = ⊥
AsksForTrees (Follow budget) = ⊥
AsksForTrees other = ⊤

-- what is reported for such a line
abbrev pub no_trees_line : List ℕ
no_trees_line = line (codes "error: this program has no plans and no trees")

-- The outcome of what a line asks of a history or of a stream, whatever the number of workers. For
-- any other line it is reported that this program does not do that.
abbrev pub IsJudgeLineOutcome : Line → Change → CommandOutcome → Type 0
IsJudgeLineOutcome (Check order) source outcome = IsCheckOutcome order.items source outcome
IsJudgeLineOutcome (Judge budget workers) source outcome = IsJudgeOutcome budget source outcome
IsJudgeLineOutcome (Locate budget order) source outcome = IsLocateOutcome budget order source outcome
IsJudgeLineOutcome (Explain budget) source outcome = IsExplainOutcome budget source outcome
IsJudgeLineOutcome (Draw budget workers around calls) source outcome =
    IsDrawOutcome budget (record { around = around; calls = calls }) source outcome
IsJudgeLineOutcome (Page budget workers) source outcome = IsPageOutcome budget source outcome
IsJudgeLineOutcome (Follow budget) source outcome = IsFollowOutcome budget source outcome
IsJudgeLineOutcome other source outcome = IsUnused source × IsUnsupportedOutcome no_trees_line outcome
