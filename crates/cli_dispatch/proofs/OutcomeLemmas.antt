-- The outcome of what a line asks of a history or of a stream is an outcome of the words that ask for it.
use Rattle.std.proofs.Common.{List}
use Rattle.clap.specs.Words.{Text}
use Rattle.command_line.specs.declared.line.Line.{Line}
use Rattle.command_line.specs.declared.line.Line.TheVariants.{Check, Judge, Locate, Explain, Draw, Page, Follow, Generate, Schedule, Replay, Drive}
use Rattle.cli_outcome.specs.declared.outcome.CommandOutcome.{CommandOutcome}
use Rattle.cli_outcome.specs.Ends.{Change}
use Rattle.cli_judge.specs.Answers.{IsCheckAnswer, IsHistoryRefusal, IsHintedJudgeAnswer}
use Rattle.cli_explain.specs.LocationAnswers.{IsLocateAnswerWith}
use Rattle.cli_explain.specs.Answers.{IsExplainAnswer}
use Rattle.cli_draw.specs.Drawings.{IsViewAnswer}
use Rattle.cli_page.specs.Answers.{IsPageAnswer}
use Rattle.cli_follow.specs.Answers.{IsFollowAnswer, IsStreamRefusal}
use Rattle.cli_words.specs.Outcomes.{IsAskedOutcome, IsWordsOutcome}
use Rattle.cli_words.proofs.OutcomeLemmas.{read-words, hinted-words}
use Rattle.cli_dispatch.specs.Outcomes.{AsksForTrees, IsJudgeLineOutcome}

-- of any line that asks for neither a plan nor a tree
pub judged-words : (L : Line → Change → CommandOutcome → Type 0) (line : Line) (words : List Text) (source : Change) (outcome : CommandOutcome)
    → ¬ (AsksForTrees line) → (IsJudgeLineOutcome line source outcome → IsAskedOutcome L words source outcome)
    → IsJudgeLineOutcome line source outcome → IsWordsOutcome L words source outcome
judged-words L (Check order) words source outcome here ask comes =
    read-words L (IsCheckAnswer order.items) IsHistoryRefusal words source outcome ask comes
judged-words L (Judge budget workers) words source outcome here ask comes =
    hinted-words L (IsHintedJudgeAnswer budget) IsHistoryRefusal words source outcome ask comes
judged-words L (Locate budget order) words source outcome here ask comes =
    read-words L (IsLocateAnswerWith order budget) IsHistoryRefusal words source outcome ask comes
judged-words L (Explain budget) words source outcome here ask comes =
    read-words L (IsExplainAnswer budget) IsHistoryRefusal words source outcome ask comes
judged-words L (Draw budget workers around calls) words source outcome here ask comes =
    read-words L (IsViewAnswer budget (record { around = around; calls = calls })) IsHistoryRefusal words source outcome ask comes
judged-words L (Page budget workers) words source outcome here ask comes =
    read-words L (IsPageAnswer budget) IsHistoryRefusal words source outcome ask comes
judged-words L (Follow budget) words source outcome here ask comes =
    hinted-words L (IsFollowAnswer budget) IsStreamRefusal words source outcome ask comes
judged-words L (Generate seed processes calls get insert remove scan lo hi) words source outcome here ask comes = absurd (here tt)
judged-words L (Schedule asked) words source outcome here ask comes = absurd (here tt)
judged-words L Replay words source outcome here ask comes = absurd (here tt)
judged-words L (Drive asked) words source outcome here ask comes = absurd (here tt)
