-- What `page` answers to the text of a history at a budget.
use Rattle.std.specs.Prelude.{◌≡◌, ℕ, List, [], Option, Some, None, string_bytes}
use Rattle.cli_outcome.specs.declared.outcome.Answer.{Answer}
use Rattle.cli_outcome.specs.declared.outcome.CommandOutcome.{CommandOutcome}
use Rattle.cli_outcome.specs.declared.outcome.CommandOutcome.TheVariants.{Answered, Noted, Refused, Memory, Words, Failed}
use Rattle.cli_judge.specs.Answers.{IsJudgeAnswer}
use Rattle.cli_explain.specs.LocationAnswers.{IsLocateAnswer, IsOrderAnswer}
use Rattle.cli_explain.specs.Answers.{IsExplainAnswer}
use Rattle.page_html.specs.Pages.{page_text}

-- what an outcome prints on standard output, with its answer
abbrev pub printed : CommandOutcome → Option (Answer × List ℕ)
printed (Answered answer line) = Some (answer, string_bytes line)
printed (Noted answer line note) = Some (answer, string_bytes line)
printed (Refused line hint) = None
printed Memory = None
printed (Words line) = None
printed Failed = None

-- `locate` prints this of the text at the budget, whatever it answers
abbrev pub IsLocatedText : ℕ → List ℕ → List ℕ → Type 0
IsLocatedText budget text located = (answer : Answer) × IsLocateAnswer budget text answer located

-- `explain` prints this of it
abbrev pub IsExplainedText : ℕ → List ℕ → List ℕ → Type 0
IsExplainedText budget text explained = (answer : Answer) × IsExplainAnswer budget text answer explained

-- what is shown of what `locate --order` prints: nothing without an order
abbrev pub shown_order : Option (List ℕ) → List ℕ → List ℕ
shown_order None printed = []
shown_order (Some order) printed = printed

-- this is what is shown of what `locate --order` prints of the text at the budget, whatever it answers
pub record IsOrderedText (budget : ℕ) (text shown : List ℕ) : Type 0 where
  pub order : Option (List ℕ)
  pub answer : Answer
  pub printed : List ℕ
  pub is_printed : IsOrderAnswer budget text order answer printed
  pub shown_is : shown ≡ shown_order order printed

-- What `page` answers to the text at the budget: the answer of `judge`, and the page of the text. The page has what `judge`, `locate` and
-- `explain` print of the text, and what `locate --order` prints if that has an order.
pub record IsPageAnswer (budget : ℕ) (text : List ℕ) (answer : Answer) (bytes : List ℕ) : Type 0 where
  pub judged : List ℕ
  pub located : List ℕ
  pub explained : List ℕ
  pub ordered : List ℕ
  pub is_judged : IsJudgeAnswer budget text answer judged
  pub is_located : IsLocatedText budget text located
  pub is_explained : IsExplainedText budget text explained
  pub is_ordered : IsOrderedText budget text ordered
  pub bytes_are : bytes ≡ page_text text judged located explained ordered
