-- What `locate` answers to the text of a history.
use Rattle.std.specs.Prelude.{◌≡◌, ℕ, Bool, true, false, List, Option, is_some}
use Rattle.serde_json.specs.Written.{compact_text}
use Rattle.events.specs.HistoryView.{HistoryView}
use Rattle.explain_locate.specs.declared.location.Location.{Location}
use Rattle.explain_locate.specs.declared.location.Location.TheVariants as locations
use Rattle.explain_locate.specs.FirstOrders.{IsOrdered}
use Rattle.explain_locate.specs.Locations.{IsLocated}
use Rattle.explain_locate.specs.Reports.{found_data, location_data}
use Rattle.cli_outcome.specs.declared.outcome.Answer.{Answer}
use Rattle.cli_outcome.specs.declared.outcome.Answer.TheVariants.{Yes, No, Undecided}
use Rattle.cli_outcome.specs.Lines.{line}
use Rattle.cli_judge.specs.Answers.{IsTextOf}

-- the answer that a location is
abbrev pub answer_of_location : Location → Answer
answer_of_location locations.Yes = Yes
answer_of_location (locations.No event number) = No
answer_of_location (locations.Lost loss) = No
answer_of_location (locations.Undecided event number) = Undecided

-- `locate` answers the text at the budget so: with the report of a location of its history
pub record IsLocateAnswer (budget : ℕ) (text : List ℕ) (answer : Answer) (bytes : List ℕ) : Type 0 where
  pub history : HistoryView
  pub location : Location
  pub is_text : IsTextOf text history
  pub located : IsLocated budget history location
  pub answer_is : answer ≡ answer_of_location location
  pub bytes_are : bytes ≡ line (compact_text (location_data location))

-- `locate --order` answers the text at the budget so: with the report of a location of its history, and of the order that is found of the
-- events before
pub record IsOrderAnswer (budget : ℕ) (text : List ℕ) (order : Option (List ℕ)) (answer : Answer) (bytes : List ℕ) : Type 0 where
  pub history : HistoryView
  pub location : Location
  pub is_text : IsTextOf text history
  pub ordered : IsOrdered budget history location order
  pub answer_is : answer ≡ answer_of_location location
  pub bytes_are : bytes ≡ line (compact_text (found_data location order))

-- the answer of the engine, whether an order is found or not
abbrev pub IsFoundAnswer : ℕ → Bool → List ℕ → Answer → List ℕ → Type 0
IsFoundAnswer budget is_found text answer bytes = (order : Option (List ℕ)) × (is_found ≡ is_some order) × IsOrderAnswer budget text order answer bytes

-- with whatever is found
abbrev pub IsLocateOrderAnswer : ℕ → List ℕ → Answer → List ℕ → Type 0
IsLocateOrderAnswer budget text answer bytes = (order : Option (List ℕ)) × IsOrderAnswer budget text order answer bytes

-- `locate` answers so, with `--order` or without
abbrev pub IsLocateAnswerWith : Bool → ℕ → List ℕ → Answer → List ℕ → Type 0
IsLocateAnswerWith false = IsLocateAnswer
IsLocateAnswerWith true = IsLocateOrderAnswer
