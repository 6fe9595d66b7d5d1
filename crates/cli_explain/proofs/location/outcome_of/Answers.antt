use Rattle.cli_explain.proofs.Common.{◌≡◌, ℕ, List, Some, Result, Ok, Err, IfOk, MatchResult, String, Global, string_bytes, subst, sym, HistoryView}
use Rattle.cli_explain.proofs.Common.{location_data, Location, line, IsTextOutcome, Answer, CommandOutcome, Answered, Memory, compact_text}
use Rattle.cli_explain.proofs.Common.{IsHistoryRefusal, IsTextOf, answer_of_location, IsLocateAnswer}
use Rattle.explain_locate.specs.Locations.{IsLocated}
use Rattle.cli_explain.proofs.location.outcome_of.Goals as goal

-- a location that is answered with the line of its report is an outcome of the text
IsTextOutcome-located : {E : Type 0} (budget : ℕ) (text : List ℕ) (history : HistoryView) (location : Location) (report : List ℕ) (answer : Answer)
    (full : Result (String Global) E) (outcome : CommandOutcome) → IsTextOf text history → IsLocated budget history location
    → report ≡ compact_text (location_data location) → answer ≡ answer_of_location location → IfOk full (λ f. string_bytes f ≡ line report)
    → MatchResult full (λ f. outcome ≡ Answered answer f) (λ _. outcome ≡ Memory)
    → IsTextOutcome (IsLocateAnswer budget) IsHistoryRefusal (Some text) outcome
IsTextOutcome-located budget text history location report answer (Ok f) outcome is_text located report_is answer_is full answered =
    subst (IsTextOutcome (IsLocateAnswer budget) IsHistoryRefusal (Some text)) (sym answered)
    (record {
      history = history;
      location = location;
      is_text = is_text;
      located = located;
      answer_is = answer_is;
      bytes_are = subst (λ (r : List ℕ). string_bytes f ≡ line r) report_is full;
    })
IsTextOutcome-located budget text history location report answer (Err e) outcome is_text located report_is answer_is full answered =
    subst (IsTextOutcome (IsLocateAnswer budget) IsHistoryRefusal (Some text)) (sym answered) tt

pub returns-in-Ok-location_line : goal.returns-in-Ok-location_line
returns-in-Ok-location_line c budget text history is_text located =
    IsTextOutcome-located budget text history c.in-Ok.location (string_bytes c.in-Ok-location_line.report) c.answer_of.result c.line_of.result
    c.from_answer.result is_text (rw c.in-Ok.is at located) c.in-Ok-location_line.ensures c.answer_of.ensures c.line_of.ensures c.from_answer.ensures
