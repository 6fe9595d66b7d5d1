use Rattle.cli_explain.proofs.Common.{◌≡◌, ℕ, Bool, List, Option, None, Some, option_map, refl, Result, Ok, Err, IfOk, MatchResult, String, Global}
use Rattle.cli_explain.proofs.Common.{string_bytes, subst, sym, HistoryView, found_data, Location, line, IsTextOutcome, Answer, CommandOutcome}
use Rattle.cli_explain.proofs.Common.{Answered, Memory, compact_text, IsHistoryRefusal, IsTextOf, answer_of_location, IsFoundAnswer}
use Rattle.std.proofs.Common.{is_some}
use Rattle.explain_locate.specs.FirstOrders.{IsOrdered, order_of}
use Rattle.cli_explain.proofs.location.outcome_of_ordered.Goals as goal

-- there is a value if there is one that it is made of
is_some-map : {A B : Type 0} (f : A → B) (o : Option A) → is_some o ≡ is_some (option_map f o)
is_some-map f None = refl
is_some-map f (Some a) = refl

-- a location that is answered with the line of its report and of its order is an outcome of the text
IsTextOutcome-ordered : {E : Type 0} (budget : ℕ) (text : List ℕ) (history : HistoryView) (location : Location) (order : Option (List ℕ))
    (is_found : Bool) (report : List ℕ) (answer : Answer) (full : Result (String Global) E) (outcome : CommandOutcome) → IsTextOf text history
    → IsOrdered budget history location order → is_found ≡ is_some order → report ≡ compact_text (found_data location order)
    → answer ≡ answer_of_location location → IfOk full (λ f. string_bytes f ≡ line report)
    → MatchResult full (λ f. outcome ≡ Answered answer f) (λ _. outcome ≡ Memory)
    → IsTextOutcome (IsFoundAnswer budget is_found) IsHistoryRefusal (Some text) outcome
IsTextOutcome-ordered budget text history location order is_found report answer (Ok f) outcome is_text ordered found_is report_is answer_is full answered =
    subst (IsTextOutcome (IsFoundAnswer budget is_found) IsHistoryRefusal (Some text)) (sym answered) (
      order,
      found_is,
      record {
        history = history;
        location = location;
        is_text = is_text;
        ordered = ordered;
        answer_is = answer_is;
        bytes_are = subst (λ (r : List ℕ). string_bytes f ≡ line r) report_is full;
      },
    )
IsTextOutcome-ordered budget text history location order is_found report answer (Err e) outcome is_text ordered found_is report_is answer_is full answered =
    subst (IsTextOutcome (IsFoundAnswer budget is_found) IsHistoryRefusal (Some text)) (sym answered) tt

pub returns-in-Ok : goal.returns-in-Ok
returns-in-Ok c budget text history is_text ordered =
    IsTextOutcome-ordered budget text history c.args.ordered.now.location (order_of c.args.ordered.now) (is_some c.args.ordered.now.order)
    (string_bytes c.in-Ok.report) c.answer_of.result c.line_of.result c.from_answer.result is_text ordered
    (is_some-map _ c.args.ordered.now.order) c.in-Ok.ensures c.answer_of.ensures c.line_of.ensures c.from_answer.ensures
