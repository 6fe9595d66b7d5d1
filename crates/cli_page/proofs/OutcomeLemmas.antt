-- The page of a text that was judged is an outcome of it.
use Rattle.std.proofs.Common.{◌≡◌, ℕ, Bool, List, Some, Result, Ok, Err, IfOk, MatchResult, IsUtf8, String, Global, Bor, ap, sym, subst, ◌∙◌}
use Rattle.std.specs.Prelude.{string_bytes}
use Rattle.std.proofs.lemmas.Option.{same_Some}
use Rattle.cli_outcome.specs.declared.outcome.Answer.{Answer}
use Rattle.cli_outcome.specs.declared.outcome.CommandOutcome.{CommandOutcome}
use Rattle.cli_outcome.specs.declared.outcome.CommandOutcome.TheVariants.{Answered, Noted, Refused, Memory, Words, Failed}
use Rattle.cli_outcome.specs.Outcomes.{IsTextOutcome}
use Rattle.cli_judge.specs.Answers.{IsHistoryRefusal, IsJudgeAnswer}
use Rattle.cli_page.specs.Answers.{IsExplainedText, IsLocatedText, IsOrderedText, IsPageAnswer, printed}
use Rattle.cli_explain.specs.LocationAnswers.{IsFoundAnswer}
use Rattle.page_html.specs.Pages.{page_text}

-- what was read as UTF-8 is as it was
pub utf8-same : {E : Type 0} (r : Result (Bor (List ℕ)) E) (s : Bor (List ℕ)) (bytes : List ℕ) (IsFault : E → Type 0)
    → MatchResult r (λ s. (s.now ≡ bytes) × IsUtf8 bytes) IsFault → r ≡ Ok s → s.now ≡ bytes
utf8-same {E = E} r s bytes IsFault cases is =
    (subst (λ (r : Result (Bor (List ℕ)) E). MatchResult r (λ s. (s.now ≡ bytes) × IsUtf8 bytes) IsFault) is cases).0

-- the page of a text that was judged
pub page-made : {E : Type 0} (budget : ℕ) (history text judged located explained ordered : List ℕ) (answer : Answer)
    (page : Result (String Global) E) (outcome : CommandOutcome) → history ≡ text → IsJudgeAnswer budget text answer judged
    → IsLocatedText budget text located → IsExplainedText budget text explained → IsOrderedText budget text ordered
    → IfOk page (λ p. string_bytes p ≡ page_text history judged located explained ordered)
    → MatchResult page (λ p. outcome ≡ Answered answer p) (λ _. outcome ≡ Memory)
    → IsTextOutcome (IsPageAnswer budget) IsHistoryRefusal (Some text) outcome
page-made budget history text judged located explained ordered answer (Ok p) outcome same is_judged is_located is_explained is_ordered is answered =
    subst (IsTextOutcome (IsPageAnswer budget) IsHistoryRefusal (Some text)) (sym answered)
    (record {
      judged = judged;
      located = located;
      explained = explained;
      ordered = ordered;
      is_judged = is_judged;
      is_located = is_located;
      is_explained = is_explained;
      is_ordered = is_ordered;
      bytes_are = is ∙ ap (λ (t : List ℕ). page_text t judged located explained ordered) same;
    })
page-made budget history text judged located explained ordered answer (Err e) outcome same is_judged is_located is_explained is_ordered is answered =
    subst (IsTextOutcome (IsPageAnswer budget) IsHistoryRefusal (Some text)) (sym answered) tt

-- an answer with an order, or without, is what is printed of it
pub found-printed : (budget : ℕ) (is_found : Bool) (text : List ℕ) (answer : Answer) (bytes : List ℕ) (outcome : CommandOutcome)
    → Some (answer, bytes) ≡ printed outcome → IsTextOutcome (IsFoundAnswer budget is_found) IsHistoryRefusal (Some text) outcome
    → IsFoundAnswer budget is_found text answer bytes
found-printed budget is_found text answer bytes (Answered a line) is found =
    subst (λ (p : Answer × List ℕ). IsFoundAnswer budget is_found text p.0 p.1) (sym (same_Some _ _ is)) found
found-printed budget is_found text answer bytes (Noted a line note) is found = absurd found
found-printed budget is_found text answer bytes (Refused line hint) is found = cc
found-printed budget is_found text answer bytes Memory is found = cc
found-printed budget is_found text answer bytes (Words line) is found = absurd found
found-printed budget is_found text answer bytes Failed is found = absurd found
