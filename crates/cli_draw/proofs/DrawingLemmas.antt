-- What is drawn is an outcome of the text, and an answer to the text that was read is one to the whole.
use Rattle.std.proofs.Common.{ℕ, ◌+◌, List, take, ◌≡◌, Some, Result, Ok, Err, IfOk, MatchResult, String, Global, string_bytes, subst, sym}
use Rattle.events.specs.HistoryView.{HistoryView}
use Rattle.history_text.specs.Limits.{text_limit}
use Rattle.cli_outcome.specs.declared.outcome.Answer.{Answer}
use Rattle.cli_outcome.specs.declared.outcome.CommandOutcome.{CommandOutcome}
use Rattle.cli_outcome.specs.declared.outcome.CommandOutcome.TheVariants.{Answered, Memory}
use Rattle.cli_outcome.specs.Lines.{line}
use Rattle.cli_outcome.specs.Outcomes.{IsTextOutcome}
use Rattle.cli_judge.specs.Answers.{IsHistoryRefusal, IsTextOf}
use Rattle.cli_judge.proofs.WholeHistories.{IsTextOf-whole}
use Rattle.draw_picture.specs.declared.picture.View.{View}
use Rattle.cli_draw.specs.Drawings.{IsViewAnswer, IsDrawing}

-- a drawing that is answered with a line feed after it is an outcome of the text
pub IsTextOutcome-drawn : {E : Type 0} (budget : ℕ) (view : View) (text : List ℕ) (history : HistoryView) (answer : Answer)
    (drawing : List ℕ) (full : Result (String Global) E) (outcome : CommandOutcome) → IsTextOf text history
    → IsDrawing budget view history answer drawing → IfOk full (λ f. string_bytes f ≡ line drawing)
    → MatchResult full (λ f. outcome ≡ Answered answer f) (λ _. outcome ≡ Memory)
    → IsTextOutcome (IsViewAnswer budget view) IsHistoryRefusal (Some text) outcome
IsTextOutcome-drawn budget view text history answer drawing (Ok f) outcome is_text is full answered =
    subst (IsTextOutcome (IsViewAnswer budget view) IsHistoryRefusal (Some text)) (sym answered)
    (record { history = history; drawing = drawing; is_text = is_text; is_drawing = is; bytes_are = full })
IsTextOutcome-drawn budget view text history answer drawing (Err e) outcome is_text is full answered =
    subst (IsTextOutcome (IsViewAnswer budget view) IsHistoryRefusal (Some text)) (sym answered) tt

-- an answer to the text that was read is one to the whole
pub IsViewAnswer-whole : (budget : ℕ) (view : View) (text : List ℕ) (answer : Answer) (bytes : List ℕ)
    → IsViewAnswer budget view (take (text_limit + 1) text) answer bytes
    → IsViewAnswer budget view text answer bytes
IsViewAnswer-whole budget view text answer bytes h = record {
  history = h.history;
  drawing = h.drawing;
  is_text = IsTextOf-whole text h.history h.is_text;
  is_drawing = h.is_drawing;
  bytes_are = h.bytes_are;
}
