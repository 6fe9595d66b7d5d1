-- A verdict that is answered with the line of its report, and with its hint, is an outcome of the text.
use Rattle.std.proofs.Common.{◌≡◌, ℕ, List, [], Some, ap, sym, ◌∙◌, string_bytes}
use Rattle.serde_json.specs.Written.{compact_text}
use Rattle.events.specs.HistoryView.{HistoryView}
use Rattle.events.specs.Operations.{operations}
use Rattle.judge.specs.declared.verdict.Verdict.{Verdict}
use Rattle.judge.specs.Exact.{IsExactVerdict}
use Rattle.judge.specs.Reports.{verdict_data}
use Rattle.judge.specs.Shown.{IsShown}
use Rattle.cli_outcome.specs.declared.outcome.Answer.{Answer}
use Rattle.cli_outcome.specs.declared.outcome.CommandOutcome.{CommandOutcome}
use Rattle.cli_outcome.specs.declared.outcome.CommandOutcome.TheVariants.{Answered, Noted, Refused, Memory, Words, Failed}
use Rattle.cli_outcome.specs.Lines.{line}
use Rattle.cli_outcome.specs.Hints.{verdict_hint}
use Rattle.cli_outcome.specs.HintedOutcomes.{IsHintedBy, IsHintedOutcome}
use Rattle.cli_judge.specs.Answers.{IsTextOf, IsHistoryRefusal, IsHintedJudgeAnswer, answer_of}

module _ (budget : ℕ) (text : List ℕ) (history : HistoryView) (verdict : Verdict) (report : List ℕ) (is_text : IsTextOf text history)
    (shown : IsShown history.start budget (operations history.events) verdict)
    (exact : IsExactVerdict history.start budget (operations history.events) verdict) (reported : report ≡ compact_text (verdict_data verdict)) where
  answered : (answer : Answer) (bytes hint : List ℕ) → answer ≡ answer_of verdict → bytes ≡ line report
      → hint ≡ verdict_hint (answer_of verdict) history.events → IsHintedJudgeAnswer budget text answer bytes hint
  answered answer bytes hint is bytes_are hint_is = record {
    history = history;
    is_text = is_text;
    answered = record {
      verdict = verdict;
      report = report;
      judged = record {
        history = history;
        spelled = is_text.spelled;
        is_history = is_text.is_history;
        shown = shown;
        exact = exact;
        reported = reported;
      };
      answer_is = is;
      bytes_are = bytes_are;
    };
    hint_is = hint_is ∙ ap (λ (a : Answer). verdict_hint a history.events) (sym is);
  }

  pub judged-hinted : (outcome : CommandOutcome) → IsHintedBy (answer_of verdict) (line report) (verdict_hint (answer_of verdict) history.events) outcome
      → IsHintedOutcome (IsHintedJudgeAnswer budget) IsHistoryRefusal (Some text) outcome
  judged-hinted (Answered answer bytes) h = answered answer (string_bytes bytes) [] h.0 h.1 (sym h.2)
  judged-hinted (Noted answer bytes note) h = answered answer (string_bytes bytes) (string_bytes note) h.0 h.1 h.2
  judged-hinted (Refused bytes hint) h = absurd h
  judged-hinted Memory h = tt
  judged-hinted (Words bytes) h = absurd h
  judged-hinted Failed h = absurd h
