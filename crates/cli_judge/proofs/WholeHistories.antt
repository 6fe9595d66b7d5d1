-- The first bytes of the text of a history, one more than a text may have, decide all that is to be
-- known of the whole.
use Rattle.std.proofs.Common.{◌≡◌, ℕ, ◌+◌, ◌<◌, ◌≤◌, List, length, take, Option, refl, ap, subst, arith, length-take}
use Rattle.serde_json.specs.Data.{Data}
use Rattle.events.specs.HistoryView.{HistoryView}
use Rattle.events.specs.declared.fault.HistoryFault.{HistoryFault}
use Rattle.events.specs.declared.fault.HistoryFault.TheVariants as faults
use Rattle.history_text.specs.Limits.{text_limit}
use Rattle.history_text.specs.TextFaults.{IsTextFault}
use Rattle.judge.specs.declared.verdict.Verdict.{Verdict}
use Rattle.judge.specs.Judged.{IsJudged}
use Rattle.cli_outcome.specs.declared.outcome.Answer.{Answer}
use Rattle.cli_outcome.specs.declared.outcome.Answer.TheVariants.{Yes, No, Undecided}
use Rattle.cli_outcome.proofs.WholeText.{same_text}
use Rattle.cli_judge.specs.Refusals.{found_in, IsTextOfFound, IsFaultHint}
use Rattle.cli_judge.specs.Answers.{IsTextOf, IsHistoryRefusal, IsCheckAnswer, IsJudgeAnswer, IsHintedJudgeAnswer}

-- a history that the text read spells is the one of the whole
pub IsTextOf-whole : (text : List ℕ) (history : HistoryView) → IsTextOf (take (text_limit + 1) text) history → IsTextOf text history
IsTextOf-whole text history h = subst (λ (t : List ℕ). IsTextOf t history) (same_text text_limit text h.spelled.json.fits) h

-- a judgement of the text read is one of the whole
IsJudged-whole : (text : List ℕ) (budget : ℕ) (verdict : Verdict) (report : List ℕ)
    → IsJudged budget (take (text_limit + 1) text) verdict report
    → IsJudged budget text verdict report
IsJudged-whole text budget verdict report h = subst (λ (t : List ℕ). IsJudged budget t verdict report) (same_text text_limit text
    h.spelled.json.fits) h

whole : (text : List ℕ) (fault : HistoryFault) → length (take (text_limit + 1) text) ≤ text_limit
    → IsTextFault (take (text_limit + 1) text) fault
    → IsTextFault text fault
whole text fault fits h = subst (λ (t : List ℕ). IsTextFault t fault) (same_text text_limit text fits) h

-- a fault of the text read is one of the whole
IsTextFault-whole : (text : List ℕ) (fault : HistoryFault) → IsTextFault (take (text_limit + 1) text) fault → IsTextFault text fault
IsTextFault-whole text faults.TooLong h = let size =
    length-take (text_limit + 1) text in let long : text_limit < length (take (text_limit + 1) text) =
    h in omega (arith, size)
IsTextFault-whole text faults.NotJson h = whole text faults.NotJson h.0 h
IsTextFault-whole text faults.Version h = whole text faults.Version h.1.fits h
IsTextFault-whole text (faults.Shape place) h = whole text (faults.Shape place) h.1.fits h
IsTextFault-whole text faults.TooMany h = whole text faults.TooMany h.1.fits h
IsTextFault-whole text (faults.NotWellFormed place) h = whole text (faults.NotWellFormed place) h.1.fits h
IsTextFault-whole text (faults.Start pair) h = whole text (faults.Start pair) h.1.fits h
IsTextFault-whole text faults.Memory h = tt

-- what is at the place of a fault of the text read is there in the whole
found-whole : (text : List ℕ) (fault : HistoryFault) → IsTextFault (take (text_limit + 1) text) fault
    → found_in (take (text_limit + 1) text) fault ≡ found_in text fault
found-whole text faults.TooLong h = refl
found-whole text faults.NotJson h = refl
found-whole text faults.Version h = refl
found-whole text (faults.Shape place) h = ap (λ t. found_in t (faults.Shape place)) (same_text text_limit text h.1.fits)
found-whole text faults.TooMany h = refl
found-whole text (faults.NotWellFormed place) h = ap (λ t. found_in t (faults.NotWellFormed place)) (same_text text_limit text h.1.fits)
found-whole text (faults.Start pair) h = ap (λ t. found_in t (faults.Start pair)) (same_text text_limit text h.1.fits)
found-whole text faults.Memory h = refl

-- the hint on a fault of the text read is one on it in the whole
hint-whole : (text : List ℕ) (fault : HistoryFault) (found : Option (List ℕ)) (hint : List ℕ) → IsTextFault (take (text_limit + 1) text) fault
    → IsFaultHint (take (text_limit + 1) text) fault found hint → IsFaultHint text fault found hint
hint-whole text faults.TooLong found hint h is = is
hint-whole text faults.NotJson found hint h is =
    subst (λ (t : List ℕ). IsFaultHint t faults.NotJson found hint) (same_text text_limit text h.0) is
hint-whole text faults.Version found hint h is = is
hint-whole text (faults.Shape place) found hint h is = is
hint-whole text faults.TooMany found hint h is = is
hint-whole text (faults.NotWellFormed place) found hint h is = is
hint-whole text (faults.Start pair) found hint h is = is
hint-whole text faults.Memory found hint h is = is

-- a refusal of the text read is one of the whole
pub IsHistoryRefusal-whole : (text bytes hint : List ℕ) → IsHistoryRefusal (take (text_limit + 1) text) bytes hint
    → IsHistoryRefusal text bytes hint
IsHistoryRefusal-whole text bytes hint h = (
  h.0,
  record { refused = IsTextFault-whole text h.0 h.1.refused; not_memory = h.1.not_memory },
  (
    h.2.0,
    subst (λ (d : Option Data). IsTextOfFound d h.2.0) (found-whole text h.0 h.1.refused) h.2.1,
    h.2.2,
    hint-whole text h.0 h.2.0 hint h.1.refused h.2.3,
  ),
)

-- an answer of `check` to the text read is one to the whole
pub IsCheckAnswer-whole : (order text : List ℕ) (answer : Answer) (bytes : List ℕ)
    → IsCheckAnswer order (take (text_limit + 1) text) answer bytes
    → IsCheckAnswer order text answer bytes
IsCheckAnswer-whole order text Yes bytes h = ((h.0.0, IsTextOf-whole text h.0.0 h.0.1, h.0.2), h.1)
IsCheckAnswer-whole order text No bytes h = (
  h.0,
  record {
    history = h.1.history;
    is_text = IsTextOf-whole text h.1.history h.1.is_text;
    refused = h.1.refused;
    not_memory = h.1.not_memory;
  },
  h.2,
)
IsCheckAnswer-whole order text Undecided bytes h = h

-- an answer of `judge` to the text read is one to the whole
pub IsJudgeAnswer-whole : (budget : ℕ) (text : List ℕ) (answer : Answer) (bytes : List ℕ)
    → IsJudgeAnswer budget (take (text_limit + 1) text) answer bytes
    → IsJudgeAnswer budget text answer bytes
IsJudgeAnswer-whole budget text answer bytes h = record {
  verdict = h.verdict;
  report = h.report;
  judged = IsJudged-whole text budget h.verdict h.report h.judged;
  answer_is = h.answer_is;
  bytes_are = h.bytes_are;
}

pub IsHintedJudgeAnswer-whole : (budget : ℕ) (text : List ℕ) (answer : Answer) (bytes hint : List ℕ)
    → IsHintedJudgeAnswer budget (take (text_limit + 1) text) answer bytes hint
    → IsHintedJudgeAnswer budget text answer bytes hint
IsHintedJudgeAnswer-whole budget text answer bytes hint h = record {
  history = h.history;
  is_text = IsTextOf-whole text h.history h.is_text;
  answered = IsJudgeAnswer-whole budget text answer bytes h.answered;
  hint_is = h.hint_is;
}
