-- What holds for the text that was read holds for the whole; and what holds of a history where it was answered holds for its text.
use Rattle.std.proofs.Common.{◌+◌, List, ℕ, take, subst}
use Rattle.std.specs.Prelude.{Result, OnOk, IsOk}
use Rattle.history_text.specs.Limits.{text_limit}
use Rattle.events.specs.Histories.{IsHistory}
use Rattle.events.specs.HistoryView.{HistoryView}
use Rattle.history_text.specs.Texts.{Spells}
use Rattle.judge.specs.Gates.{HoldsForText}
use Rattle.cli_outcome.specs.declared.outcome.CommandOutcome.{CommandOutcome}
use Rattle.cli_outcome.specs.Outcomes.{OnAnswered}
use Rattle.cli_outcome.proofs.Reading.{OnAnswered-map, ok-holds}
use Rattle.cli_outcome.proofs.WholeText.{same_text}

module _ (Holds : HistoryView → Type 0) where
  pub held-whole : (text : List ℕ) → HoldsForText Holds (take (text_limit + 1) text) → HoldsForText Holds text
  held-whole text h = subst (HoldsForText Holds) (same_text text_limit text h.spelled.json.fits) h

  -- What holds of a history holds of its text, if an answer came of an Ok.
  pub held-text : {T E : Type 0} (text : List ℕ) (history : HistoryView) (found : Result T E) (outcome : CommandOutcome) → Spells text history
      → IsHistory history → OnOk found (Holds history) → OnAnswered outcome (IsOk found)
      → OnAnswered outcome (HoldsForText Holds text)
  held-text text history found outcome spelled is_history held answered =
      OnAnswered-map (IsOk found) (HoldsForText Holds text) outcome
      (λ is. record { history = history; spelled = spelled; is_history = is_history; holds = ok-holds (Holds history) found held is })
      answered
