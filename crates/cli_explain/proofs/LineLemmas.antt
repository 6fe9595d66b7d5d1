-- A few calls in a line each, with the lines of the values that come from outside of them and those of a history with them.
use Rattle.cli_explain.proofs.Common.{◌≡◌, ℕ, List, ◌++◌, ap, ◌∙◌, append_assoc, subst, HistoryView, Operation, Contents, rows, AreHistoryLines}
use Rattle.cli_explain.proofs.Common.{AreOriginLines, AreFew, AreFewLines}
use Rattle.explain_shrink.specs.declared.explanation.Explanation.{Explanation}
use Rattle.explain_shrink.specs.Explained.{IsExplanation}

-- calls in a line each, with the lines of the values that come from outside, and that of a history with these
pub few_from : (budget : ℕ) (history : HistoryView) (start : Contents) (few : Explanation) (first outside small more bytes : List ℕ)
    → first ≡ rows history few.calls.items few.reasons.items
    → AreOriginLines history start few.calls.items outside
    → AreHistoryLines budget start few.calls.items small → more ≡ first ++ outside → bytes ≡ more ++ small
    → AreFewLines budget history start few bytes
few_from budget history start few first outside small more bytes is origins shown before both = record {
  outside = outside;
  origins = origins;
  small = small;
  shown = shown;
  bytes_are =
      both ∙ (ap (λ (l : List ℕ). l ++ small) before
      ∙ (append_assoc first outside small ∙ ap (λ (l : List ℕ). l ++ (outside ++ small)) is));
}

-- a few calls that explain some, with their lines
pub few_of : (budget : ℕ) (history : HistoryView) (start here there : Contents) (calls those : List Operation) (few : Explanation)
    (text : List ℕ) → here ≡ start → those ≡ calls → there ≡ start → IsExplanation here those budget few
    → AreFewLines budget history there few text → AreFew budget history start calls text
few_of budget history start here there calls those few text first second third explains lines = record {
  few = few;
  explains = subst (λ (m : Contents). IsExplanation m calls budget few) first
      (subst (λ (l : List Operation). IsExplanation here l budget few) second explains);
  lines = subst (λ (m : Contents). AreFewLines budget history m few text) third lines;
}
