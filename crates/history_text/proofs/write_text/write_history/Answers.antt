-- The value has no float and nests five deep, so it has a text that reads as it.
use Rattle.history_text.proofs.Common.{◌≡◌, ◌≤◌, Some, ap, ◌∙◌, arith, depth, view, max_depth, has_float, compact_text, history_data}
use Rattle.history_text.proofs.Common.{IsUtf8-string_bytes}
use Rattle.history_text.proofs.SpelledLemmas.{Spells-written}
use Rattle.history_text.proofs.WrittenLemmas.{has_float-history, depth-history}
use Rattle.history_text.proofs.write_text.write_history.Goals.{After-to_string}
use Rattle.history_text.proofs.write_text.write_history.Goals as goal

module _ (c : After-to_string) where
  same : view c.in_ok-value.value ≡ history_data c.args.history.now
  same = c.in_ok-value.ensures

  shallow : depth (view c.in_ok-value.value) ≤ max_depth
  shallow = rw (same) (omega (arith, depth-history c.args.history.now))

pub returns-clause-compact : goal.returns-clause-compact
returns-clause-compact c =
    let is = same (goal.at.returns-clause-compact c).After-to_string in
    c.in_ok-to_string.ensures.text (ap has_float is ∙ has_float-history c.args.history.now) ∙ ap compact_text is

pub returns-clause-again : goal.returns-clause-again
returns-clause-again c = λ fits.
    let before = (goal.at.returns-clause-again c).After-to_string in
    Spells-written _ c.args.history.now (record {
      fits = omega (arith, c.in_ok-to_string.field-0.bytes.ok.0);
      utf8 = IsUtf8-string_bytes c.in_ok-to_string.field-0;
      value = c.in_ok-to_string.ensures.reads_back (shallow before) ∙ ap Some (same before);
    })
