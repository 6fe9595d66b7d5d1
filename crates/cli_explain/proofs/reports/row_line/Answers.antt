-- The value has no float, so its text is the compact one.
use Rattle.cli_explain.proofs.Common.{List, map, ap, ◌∙◌, has_float, compact_text, Operation, missed_writes, missed_of, Missed, missing_line_data}
use Rattle.cli_explain.proofs.RowLemmas.{has_float-row}
use Rattle.cli_explain.proofs.reports.row_line.Goals as goal

pub returns : goal.returns
returns c =
    let history = c.args.history.now in
    let call = c.args.call.now in
    let reason = c.args.reason.now in
    let of_history = ap (λ (l : List Operation). map missed_of (missed_writes call l)) c.calls.ensures.calls in
    let missed_are = c.deref.ensures.value ∙ (c.in_ok-missed.ensures ∙ of_history) in
    let is = c.in_ok-value.ensures ∙ ap (λ (l : List Missed). missing_line_data history call l reason) missed_are in
    let text = c.in_ok-to_string.ensures.text (ap has_float is ∙ has_float-row history call reason) ∙ ap compact_text is in
    rw text at c.in_ok-line_of.ensures
