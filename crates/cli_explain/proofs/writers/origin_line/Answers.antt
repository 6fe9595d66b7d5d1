-- The value has no float, so its text is the compact one.
use Rattle.cli_explain.proofs.Common.{ℕ, List, ap, ◌∙◌, has_float, compact_text, pair_origin_data}
use Rattle.cli_explain.proofs.OriginLemmas.{has_float-origin}
use Rattle.cli_explain.proofs.writers.origin_line.Goals as goal

pub returns : goal.returns
returns c =
    let start = c.args.start.now in
    let events = c.args.events.now in
    let pair = c.args.pair in
    let places_are = c.deref.ensures.value ∙ c.in_ok-places.ensures in
    let is = c.in_ok-value.ensures ∙ ap (λ (l : List ℕ). pair_origin_data start events l pair) places_are in
    let text = c.in_ok-to_string.ensures.text (ap has_float is ∙ has_float-origin start events c.args.calls.now pair) ∙ ap compact_text is in
    rw text at c.in_ok-line_of.ensures
