-- The value has no float, so its text is the compact one.
use Rattle.cli_explain.proofs.Common.{ap, ◌∙◌, has_float, compact_text}
use Rattle.cli_explain.proofs.FrontLemmas.{has_float-front}
use Rattle.cli_explain.proofs.longest_fronts.front_line.Goals as goal

pub returns : goal.returns
returns c =
    let is = c.in_ok-value.ensures in
    let no_float = ap has_float is ∙ has_float-front c.args.start.now c.args.calls.now c.args.front.now in
    let text = c.in_ok-to_string.ensures.text no_float ∙ ap compact_text is in
    rw text at c.in_ok-line_of.ensures
