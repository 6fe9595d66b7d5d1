-- The value has no float, so its text is the compact one.
use Rattle.cli_follow.proofs.Common.{ap, ◌∙◌, has_float, compact_text}
use Rattle.cli_follow.proofs.ReportLemmas.{has_float-lost}
use Rattle.cli_follow.proofs.reports.lost_line.Goals as goal

pub returns : goal.returns
returns c =
    let is = c.in_ok-value.ensures in
    let text = c.in_ok-to_string.ensures.text (ap has_float is ∙ has_float-lost c.args.event c.args.number c.args.losses.now)
    ∙ ap compact_text is in
    rw text at c.line_of.ensures
