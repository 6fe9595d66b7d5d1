-- The value has no float, so its text is the compact one.
use Rattle.judge.proofs.Common.{ap, ◌∙◌, has_float, compact_text}
use Rattle.judge.proofs.ReportLemmas.{has_float-verdict}
use Rattle.judge.proofs.reports.report.Goals as goal

pub returns : goal.returns
returns c =
    let is = c.in_ok-value.ensures in
    c.in_ok-to_string.ensures.text (ap has_float is ∙ has_float-verdict c.args.verdict.now) ∙ ap compact_text is
