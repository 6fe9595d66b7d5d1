use Rattle.explain_locate.proofs.Common.{ap, ◌∙◌, has_float, compact_text}
use Rattle.explain_locate.proofs.ReportLemmas.{has_float-ordered}
use Rattle.explain_locate.proofs.lines.line_with.Goals as goal

pub returns : goal.returns
returns c =
    let is = c.in_ok-value.ensures in
    c.in_ok-to_string.ensures.text (ap has_float is ∙ has_float-ordered c.args.order.now c.args.location.now) ∙ ap compact_text is
