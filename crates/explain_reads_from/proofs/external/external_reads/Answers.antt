use Rattle.std.proofs.lemmas.Result.{IfOk-weaker}
use Rattle.std.proofs.Common.{filter, not, ap, ◌∙◌}
use Rattle.explain_reads_from.specs.External.{is_internal}
use Rattle.explain_reads_from.proofs.ExternalLemmas.{external_from}
use Rattle.explain_reads_from.proofs.external.external_reads.Goals as goal

pub returns : goal.returns
returns c =
    let start = c.args.start.now in
    let calls = c.args.calls.now in
    IfOk-weaker c.external_of.result _ _
    (λ pairs is. external_from start calls c.in_ok-all_reported.field-0.items c.in_order-reported.result.items pairs.items c.in_ok-all_reported.ensures
    c.in_order-reported.ensures.rising c.in_order-reported.ensures.same
    (is ∙ ap (filter (λ pair. not (is_internal start calls pair))) c.deref.ensures.value))
    c.external_of.ensures
