use Rattle.cli_explain.proofs.Common.{map, ap, ◌∙◌, take_all, view, list_data, missed_data}
use Rattle.cli_explain.proofs.ValueLemmas.{pushed_copy}
use Rattle.cli_explain.proofs.misses.all_missed.Goals as goal

pub loop-call-preserved : goal.loop-call-preserved
loop-call-preserved c =
    ap (map view) c.in_ok-push.ensures.items
    ∙ pushed_copy (missed_data c.args.events.now) c.loop-call.items.items c.in_ok-missed_value.field-0 c.args.missed.now
    c.loop-call.call-index _ c.loop-call-test.true c.loop-call.invariant c.in_ok-missed_value.ensures

pub returns : goal.returns
returns c = c.from.ensures
    ∙ ap list_data (c.loop-call.invariant
    ∙ ap (map (missed_data c.args.events.now)) (take_all c.loop-call.call-index c.args.missed.now c.loop-call-test.false))
