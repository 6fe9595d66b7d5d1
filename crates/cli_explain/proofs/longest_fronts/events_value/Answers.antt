use Rattle.cli_explain.proofs.Common.{map, ap, ◌∙◌, take_all, view, list_data, event_data}
use Rattle.cli_explain.proofs.ValueLemmas.{pushed}
use Rattle.cli_explain.proofs.longest_fronts.events_value.Goals as goal

pub loop-call-preserved : goal.loop-call-preserved
loop-call-preserved c =
    ap (map view) c.in_ok-push.ensures.items
    ∙ pushed event_data c.loop-call.items.items c.from.result c.args.calls.now c.loop-call.call-index c.call-item.result
    c.loop-call-test.true c.call-item.is c.loop-call.invariant c.from.ensures

pub returns : goal.returns
returns c = c.from-2.ensures
    ∙ ap list_data (c.loop-call.invariant
    ∙ ap (map event_data) (take_all c.loop-call.call-index c.args.calls.now c.loop-call-test.false))
