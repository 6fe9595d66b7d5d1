use Rattle.cli_explain.proofs.Common.{map, ap, ◌∙◌, take_all, view, list_data, stuck_data}
use Rattle.cli_explain.proofs.ValueLemmas.{pushed}
use Rattle.cli_explain.proofs.longest_fronts.all_stuck.Goals as goal

pub loop-call-preserved : goal.loop-call-preserved
loop-call-preserved c =
    ap (map view) c.in_ok-push.ensures.items
    ∙ pushed (stuck_data c.args.held.now) c.loop-call.items.items c.in_ok-stuck_value.field-0 c.args.next.now
    c.loop-call.call-index c.call-item.result
    c.loop-call-test.true c.call-item.is c.loop-call.invariant c.in_ok-stuck_value.ensures

pub returns : goal.returns
returns c = c.from.ensures
    ∙ ap list_data (c.loop-call.invariant
    ∙ ap (map (stuck_data c.args.held.now)) (take_all c.loop-call.call-index c.args.next.now c.loop-call-test.false))
