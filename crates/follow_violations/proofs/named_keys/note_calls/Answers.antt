use Rattle.follow_violations.specs.Collecting.{Names}
use Rattle.follow_violations.proofs.AnyLemmas.{added_all, added_more}
use Rattle.follow_violations.proofs.named_keys.note_calls.Goals as goal

pub loop-call-preserved : goal.loop-call-preserved
loop-call-preserved c =
    added_more (Names c.args.map.now) c.args.calls.now c.loop-call.call-index c.call-item.result c.args.keys.now.items c.loop-call.keys.items
    c.note_call.new.keys.items
    c.loop-call-test.true c.call-item.is c.loop-call.invariant c.in_ok-note_call.ensures

pub returns : goal.returns
returns c =
    added_all (Names c.args.map.now) c.args.calls.now c.loop-call.call-index c.args.keys.now.items c.loop-call.keys.items c.loop-call-test.false
    c.loop-call.invariant
