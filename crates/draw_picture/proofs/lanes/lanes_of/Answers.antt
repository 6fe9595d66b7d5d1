use Rattle.draw_picture.proofs.Common.{sym, ap, ◌∙◌, ◌++◌, arith, append-nil}
use Rattle.draw_picture.proofs.LaneLemmas.{lanes_from, lanes-all, lanes-yes, lanes-no, lanes-end}
use Rattle.draw_picture.proofs.lanes.lanes_of.Goals.{then-has_events+in_ok-push, else-has_events}
use Rattle.draw_picture.proofs.lanes.lanes_of.Goals as goal

pub loop-process-init : goal.loop-process-init
loop-process-init c = lanes-all c.args.events.now ∙ ap (λ items. items ++ lanes_from c.args.events.now 0) (sym c.new-lanes.ensures.items)

pub loop-process-preserved : goal.loop-process-preserved
loop-process-preserved c =
    let below = c.loop-process-test.true in
    let before = c.loop-process.invariant in
    elim c.if-has_events.branch [
      | then-has_events+in_ok-push w ↦ rw w.lanes-is
          (lanes-yes _ _ c.loop-process.lanes.items _ below (cc) w.in_ok-push.ensures.items before)
      | else-has_events w ↦ rw w.lanes-is (lanes-no _ _ c.loop-process.lanes.items below (cc) before)
    ]

pub returns : goal.returns
returns c =
    let events = c.args.events.now in
    let end = lanes-end events c.loop-process.process (omega arith) in
    sym (c.loop-process.invariant ∙ (ap (λ rest. c.loop-process.lanes.items ++ rest) end ∙ append-nil c.loop-process.lanes.items))
