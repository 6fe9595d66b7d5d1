use Rattle.follow_pasts.proofs.Common.{◌≡◌, ℕ, IfOk-weaker, covered, AreBusy}
use Rattle.follow_pasts.proofs.BusyLemmas.{busy_next, busy_end}
use Rattle.follow_pasts.proofs.resting.busy_ranges.Goals as goal

pub loop-past-preserved : goal.loop-past-preserved
loop-past-preserved c =
    busy_next c.args.pasts.now c.loop-past.past-index c.index-pasts-0.result c.index-pasts-0-in-loop-past.result c.past-item.result
    c.deref.result.now c.deref-in-loop-past.result.now c.loop-past.busy.items c.add_calls.new.busy.items c.add_found.new.busy.items
    c.add_differing.new.busy.items c.add_differing-in-loop-past.new.busy.items c.loop-past-test.true c.past-item.is c.deref.ensures.value
    c.deref-in-loop-past.ensures.value c.in_ok-add_calls.ensures c.in_ok-add_found.ensures c.in_ok-add_differing.ensures
    c.in_ok-add_differing-2.ensures c.loop-past.invariant

pub returns : goal.returns
returns c =
    IfOk-weaker c.tidied.result (λ tidy. (key : ℕ) → covered tidy.items key ≡ covered c.loop-past.busy.items key)
    (λ tidy. AreBusy c.args.pasts.now (covered tidy.items))
    (λ tidy same. busy_end c.args.pasts.now c.loop-past.past-index c.loop-past.busy.items tidy.items c.loop-past-test.false same
    c.loop-past.invariant)
    c.tidied.ensures
