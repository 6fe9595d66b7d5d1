use Rattle.follow_cuts.proofs.Common.{◌≡◌, Some, length, refl, sym, subst, arith, slice_get, slice_get_read}
use Rattle.follow_cuts.proofs.MadeLemmas.{AreStarts, starts_none, starts_more, starts_all}
use Rattle.follow_cuts.proofs.cut.all_at_start.Goals as goal

pub loop-base-init : goal.loop-base-init
loop-base-init c =
    subst (AreStarts c.args.pasts.now 0) (sym c.new-positions.ensures.items) (starts_none c.args.pasts.now)

pub loop-base-preserved : goal.loop-base-preserved
loop-base-preserved c =
    let pasts = c.args.pasts.now in
    let n = c.loop-base.base in
    let past = c.index-pasts-base.result in
    let here : slice_get pasts n ≡ Some past = slice_get_read pasts (length pasts) n past refl c.loop-base-test.true c.index-pasts-base.is in
    starts_more pasts past n c.in_ok-at_start.field-0 c.loop-base.positions.items c.push.new.self.items
    c.in_ok-push.ensures.items here c.in_ok-at_start.ensures c.loop-base.invariant

pub returns-clause-from_past : goal.returns-clause-from_past
returns-clause-from_past c = c.loop-base.invariant.from_past

pub returns-clause-kept : goal.returns-clause-kept
returns-clause-kept c =
    starts_all c.args.pasts.now c.loop-base.base c.loop-base.positions.items (omega (arith, c.loop-base-test.false)) c.loop-base.invariant
