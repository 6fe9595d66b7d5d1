use Rattle.follow_pasts.proofs.Common.{length, refl, slice_get_read, All-at}
use Rattle.follow_pasts.proofs.TogetherLemmas.{IsShapedPast, row_more}
use Rattle.follow_pasts.proofs.uniting.add_combinations.Goals as goal

pub together-requires-clause-other : goal.together-requires-clause-other
together-requires-clause-other c =
    let others = c.args.others.now in
    let i = c.loop-other.other-index in
    let other = c.other-item.result in
    (All-at IsShapedPast others i other c.requires.others
    (slice_get_read others (length others) i other refl c.loop-other-test.true c.other-item.is)).0

pub loop-other-preserved : goal.loop-other-preserved
loop-other-preserved c =
    row_more c.args.past.now c.args.others.now c.args.all.now.items c.loop-other.all.items c.push.new.self.items c.loop-other.other-index
    c.other-item.result c.in_ok-together.field-0 c.loop-other-test.true c.other-item.is c.in_ok-together.ensures c.in_ok-push.ensures.items
    c.loop-other.invariant
