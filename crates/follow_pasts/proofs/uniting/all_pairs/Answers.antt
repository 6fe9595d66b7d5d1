use Rattle.follow_pasts.proofs.Common.{length, refl, slice_get_read, All-at}
use Rattle.follow_pasts.proofs.TogetherLemmas.{IsShapedPast, rows_more}
use Rattle.follow_pasts.proofs.uniting.all_pairs.Goals as goal

pub add_combinations-requires-clause-rising : goal.add_combinations-requires-clause-rising
add_combinations-requires-clause-rising c =
    let pasts = c.args.pasts.now in
    let i = c.loop-past.past-index in
    let past = c.past-item.result in
    (All-at IsShapedPast pasts i past c.requires.shaped
    (slice_get_read pasts (length pasts) i past refl c.loop-past-test.true c.past-item.is)).0

pub loop-past-preserved : goal.loop-past-preserved
loop-past-preserved c =
    rows_more c.args.pasts.now c.args.others.now c.loop-past.all.items c.add_combinations.new.all.items c.loop-past.past-index c.past-item.result
    c.loop-past-test.true c.past-item.is c.in_ok-add_combinations.ensures c.loop-past.invariant
