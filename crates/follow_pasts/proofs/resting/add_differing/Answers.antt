use Rattle.follow_pasts.proofs.RestingLemmas.{differing_end}
use Rattle.follow_pasts.proofs.resting.add_differing.Goals as goal

pub returns : goal.returns
returns c =
    differing_end c.args.map.now c.pairs-pair-items.result.now c.args.other.now c.loop-pair.pair-index c.args.busy.now.items
    c.loop-pair.busy.items c.pairs-pair-items.ensures.pairs c.pairs-pair-items.ensures.rising c.loop-pair-test.false c.loop-pair.invariant
