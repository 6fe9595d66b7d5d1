use Rattle.std.proofs.Common.{ℕ, get_or}
use Rattle.follow_pasts.proofs.MergeLemmas.{adding_next, adding_rises}
use Rattle.follow_pasts.proofs.uniting.pairs_together.Goals as goal

pub loop-pair-preserved : goal.loop-pair-preserved
loop-pair-preserved c =
    let list = c.pairs-added.result.now in
    let i = c.loop-pair.pair-index in
    let is = c.in_ok-_none.ensures.after in
    let none : ℕ × ℕ = (0, 0) in
    record {
      rises = adding_rises c.loop-pair.both c.step.new.self (get_or list i none) is c.loop-pair.invariant.rises;
      adding = adding_next c.args.pairs.now c.args.others.now list c.loop-pair.both c.step.new.self i none c.pairs-added.ensures.pairs
          c.pairs-added.ensures.rising c.loop-pair-test.true is c.loop-pair.invariant.adding;
    }
