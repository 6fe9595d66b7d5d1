use Rattle.follow_violations.proofs.AnyLemmas.{added_all, added_at}
use Rattle.follow_violations.specs.Collecting.{GivesDiffering}
use Rattle.follow_violations.proofs.named_keys.note_pairs.Goals as goal

pub loop-pair-preserved : goal.loop-pair-preserved
loop-pair-preserved c =
    added_at (GivesDiffering c.args.map.now c.args.other.now c.args.low c.args.high) c.args.pairs.now c.loop-pair.pair-index _
    c.args.keys.now.items c.loop-pair.keys.items c.note_pair.new.keys.items c.loop-pair-test.true c.loop-pair.invariant
    c.in_ok-note_pair.ensures

pub returns : goal.returns
returns c =
    added_all (GivesDiffering c.args.map.now c.args.other.now c.args.low c.args.high) c.args.pairs.now c.loop-pair.pair-index
    c.args.keys.now.items c.loop-pair.keys.items c.loop-pair-test.false c.loop-pair.invariant
