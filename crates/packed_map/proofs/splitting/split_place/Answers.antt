-- After all entries, or at the one in the middle.
use Rattle.std.proofs.Common.{◌/◌, length, arith}
use Rattle.packed_map.proofs.CutLemmas.{cut_end, cut_within}
use Rattle.packed_map.proofs.splitting.split_place.Goals as goal

pub returns-then-is_above-clause-cut : goal.returns-then-is_above-clause-cut
returns-then-is_above-clause-cut g c = cut_end c.args.key c.args.entries.now (c.is_above.ensures.0 c.if-is_above.true)

pub returns-clause-cut : goal.returns-clause-cut
returns-clause-cut g c =
    let es = c.args.entries.now in
    let half = length es / 2 in
    rw (← c.index-entries-half.is)
    (cut_within c.args.key half c.index-entries-half.result es c.requires.rise (omega (arith, c.requires.some)) c.index-entries-half.is)
