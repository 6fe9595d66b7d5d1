-- Between lower and higher keys.
use Rattle.packed_map.proofs.GapLemmas.{gap_parts}
use Rattle.packed_map.proofs.searching.place_of.Goals as goal

pub returns-then-is_gap-clause-position : goal.returns-then-is_gap-clause-position
returns-then-is_gap-clause-position g c =
    gap_parts c.args.key c.args.near c.args.entries.now (c.is_gap.ensures c.if-is_gap.true)
