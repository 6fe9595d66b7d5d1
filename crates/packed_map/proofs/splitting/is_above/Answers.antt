-- The last entry decides.
use Rattle.packed_map.proofs.CutLemmas.{above_last}
use Rattle.packed_map.proofs.splitting.is_above.Goals as goal

pub returns-in-Some : goal.returns-in-Some
returns-in-Some g c = above_last c.args.key c.in-Some.last.now c.args.entries.now c.requires c.in-Some.ensures.value
