-- The leaf's least key is not above the key, and the next one's is.
use Rattle.packed_map.proofs.LeafLemmas.{leaf_told}
use Rattle.packed_map.proofs.searching.is_leaf.Goals as goal

pub returns-else-near-leaves-2 : goal.returns-else-near-leaves-2
returns-else-near-leaves-2 g c = λ told.
    leaf_told c.args.key c.args.near c.args.leaves.now c.index-leaves-near.result c.index-leaves-near-else-near-leaves-2.result c.requires
    c.if-near-leaves.false c.if-leaves-near.false told
