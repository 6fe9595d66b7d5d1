-- What the leaf of the key has.
use Rattle.std.specs.Option.{option_copied}
use Rattle.packed_map.proofs.LeafLemmas.{read_at, rises_at}
use Rattle.packed_map.proofs.leaves.get_in.Goals as goal

pub get-requires : goal.get-requires
get-requires g c =
    rises_at c.leaf_of.result c.args.leaves.now c.index-leaves-leaf_of.result c.requires c.leaf_of.ensures.there c.index-leaves-leaf_of.is

pub returns : goal.returns
returns g c =
    read_at c.args.key c.leaf_of.result (option_copied c.get.result) c.args.leaves.now c.index-leaves-leaf_of.result c.requires c.leaf_of.ensures
    c.index-leaves-leaf_of.is c.get.ensures
