-- What goes from the leaf of the key.
use Rattle.packed_map.proofs.LeafLemmas.{edit_at, leaves_at, rises_at}
use Rattle.packed_map.proofs.leaves.remove_at.Goals as goal

pub remove-requires : goal.remove-requires
remove-requires g c =
    rises_at c.args.at c.args.leaves.now.items c.index_mut-leaf.result.now c.requires.leaves c.requires.place.there c.index_mut-leaf.ensures.value

pub returns-clause-leaves : goal.returns-clause-leaves
returns-clause-leaves g c =
    leaves_at c.args.key c.args.at _ _ c.args.leaves.now.items c.index_mut-leaf.result.now c.remove.new.self c.requires.leaves c.requires.place
    c.index_mut-leaf.ensures.value c.remove.ensures.from c.remove.ensures.removed

pub returns-clause-removed : goal.returns-clause-removed
returns-clause-removed g c =
    edit_at c.args.key c.args.at _ _ c.args.leaves.now.items c.index_mut-leaf.result.now c.remove.new.self c.requires.leaves c.requires.place
    c.index_mut-leaf.ensures.value c.remove.ensures.removed
