-- What is put in place in the leaf of the key.
use Rattle.packed_map.proofs.LeafLemmas.{edit_at, leaves_at, rises_at}
use Rattle.packed_map.proofs.leaves.replace_in.Goals as goal

pub replace-requires : goal.replace-requires
replace-requires g c =
    let place = rw c.deref.ensures.value at c.leaf_of-at.ensures in
    rises_at c.leaf_of-at.result c.args.leaves.now.items c.index_mut-leaf.result.now c.requires place.there c.index_mut-leaf.ensures.value

pub returns-clause-leaves : goal.returns-clause-leaves
returns-clause-leaves g c =
    leaves_at c.args.key c.leaf_of-at.result _ _ c.args.leaves.now.items c.index_mut-leaf.result.now c.replace.new.self c.requires
    (rw c.deref.ensures.value at c.leaf_of-at.ensures) c.index_mut-leaf.ensures.value c.replace.ensures.from c.replace.ensures.replaced

pub returns-clause-replaced : goal.returns-clause-replaced
returns-clause-replaced g c =
    edit_at c.args.key c.leaf_of-at.result _ _ c.args.leaves.now.items c.index_mut-leaf.result.now c.replace.new.self c.requires
    (rw c.deref.ensures.value at c.leaf_of-at.ensures) c.index_mut-leaf.ensures.value c.replace.ensures.replaced
