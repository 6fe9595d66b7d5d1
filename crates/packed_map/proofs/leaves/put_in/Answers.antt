-- What is put in the leaf of the key.
use Rattle.std.specs.Result.{is_ok}
use Rattle.packed_map.proofs.LeafLemmas.{leaves_at, put_at, rises_at}
use Rattle.packed_map.proofs.leaves.put_in.Goals as goal

pub put-requires : goal.put-requires
put-requires g c =
    rises_at c.args.at c.args.leaves.now.items c.index_mut-leaf.result.now c.requires.leaves c.requires.place.there c.index_mut-leaf.ensures.value

pub returns-clause-leaves : goal.returns-clause-leaves
returns-clause-leaves g c =
    leaves_at c.args.key c.args.at _ _ c.args.leaves.now.items c.index_mut-leaf.result.now c.put.new.self c.requires.leaves c.requires.place
    c.index_mut-leaf.ensures.value c.put.ensures.from c.put.ensures.put

pub returns-clause-put : goal.returns-clause-put
returns-clause-put g c =
    put_at c.args.key c.args.at c.args.value (is_ok c.put.result) c.args.leaves.now.items c.index_mut-leaf.result.now c.put.new.self c.requires.leaves
    c.requires.place c.index_mut-leaf.ensures.value c.put.ensures.put
