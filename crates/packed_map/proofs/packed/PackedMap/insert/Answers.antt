-- By the entries of the leaves.
use Rattle.packed_map.proofs.EditLemmas.{put_values}
use Rattle.packed_map.proofs.packed.PackedMap.insert.Goals as goal

pub returns-clause-put : goal.returns-clause-put
returns-clause-put g c = rw (← c.self.view_is) (put_values c.insert_in.result c.args.key c.args.value _ _ c.insert_in.ensures.put)
