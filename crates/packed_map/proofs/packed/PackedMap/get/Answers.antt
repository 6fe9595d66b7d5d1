-- What the leaves have at the key.
use Rattle.packed_map.proofs.EditLemmas.{edit_was}
use Rattle.packed_map.proofs.packed.PackedMap.get.Goals as goal

pub returns : goal.returns
returns g c = rw (← c.self.view_is) (rw c.deref.ensures.value at (edit_was c.args.key _ _ _ _ c.get_in.ensures))
