-- By the entries of the leaves.
use Rattle.packed_map.proofs.EditLemmas.{edit_values, edit_was}
use Rattle.packed_map.proofs.packed.PackedMap.remove.Goals as goal

pub returns-clause-was : goal.returns-clause-was
returns-clause-was g c = rw (← c.self.view_is) (edit_was c.args.key _ _ _ _ c.remove_in.ensures.removed)

pub returns-clause-removed : goal.returns-clause-removed
returns-clause-removed g c = rw (← c.self.view_is) (edit_values c.args.key _ _ _ _ c.remove_in.ensures.removed)
