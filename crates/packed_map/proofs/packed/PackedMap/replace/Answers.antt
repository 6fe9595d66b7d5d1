-- By the entries of the leaves.
use Rattle.packed_map.proofs.EditLemmas.{edit_values, edit_was}
use Rattle.packed_map.proofs.packed.PackedMap.replace.Goals as goal

pub returns-clause-was : goal.returns-clause-was
returns-clause-was g c = rw (← c.self.view_is) (edit_was c.args.key _ _ _ _ c.replace_in.ensures.replaced)

pub returns-clause-replaced : goal.returns-clause-replaced
returns-clause-replaced g c = rw (← c.self.view_is) (edit_values c.args.key _ _ _ _ c.replace_in.ensures.replaced)
