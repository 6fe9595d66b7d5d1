-- The value at the place is another one, or there is none.
use Rattle.std.proofs.Common.{refl}
use Rattle.packed_map.proofs.SearchLemmas.{edit_none, edit_written}
use Rattle.packed_map.proofs.leaf.Leaf.replace.Goals as goal

pub returns-in-Ok-clause-replaced : goal.returns-in-Ok-clause-replaced
returns-in-Ok-clause-replaced g c =
    rw (c.replace.ensures.value, c.replace.ensures.after)
    (edit_written c.args.key c.in-Ok.place c.index_mut-entry.result.now c.args.value c.args.self.now.entries.items _ c.requires
    (rw c.deref.ensures.value at c.in-Ok.ensures.bound) c.index_mut-entry.ensures.value (rw c.deref.ensures.value at c.in-Ok.ensures.position) refl)

pub returns-in-Err-clause-replaced : goal.returns-in-Err-clause-replaced
returns-in-Err-clause-replaced g c =
    edit_none c.args.key c.in-Err.field-0 c.args.self.now.entries.items c.args.self.now.entries.items c.requires
    (rw c.deref.ensures.value at c.in-Err.ensures.bound) (rw c.deref.ensures.value at c.in-Err.ensures.position) refl
