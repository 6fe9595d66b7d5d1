-- What the search found, or did not.
use Rattle.std.proofs.Common.{refl}
use Rattle.packed_map.proofs.SearchLemmas.{edit_none, edit_read}
use Rattle.packed_map.proofs.leaf.Leaf.get.Goals as goal

pub returns-in-Ok : goal.returns-in-Ok
returns-in-Ok g c =
    edit_read c.args.key c.in-Ok.place c.index.result.now c.args.self.now.entries.items c.requires
    (rw c.deref.ensures.value at c.in-Ok.ensures.bound) c.index.ensures (rw c.deref.ensures.value at c.in-Ok.ensures.position)

pub returns-in-Err : goal.returns-in-Err
returns-in-Err g c =
    edit_none c.args.key c.in-Err.field-0 c.args.self.now.entries.items c.args.self.now.entries.items c.requires
    (rw c.deref.ensures.value at c.in-Err.ensures.bound) (rw c.deref.ensures.value at c.in-Err.ensures.position) refl
