-- The value is written at its place, or an entry comes there.
use Rattle.std.proofs.Common.{refl}
use Rattle.std.specs.Result.{is_ok}
use Rattle.packed_map.proofs.SearchLemmas.{edit_put, edit_put_new}
use Rattle.packed_map.proofs.leaf.Leaf.put.Goals as goal

pub returns-in-Ok-clause-put : goal.returns-in-Ok-clause-put
returns-in-Ok-clause-put g c =
    edit_put c.args.key c.in-Ok.place c.index_mut.result.now c.args.value c.args.self.now.entries.items _ c.requires
    (rw c.deref.ensures.value at c.in-Ok.ensures.bound) c.index_mut.ensures.value (rw c.deref.ensures.value at c.in-Ok.ensures.position) refl

pub returns-in-Err-clause-put : goal.returns-in-Err-clause-put
returns-in-Err-clause-put g c =
    edit_put_new c.args.key c.in-Err.place c.args.value c.args.self.now.entries.items c.put_new.new.self.entries.items (is_ok c.put_new.result) c.requires
    (rw c.deref.ensures.value at c.in-Err.ensures.bound) (rw c.deref.ensures.value at c.in-Err.ensures.position) c.put_new.ensures.entries
