-- The entry at the place goes, or there is none.
use Rattle.std.proofs.Common.{refl, ◌∙◌}
use Rattle.packed_map.proofs.SearchLemmas.{edit_none, edit_removed}
use Rattle.packed_map.proofs.leaf.Leaf.remove.Goals as goal

pub returns-in-Ok-clause-removed : goal.returns-in-Ok-clause-removed
returns-in-Ok-clause-removed g c =
    edit_removed c.args.key c.in-Ok.place c.remove-entry.result c.args.self.now.entries.items c.give_back.new.self.entries.items c.requires
    (rw c.deref.ensures.value at c.in-Ok.ensures.bound) c.remove-entry.ensures.value (rw c.deref.ensures.value at c.in-Ok.ensures.position)
    (c.give_back.ensures.entries ∙ c.remove-entry.ensures.items)

pub returns-in-Err-clause-removed : goal.returns-in-Err-clause-removed
returns-in-Err-clause-removed g c =
    edit_none c.args.key c.in-Err.field-0 c.args.self.now.entries.items c.args.self.now.entries.items c.requires
    (rw c.deref.ensures.value at c.in-Err.ensures.bound) (rw c.deref.ensures.value at c.in-Err.ensures.position) refl
