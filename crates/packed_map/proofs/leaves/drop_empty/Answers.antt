-- The leaf that goes has no entry.
use Rattle.packed_map.proofs.Common.{sym, ◌∙◌, eqb-true}
use Rattle.packed_map.proofs.LeafLemmas.{drop_at}
use Rattle.packed_map.proofs.leaves.drop_empty.Goals as goal

pub returns-then-is_empty-clause-leaves : goal.returns-then-is_empty-clause-leaves
returns-then-is_empty-clause-leaves g c = rw c.remove.ensures.items
    (drop_at c.args.at c.args.leaves.now.items c.index.result.now c.requires.leaves c.if-at-gt0.true c.requires.place c.index.ensures
    (eqb-true _ 0 (sym c.is_empty.ensures ∙ c.if-is_empty.true))).0

pub returns-then-is_empty-clause-same : goal.returns-then-is_empty-clause-same
returns-then-is_empty-clause-same g c = rw c.remove.ensures.items
    (drop_at c.args.at c.args.leaves.now.items c.index.result.now c.requires.leaves c.if-at-gt0.true c.requires.place c.index.ensures
    (eqb-true _ 0 (sym c.is_empty.ensures ∙ c.if-is_empty.true))).1
