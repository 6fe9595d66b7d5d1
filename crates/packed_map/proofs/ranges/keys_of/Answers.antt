-- The leaves between the ends are those that have keys of the range.
use Rattle.packed_map.proofs.Common.{ap, refl, take_all, ◌∙◌, entries_of, keys_between}
use Rattle.packed_map.proofs.RangeLemmas.{keys_of_middle}
use Rattle.packed_map.proofs.ranges.keys_of.Goals as goal

pub returns : goal.returns
returns g c =
    c.loop-leaf.invariant ∙ ap (λ ls. keys_between c.args.low c.args.high (entries_of ls)) (take_all _ _ c.loop-leaf-test.false)
    ∙ keys_of_middle c.args.low c.args.high c.leaf_of-first.result c.leaf_of-last.result c.args.leaves.now _ c.requires.leaves c.requires.range
    c.leaf_of-first.ensures c.leaf_of-last.ensures refl
