-- The closure says whether a leaf's least key is not above the key.
use Rattle.std.proofs.Common.{nat_le, rules}
use Rattle.std.proofs.lemmas.List.Sorted.{IsPartitionPoint-from_clause}
use Rattle.packed_map.proofs.LeafLemmas.{leaf_at, leaf_before, leaves_part}
use Rattle.packed_map.proofs.searching.searched_leaf.Goals as goal

pub overflow_sub-result : goal.overflow_sub-result
overflow_sub-result g c =
    leaf_before c.args.key c.partition_point.result c.args.leaves.now c.requires
    (IsPartitionPoint-from_clause (λ leaf. nat_le leaf.from c.args.key) c.args.leaves.now c.partition_point.result
    c.partition_point.ensures.partitioned (leaves_part c.args.key c.args.leaves.now c.requires) (λ a r f called. search rules))

pub returns : goal.returns
returns g c =
    leaf_at c.args.key c.partition_point.result c.args.leaves.now c.requires c.partition_point.ensures.bound
    (IsPartitionPoint-from_clause (λ leaf. nat_le leaf.from c.args.key) c.args.leaves.now c.partition_point.result
    c.partition_point.ensures.partitioned (leaves_part c.args.key c.args.leaves.now c.requires) (λ a r f called. search rules))
