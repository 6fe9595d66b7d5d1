use Rattle.std.proofs.Common.{drop, nat_lt, nat_le, rules}
use Rattle.std.proofs.lemmas.List.{take_rest}
use Rattle.std.proofs.lemmas.List.Sorted.{IsPartitionPoint-from_clause, IsPartitionedBy-leb, IsPartitionedBy-ltb}
use Rattle.map_object.proofs.RangeLemmas.{range_is, keys_rise, keys_rise_from}
use Rattle.map_object.proofs.sorted_map.SortedMap.range.Goals as goal

-- the closures compare a pair's key with the ends of the range
pub returns : goal.returns
returns c =
    let m = c.self.inside.pairs.items in
    let from = c.partition_point-from.result in
    let lower =
    IsPartitionPoint-from_clause (λ pair. nat_lt pair.0 c.args.low) m from
    (rw c.deref.ensures.value at c.partition_point-from.ensures.partitioned)
    (IsPartitionedBy-ltb (λ pair. pair.0) m c.args.low (keys_rise m c.self.invariant)) (λ a r f called. search rules) in
    let rest = rw (c.deref-2.ensures.value, take_rest m from) at c.partition_point-count.ensures.partitioned in
    let upper =
    IsPartitionPoint-from_clause (λ pair. nat_le pair.0 c.args.high) (drop from m) c.partition_point-count.result rest
    (IsPartitionedBy-leb (λ pair. pair.0) (drop from m) c.args.high (keys_rise_from m from c.self.invariant))
    (λ a r f called. search rules) in
    rw (c.deref-2.ensures.value, take_rest m from, ← c.self.view_is)
    (range_is c.args.low c.args.high m from c.partition_point-count.result lower upper)
