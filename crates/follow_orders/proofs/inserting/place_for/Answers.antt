use Rattle.std.proofs.Common.{rules, nat_lt}
use Rattle.std.proofs.lemmas.List.Sorted.{IsPartitionPoint-from_clause, IsPartitionedBy-ltb}
use Rattle.follow_orders.proofs.InsertLemmas.{rising_weakly, less, greater}
use Rattle.follow_orders.proofs.inserting.place_for.Goals as goal

pub returns-clause-less : goal.returns-clause-less
returns-clause-less c =
    let calls = c.args.calls.now in
    let inv = c.args.inv in
    let parts =
    IsPartitionPoint-from_clause (λ x. nat_lt x.inv inv) calls c.partition_point.result c.partition_point.ensures.partitioned
    (IsPartitionedBy-ltb (λ x. x.inv) calls inv (rising_weakly calls c.requires.rising)) (λ a r f called. search rules) in
    less inv calls c.partition_point.result parts.0

pub returns-clause-greater : goal.returns-clause-greater
returns-clause-greater c =
    let calls = c.args.calls.now in
    let inv = c.args.inv in
    let parts =
    IsPartitionPoint-from_clause (λ x. nat_lt x.inv inv) calls c.partition_point.result c.partition_point.ensures.partitioned
    (IsPartitionedBy-ltb (λ x. x.inv) calls inv (rising_weakly calls c.requires.rising)) (λ a r f called. search rules) in
    greater inv calls c.partition_point.result parts.1 c.requires.other
