use Rattle.follow_pasts.proofs.Common.{rules, nat_lt, IsPartitionPoint-from_clause, IsPartitionedBy-ltb}
use Rattle.follow_pasts.proofs.PastLemmas.{rising_weakly, less, no_less}
use Rattle.follow_pasts.proofs.pasts.place_for.Goals as goal

pub returns : goal.returns
returns c =
    let calls = c.args.calls.now in
    let inv = c.args.inv in
    let parts =
    IsPartitionPoint-from_clause (λ x. nat_lt x.inv inv) calls c.partition_point.result c.partition_point.ensures.partitioned
    (IsPartitionedBy-ltb (λ x. x.inv) calls inv (rising_weakly calls c.requires)) (λ a r f called. search rules) in
    record {
      within = search rules;
      less = less inv calls c.partition_point.result parts.0;
      no_less = no_less inv calls c.partition_point.result parts.1;
    }
