use Rattle.cutter.proofs.Common.{rules, IsNonDecreasingBy-from_sort_by_key, KeyRange}
use Rattle.cutter.proofs.KeyRangeLemmas.{AreRanges-IsPermutation, RiseByLow-from_sort}
use Rattle.cutter.proofs.key_range.ranges_by_low_key.Goals as goal

pub returns-clause-ranges : goal.returns-clause-ranges
returns-clause-ranges c =
    AreRanges-IsPermutation c.args.calls.now c.in_ok-ranges.ranges.items c.sort_by_key.new.self.items
    c.in_ok-sort_by_key.ensures.permutation
    c.in_ok-ranges.ensures

pub returns-clause-by_low_key : goal.returns-clause-by_low_key
returns-clause-by_low_key c = RiseByLow-from_sort c.sort_by_key.new.self.items
    (IsNonDecreasingBy-from_sort_by_key (λ (r : KeyRange). r.low) _ c.in_ok-sort_by_key.ensures.sorted (λ a r q k. search rules))
