use Rattle.cutter.proofs.Common.{◌≡◌, subst, sym, rules, ◌≢◌, AllPairs, IsNonDecreasingBy-from_sort, AllPairs-map, KeyRange}
use Rattle.cutter.proofs.KeyRangeLemmas.{numbers_of, IsStrictlyIncreasing-from_sort}
use Rattle.cutter.proofs.key_range.rising_numbers.Goals as goal

pub returns-clause-rising : goal.returns-clause-rising
returns-clause-rising c =
    let numbers = c.in_ok-numbers.numbers.items in
    let taken : numbers ≡ numbers_of c.args.ranges.now = search rules in
    let distinct : AllPairs (λ m n. m ≢ n) numbers =
    subst (AllPairs (λ m n. m ≢ n)) (sym taken) (AllPairs-map (λ m n. m ≢ n) (λ (r : KeyRange). r.number) c.args.ranges.now c.requires) in
    IsStrictlyIncreasing-from_sort numbers c.sort.new.self.items distinct c.in_ok-sort.ensures.permutation
    (IsNonDecreasingBy-from_sort (λ n. n) c.sort.new.self.items c.in_ok-sort.ensures.sorted)
