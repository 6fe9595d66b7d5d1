use Rattle.search.proofs.Common.{◌≡◌, ◌+◌, ◌<◌, [], length, sym, subst, arith, ◌≢◌, range_with_len, All-weaker, All-from_contains}
use Rattle.search.proofs.Common.{IsStrictlyIncreasing-range, IsChain}
use Rattle.search.proofs.EarliestLemmas.{distinct_from_increasing}
use Rattle.search.proofs.LinkLemmas.{range_below}
use Rattle.search.proofs.OpenLemmas.{range_push, IsChain-none, IsChain-more}
use Rattle.search.proofs.standing.all_linked.Goals as goal

pub loop-place-init : goal.loop-place-init
loop-place-init c =
    let size = c.args.size in
    subst (λ l. (length l.after ≡ size + 1) × IsChain l size [] size) (sym c.in_ok-links.ensures) (IsChain-none size)

pub loop-place-preserved : goal.loop-place-preserved
loop-place-preserved c =
    let l = c.loop-place.links in
    let size = c.args.size in
    let p = c.loop-place.place in
    let lt : p < size = c.loop-place-test.true in
    let numbers = range_with_len 0 p in
    let below = All-from_contains (λ n. n < p) numbers (range_below p) in
    rw (c.push.ensures.links, range_push p) (IsChain-more l p size numbers c.push.ensures.within c.loop-place.invariant.0 lt
    (All-weaker (λ n. n < p) (λ n. n < size) (λ n h. omega arith) numbers below)
    (All-weaker (λ n. n < p) (λ n. n ≢ p) (λ n h same. absurd (omega arith)) numbers below)
    (distinct_from_increasing numbers (IsStrictlyIncreasing-range p)) c.loop-place.invariant.1)
