use Rattle.orders.proofs.Common.{◌≡◌, ℕ, ◌+◌, ◌<◌, List, length, take, get_or, ap, arith, Operation, least, low_key, least_first, least_more}
use Rattle.std.proofs.Common.{map}
use Rattle.orders.proofs.segment.least_key.Goals.{then-place-eq0, else-place-eq0}
use Rattle.orders.proofs.segment.least_key.Goals as goal

-- the least key after the first call
first : (calls : List Operation) (i : ℕ) (a : Operation) → i ≡ 0 → i < length calls
    → least (map (λ a. low_key a.call) (take (i + 1) calls)) ≡ low_key (get_or calls i a).call
first calls i a start within = rw start (least_first (λ a. low_key a.call) calls a (omega arith))

pub loop-place-preserved : goal.loop-place-preserved
loop-place-preserved c =
    let calls = c.args.calls.now in
    let i = c.loop-place.place in
    let a = c.index-calls-place.result in
    let here = ap (λ a. low_key a.call) c.index-calls-place.is in
    elim c.if-place-eq0.branch [
      | then-place-eq0 w ↦ let least_is = first calls i a w.if-place-eq0.true c.loop-place-test.true in cc
      | else-place-eq0 w ↦ let least_is = least_more (λ a. low_key a.call) calls i a (omega arith) c.loop-place-test.true in cc
    ]
