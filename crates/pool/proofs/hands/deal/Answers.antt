use Rattle.pool.proofs.Common.{arith, rules, ◌≡◌, All-push, left_of}
use Rattle.std.proofs.lemmas.Grind.{common_steps}
use Rattle.pool.proofs.DealLemmas.{left_after, left_last}
use Rattle.pool.proofs.hands.deal.Goals as goal

pub loop-preserved : goal.loop-preserved
loop-preserved c =
    let kept = c.loop.invariant in record {
      many = search rules;
      own = grind (arith, common_steps);
      equal = grind (arith, common_steps);
      rest_own = search rules;
      rest_left =
          let left = left_after c.args.workers c.args.draws _ _ kept.rest_left (omega arith) in
          rw (c.split.ensures.kept.left_is, c.in_ok-push.ensures.len) left;
    }

pub returns-clause-equal : goal.returns-clause-equal
returns-clause-equal c =
    let kept = c.loop.invariant in
    let last = left_last c.args.workers c.args.draws _ _ kept.rest_left (omega arith) in
    rw c.in_ok-push-2.ensures.items (All-push (λ h. left_of h ≡ c.args.draws) _ _ kept.equal last)
