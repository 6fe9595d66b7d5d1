use Rattle.follow_parts.proofs.Common.{◌≡◌, ℕ, subst, low_key, high_key, pairs_at, from_to}
use Rattle.follow_parts.proofs.ReportLemmas.{legal_at_all}
use Rattle.follow_parts.proofs.reading.agrees_at_rest.Goals as goal

pub returns-clause-legal : goal.returns-clause-legal
returns-clause-legal c fits =
    let o = c.args.operation.now in
    let pairs = c.in_ok-pairs.pairs in
    let is : pairs ≡ pairs_at (from_to (low_key o.call) (high_key o.call)) c.args.rest.now =
    subst (λ (n : ℕ). pairs ≡ pairs_at (from_to n (high_key o.call)) c.args.rest.now) c.low_key-low.ensures
    (subst (λ (n : ℕ). pairs ≡ pairs_at (from_to c.low_key-low.result n) c.args.rest.now) c.high_key-high.ensures c.in_ok-pairs.ensures) in
    legal_at_all c.args.rest.now pairs o is (c.may_come_next.ensures.0 fits)
