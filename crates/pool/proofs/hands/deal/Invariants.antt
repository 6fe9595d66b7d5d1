use Rattle.pool.proofs.Common.{◌≡◌, ◌+◌, ◌*◌, All, vec_len, counter, counter_of, left_of}
use Rattle.pool.proofs.hands.deal.Given as goal

abbrev pub invariant-loop : goal.invariant-loop
invariant-loop l = record {
  many : vec_len l.hands + 1 ≡ l.counter;
  own : All (λ h. counter_of h ≡ counter l.tickets) l.hands.items;
  equal : All (λ h. left_of h ≡ l.draws) l.hands.items;
  rest_own : counter_of l.rest ≡ counter l.tickets;
  rest_left : left_of l.rest + vec_len l.hands * l.draws ≡ l.workers * l.draws;
}
