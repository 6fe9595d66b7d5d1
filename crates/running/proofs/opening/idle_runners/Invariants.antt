use Rattle.running.proofs.Common.{◌≡◌, ◌≤◌, map, vec_len, vec_capacity, range_with_len, idle, Fit}
use Rattle.running.proofs.opening.idle_runners.Given as goal

abbrev pub invariant-loop-number : goal.invariant-loop-number
invariant-loop-number l = record {
  fit : Fit l.setup (map (λ p. (p, idle)) (range_with_len 0 l.number)) l.runners.items;
  long : vec_len l.runners ≡ l.number;
  room : l.setup.processes ≤ vec_capacity l.runners;
}
