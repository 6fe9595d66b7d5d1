use Rattle.explain_histories.proofs.Common.{◌≡◌, ◌≢◌, ◌+◌, ◌<◌, ◌≤◌, length, All, AllPairs}
use Rattle.explain_histories.proofs.seats.all_processes.Given as goal

-- the greatest processes, each once
abbrev pub invariant-loop-process : goal.invariant-loop-process
invariant-loop-process l = record {
  known : All (λ p. (p < 64) × (64 ≤ p + l.process)) l.processes.items;
  apart : AllPairs (λ p q. p ≢ q) l.processes.items;
  all : length l.processes.items ≡ l.process;
}
