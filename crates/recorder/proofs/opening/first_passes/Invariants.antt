use Rattle.recorder.proofs.Common.{◌≡◌, ◌+◌, ◌*◌, ◌<◌, [], map, range_with_len, left_of, counter, counter_of, process_number, calls_of, log_of}
use Rattle.recorder.proofs.Common.{source_of}
use Rattle.std.proofs.Common.{All}
use Rattle.recorder.proofs.opening.first_passes.Given as goal

abbrev pub invariant-loop-process : goal.invariant-loop-process
invariant-loop-process l = record {
  rest_own : counter_of l.rest ≡ counter l.tickets;
  rest_left : left_of l.rest + l.process * (2 * l.calls_each) ≡ l.processes * (2 * l.calls_each);
  numbers : map process_number l.passes.items ≡ range_with_len 0 l.process;
  own : All (λ p. source_of p ≡ counter l.tickets) l.passes.items;
  calls : All (λ p. calls_of p ≡ l.calls_each) l.passes.items;
  below : All (λ p. process_number p < l.processes) l.passes.items;
  nothing : All (λ p. log_of p ≡ []) l.passes.items;
}
