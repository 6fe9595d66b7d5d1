-- What was found so far, with what is to come, is all.
use Rattle.cli_explain.proofs.Common.{◌≡◌, ◌++◌, drop, unpreceded}
use Rattle.cli_explain.proofs.longest_fronts.minimal_calls.Given as goal

abbrev pub invariant-loop-call : goal.invariant-loop-call
invariant-loop-call l = l.next.items ++ unpreceded l.rest (drop l.call-index l.rest) ≡ unpreceded l.rest l.rest
