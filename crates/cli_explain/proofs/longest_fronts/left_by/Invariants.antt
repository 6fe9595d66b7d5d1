-- What was found so far, with what is to come, is all.
use Rattle.cli_explain.proofs.Common.{◌≡◌, ◌++◌, drop, left_by}
use Rattle.cli_explain.proofs.longest_fronts.left_by.Given as goal

abbrev pub invariant-loop-call : goal.invariant-loop-call
invariant-loop-call l = l.rest.items ++ left_by l.taken (drop l.call-index l.calls) ≡ left_by l.taken l.calls
