-- What the calls to come leave is what all leave.
use Rattle.cli_explain.proofs.Common.{◌≡◌, drop, after_calls}
use Rattle.cli_explain.proofs.longest_fronts.map_after.Given as goal

abbrev pub invariant-loop-call : goal.invariant-loop-call
invariant-loop-call l = after_calls l.map (drop l.call-index l.taken) ≡ after_calls l.start l.taken
