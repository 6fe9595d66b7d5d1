-- Those so far are other calls.
use Rattle.cli_explain.proofs.Common.{◌≡◌, drop, is_taken}
use Rattle.cli_explain.proofs.longest_fronts.is_taken.Given as goal

abbrev pub invariant-loop-other : goal.invariant-loop-other
invariant-loop-other l = is_taken (drop l.other-index l.taken) l.call ≡ is_taken l.taken l.call
