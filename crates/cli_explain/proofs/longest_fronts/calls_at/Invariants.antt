-- The calls so far are those of the numbers so far.
use Rattle.cli_explain.proofs.Common.{◌≡◌, take, calls_at}
use Rattle.cli_explain.proofs.longest_fronts.calls_at.Given as goal

abbrev pub invariant-loop-number : goal.invariant-loop-number
invariant-loop-number l = l.taken.items ≡ calls_at l.calls (take l.number-index l.front)
