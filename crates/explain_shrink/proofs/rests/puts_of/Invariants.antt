use Rattle.explain_shrink.proofs.Common.{◌≡◌, ◌++◌, drop, puts_of}
use Rattle.explain_shrink.proofs.rests.puts_of.Given as goal

-- what was found so far, with what is to come, is all
abbrev pub invariant-loop-call : goal.invariant-loop-call
invariant-loop-call l = l.puts.items ++ puts_of l.places (drop l.call-index l.calls) ≡ puts_of l.places l.calls
