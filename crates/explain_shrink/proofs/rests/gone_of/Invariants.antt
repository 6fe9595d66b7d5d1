use Rattle.explain_shrink.proofs.Common.{◌≡◌, ◌++◌, drop, gone_of}
use Rattle.explain_shrink.proofs.rests.gone_of.Given as goal

-- what was found so far, with what is to come, is all
abbrev pub invariant-loop-call : goal.invariant-loop-call
invariant-loop-call l = l.gone.items ++ gone_of l.places (drop l.call-index l.calls) ≡ gone_of l.places l.calls
