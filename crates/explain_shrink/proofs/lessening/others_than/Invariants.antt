use Rattle.explain_shrink.proofs.Common.{◌≡◌, ◌++◌, drop, others_than}
use Rattle.explain_shrink.proofs.lessening.others_than.Given as goal

-- what was found so far, with what is to come, is all
abbrev pub invariant-loop-call : goal.invariant-loop-call
invariant-loop-call l = l.places.items ++ others_than (drop l.call-index l.kept) l.place ≡ others_than l.kept l.place
