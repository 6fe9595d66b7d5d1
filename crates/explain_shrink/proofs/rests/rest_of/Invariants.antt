use Rattle.explain_shrink.proofs.Common.{◌≡◌, ◌++◌, drop, filter_map, left_of}
use Rattle.explain_shrink.proofs.rests.rest_of.Given as goal

-- what was found so far, with what is to come, is all
abbrev pub invariant-loop-call : goal.invariant-loop-call
invariant-loop-call l = l.rest.items ++ filter_map (left_of l.places l.puts l.gone) (drop l.call-index l.calls) ≡ filter_map
    (left_of l.places l.puts l.gone) l.calls
