use Rattle.explain_shrink.proofs.Common.{◌≡◌, drop, list_any, opened, may_depend_on}
use Rattle.explain_shrink.proofs.rests.waits.Given as goal

-- the call waits for none of the calls so far
abbrev pub invariant-loop-other : goal.invariant-loop-other
invariant-loop-other l =
    list_any (λ a. may_depend_on l.puts a l.call (opened l.call)) (drop l.other-index l.gone)
    ≡ list_any (λ a. may_depend_on l.puts a l.call (opened l.call)) l.gone
