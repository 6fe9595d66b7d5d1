use Rattle.explain_shrink.proofs.Common.{◌≡◌, drop, is_touched}
use Rattle.explain_shrink.proofs.rests.is_touched.Given as goal

-- what those so far put is not reported
abbrev pub invariant-loop-other : goal.invariant-loop-other
invariant-loop-other l = is_touched l.puts (drop l.other-index l.gone) l.call ≡ is_touched l.puts l.gone l.call
