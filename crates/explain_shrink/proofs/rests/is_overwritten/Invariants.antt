use Rattle.explain_shrink.proofs.Common.{◌≡◌, drop, is_overwritten}
use Rattle.explain_shrink.proofs.rests.is_overwritten.Given as goal

-- none of those so far does
abbrev pub invariant-loop-put : goal.invariant-loop-put
invariant-loop-put l = is_overwritten (drop l.put-index l.puts) l.first l.second ≡ is_overwritten l.puts l.first l.second
