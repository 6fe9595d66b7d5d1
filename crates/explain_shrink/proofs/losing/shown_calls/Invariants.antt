use Rattle.explain_shrink.proofs.Common.{take, All, IsUnshown}
use Rattle.explain_shrink.proofs.losing.shown_calls.Given as goal

-- for each count so far, that many of the last calls show nothing
abbrev pub invariant-loop-count : goal.invariant-loop-count
invariant-loop-count l = All (IsUnshown l.map l.budget l.calls) (take l.count-index l.counts)
