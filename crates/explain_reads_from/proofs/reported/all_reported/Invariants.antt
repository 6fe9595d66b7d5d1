use Rattle.std.proofs.Common.{◌≡◌, ◌++◌, drop}
use Rattle.explain_reads_from.specs.Reported.{all_reported}
use Rattle.explain_reads_from.proofs.reported.all_reported.Given as goal

-- the pairs so far, with those of the calls to come, are all
abbrev pub invariant-loop-call : goal.invariant-loop-call
invariant-loop-call l = l.pairs.items ++ all_reported (drop l.call-index l.calls) ≡ all_reported l.calls
