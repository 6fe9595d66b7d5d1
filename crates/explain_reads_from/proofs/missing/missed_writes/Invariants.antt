use Rattle.std.proofs.Common.{◌≡◌, ◌++◌, drop, map}
use Rattle.explain_reads_from.specs.Missed.{missed_from, missed_writes, missed_of}
use Rattle.explain_reads_from.proofs.missing.missed_writes.Given as goal

-- what was found so far, with what is to come, is all
abbrev pub invariant-loop-number : goal.invariant-loop-number
invariant-loop-number l =
    l.missed.items ++ map missed_of (missed_from l.calls l.call (drop l.number l.calls)) ≡ map missed_of (missed_writes l.call l.calls)
