use Rattle.std.proofs.Common.{◌≡◌, drop}
use Rattle.explain_reads_from.specs.Missed.{contradicts_later}
use Rattle.explain_reads_from.proofs.missing.contradicts_later.Given as goal

-- none of those so far does
abbrev pub invariant-loop-third : goal.invariant-loop-third
invariant-loop-third l = contradicts_later l.call l.other (drop l.third-index l.later) ≡ contradicts_later l.call l.other l.later
