use Rattle.std.proofs.Common.{◌≡◌, drop}
use Rattle.std.specs.List.{list_any}
use Rattle.explain_reads_from.specs.Missed.{may_mend}
use Rattle.explain_reads_from.proofs.missing.is_mended.Given as goal

-- none of those so far does
abbrev pub invariant-loop-third : goal.invariant-loop-third
invariant-loop-third l = list_any (may_mend l.call l.other) (drop l.third-index l.calls) ≡ list_any (may_mend l.call l.other) l.calls
