use Rattle.std.proofs.Common.{◌≡◌, ◌++◌, drop, filter, not}
use Rattle.explain_reads_from.specs.External.{is_internal}
use Rattle.explain_reads_from.proofs.external.external_of.Given as goal

-- what was found so far, with what is to come, is all
abbrev pub invariant-loop-pair : goal.invariant-loop-pair
invariant-loop-pair l =
    l.pairs.items ++ filter (λ pair. not (is_internal l.start l.calls pair)) (drop l.pair-index l.reported)
    ≡ filter (λ pair. not (is_internal l.start l.calls pair)) l.reported
