use Rattle.std.proofs.Common.{◌≡◌, drop}
use Rattle.std.specs.List.{list_any}
use Rattle.explain_reads_from.specs.External.{may_put}
use Rattle.explain_reads_from.proofs.external.is_one_put.Given as goal

-- none of those so far does
abbrev pub invariant-loop-call : goal.invariant-loop-call
invariant-loop-call l = list_any (may_put l.pair) (drop l.call-index l.calls) ≡ list_any (may_put l.pair) l.calls
