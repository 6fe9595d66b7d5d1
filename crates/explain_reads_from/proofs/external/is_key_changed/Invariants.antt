use Rattle.std.proofs.Common.{◌≡◌, drop}
use Rattle.std.specs.List.{list_any}
use Rattle.explain_reads_from.specs.External.{may_change}
use Rattle.explain_reads_from.proofs.external.is_key_changed.Given as goal

-- none of those so far does
abbrev pub invariant-loop-call : goal.invariant-loop-call
invariant-loop-call l = list_any (may_change l.key) (drop l.call-index l.calls) ≡ list_any (may_change l.key) l.calls
