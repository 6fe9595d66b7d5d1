-- Those so far do not precede the call.
use Rattle.cli_explain.proofs.Common.{◌≡◌, drop, is_preceded}
use Rattle.cli_explain.proofs.longest_fronts.is_preceded.Given as goal

abbrev pub invariant-loop-other : goal.invariant-loop-other
invariant-loop-other l = is_preceded (drop l.other-index l.rest) l.call ≡ is_preceded l.rest l.call
