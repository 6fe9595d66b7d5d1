use Rattle.std.proofs.Common.{◌≡◌, take}
use Rattle.follow_violations.proofs.own_parts.copies_of.Given as goal

-- the calls so far
abbrev pub invariant-loop-call : goal.invariant-loop-call
invariant-loop-call l = l.copies.items ≡ take l.call-index l.calls
