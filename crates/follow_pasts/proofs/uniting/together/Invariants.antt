use Rattle.std.proofs.Common.{◌≡◌, ◌++◌, take}
use Rattle.follow_pasts.proofs.uniting.together.Given as goal

-- what was found so far
abbrev pub invariant-loop-one : goal.invariant-loop-one
invariant-loop-one l = l.found.items ≡ l.past.found.items ++ take l.one-index l.other.found.items
