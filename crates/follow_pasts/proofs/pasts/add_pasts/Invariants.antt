use Rattle.follow_pasts.proofs.Common.{◌≡◌, ◌++◌, into_iter_items}
use Rattle.follow_pasts.proofs.pasts.add_pasts.Given as goal

-- the pasts so far, and the rest, are all
abbrev pub invariant-loop-other : goal.invariant-loop-other
invariant-loop-other l = l.pasts.items ++ into_iter_items l.other-iterator ≡ l.fn.pasts.items ++ l.fn.others.items
