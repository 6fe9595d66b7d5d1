use Rattle.std.proofs.Common.{◌≡◌, take}
use Rattle.follow_pasts.proofs.MergeLemmas.{AreMerging}
use Rattle.follow_pasts.proofs.uniting.calls_together.Given as goal

-- the calls so far
abbrev pub invariant-loop-own : goal.invariant-loop-own
invariant-loop-own l = l.all.items ≡ take l.own-index l.calls

-- the result is right for the others so far
abbrev pub invariant-loop-other : goal.invariant-loop-other
invariant-loop-other l = AreMerging l.calls l.others l.all.items l.other-index
