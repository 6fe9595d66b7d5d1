use Rattle.std.proofs.Common.{take}
use Rattle.follow_pasts.proofs.TakenLemmas.{AreTaken}
use Rattle.follow_pasts.proofs.uniting.take_range.Given as goal

-- the keys so far were taken
abbrev pub invariant-loop-key : goal.invariant-loop-key
invariant-loop-key l = AreTaken l.fn.rest l.rest l.pairs.items (take l.key-index l.key-items)
