use Rattle.memo.proofs.Common.{◌≡◌, ◌%◌, ◌^◌, take, sum_by, mix_pair}
use Rattle.memo.proofs.digests.sum_of.Given as goal

-- the pairs passed are summed
abbrev pub invariant-loop-pair : goal.invariant-loop-pair
invariant-loop-pair l = l.sum ≡ sum_by mix_pair (take l.pair-index l.pairs) % 2 ^ 64
