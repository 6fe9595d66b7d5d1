use Rattle.memo.proofs.Common.{◌≡◌, ℕ, length, bit_of}
use Rattle.memo.proofs.words.without_zeros.Given as goal

-- each bit is as it was
abbrev pub invariant-loop-words : goal.invariant-loop-words
invariant-loop-words l = (n : ℕ) → bit_of l.words.items n ≡ bit_of l.fn.words.items n

abbrev pub decreases-loop-words : goal.decreases-loop-words
decreases-loop-words l = length l.words.items
