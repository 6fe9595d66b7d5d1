use Rattle.memo.proofs.Common.{◌≡◌, ℕ, ◌*◌, ◌-◌, ◌<◌, ◌≤◌, length, bit_of}
use Rattle.memo.proofs.words.ones_of.Given as goal

-- all bits of the words passed are set
abbrev pub invariant-loop-full : goal.invariant-loop-full
invariant-loop-full l = (l.full ≤ length l.words) × ((n : ℕ) → n < 64 * l.full → bit_of l.words n ≡ 1)

abbrev pub decreases-loop-full : goal.decreases-loop-full
decreases-loop-full l = length l.words - l.full
