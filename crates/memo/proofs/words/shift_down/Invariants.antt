use Rattle.memo.proofs.Common.{◌≡◌, map, range_with_len, shifted_word}
use Rattle.memo.proofs.words.shift_down.Given as goal

-- the words below were moved
abbrev pub invariant-loop-at : goal.invariant-loop-at
invariant-loop-at l = l.moved.items ≡ map (shifted_word l.words l.count) (range_with_len 0 l.at)
