-- The key words of a row that grows from kind 4.
use Rattle.std.proofs.Common.{◌≡◌, ℕ, take, ap, arith}
use Rattle.art_rows.specs.Words.{packed, keys4_of, new_place, with_key, more_keys16_word}
use Rattle.art_rows.proofs.WriterLemmas.{length-put_in, drop_whole}
use Rattle.art_rows.proofs.ByteLemmas.{keys4-few}

-- the second key word of a row that has five keys
pub second_key_word : (x w : ℕ) → more_keys16_word (with_key x (keys4_of w)) ≡ 0
second_key_word x w =
    ap (λ ys. packed (take 8 ys))
    (drop_whole 8 (with_key x (keys4_of w)) (omega (arith, length-put_in x (new_place x (keys4_of w)) (keys4_of w), keys4-few w)))
