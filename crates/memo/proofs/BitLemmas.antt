-- Bits of words: one more is set, the lowest are dropped, zeros at the end are dropped.
use Rattle.memo.proofs.Common.{◌≡◌, ℕ, ◌+◌, ◌-◌, ◌*◌, ◌/◌, ◌%◌, ◌^◌, ◌<◌, ◌≤◌, List, ◌∷◌, [], ◌++◌, length, map, take, drop, replicate, set, get_or}
use Rattle.memo.proofs.Common.{max, sym, ap, ap₂, ◌∙◌, ⊎_elim, w64, length-set, get_or-set_same, get_or-set_other, arith, ◌≢◌, bit_or, bit_at}
use Rattle.memo.proofs.Common.{trailing_ones, range_with_len, cases_lt, cases_eq, get_or_past, get_or-drop, get_or-replicate, take_all}
use Rattle.memo.proofs.Common.{length-replicate, length-append, length-map-range_with_len, get_or-map-range_with_len, shr-shr, div-add-mod', pow_pos}
use Rattle.memo.proofs.Common.{or_lt, bit_at-zero, bit_at_or, bit_at_set_same, bit_at_set_other, bit_at_above, bit_at_cat_low, bit_at_cat_high}
use Rattle.memo.proofs.Common.{bit_at_ones, bit_at-trailing_ones, bit_of, IsTrimmed, AreWords, shifted_word}
use Rattle.std.proofs.Math.ListN.{get_or-append}
use Rattle.std.proofs.Math.Seq.{get_or-append_right}
use Rattle.memo.proofs.WordLemmas.{bit_of-past, bit_of-at}

-- words that read alike, with bit n set in one of those of the second list
module _ (words grown : List ℕ) (n : ℕ) (alike : (k : ℕ) → get_or grown k 0 ≡ get_or words k 0) (within : n / 64 < length grown) where
  abbrev word : ℕ
  word = get_or grown (n / 64) 0

  abbrev pub set_word : ℕ
  set_word = bit_or word (1 * 2 ^ (n % 64) % 2 ^ 64)

  abbrev pub with_set : List ℕ
  with_set = set grown (n / 64) set_word

  at_word : get_or with_set (n / 64) 0 ≡ set_word
  at_word = get_or-set_same grown (n / 64) set_word 0 within

  -- the bit is set
  pub set_same : bit_of with_set n ≡ 1
  set_same = ap (λ (w : ℕ). bit_at w (n % 64)) at_word ∙ bit_at_set_same w64 word (n % 64) (omega arith)

  -- the others are as they were
  pub set_other : (m : ℕ) → m ≢ n → bit_of with_set m ≡ bit_of words m
  set_other m other =
      ⊎_elim
      (λ same.
      ap (λ (k : ℕ). bit_at (get_or with_set k 0) (m % 64)) same
      ∙ ap (λ (w : ℕ). bit_at w (m % 64)) at_word
      ∙ bit_at_set_other w64 word (n % 64) (omega arith) (m % 64) (λ is. other (omega (arith, same, is)))
      ∙ ap (λ (k : ℕ). bit_at (get_or grown k 0) (m % 64)) (sym same)
      ∙ ap (λ (w : ℕ). bit_at w (m % 64)) (alike (m / 64)))
      (λ apart.
      ap (λ (w : ℕ). bit_at w (m % 64)) (get_or-set_other grown (n / 64) (m / 64) set_word 0 apart)
      ∙ ap (λ (w : ℕ). bit_at w (m % 64)) (alike (m / 64)))
      (cases_eq (m / 64) (n / 64))

  -- the last word is not 0
  pub set_trimmed : length grown ≡ max (length words) (n / 64 + 1) → IsTrimmed words → IsTrimmed with_set
  set_trimmed len trimmed k last =
      let size : length grown ≡ k + 1 = sym (length-set grown (n / 64) set_word) ∙ last in
      ⊎_elim
      (λ same. ⊎_elim (λ zero. absurd (none same zero)) (λ some. some) (cases_lt (get_or with_set k 0) 1))
      (λ apart.
      let old : get_or with_set k 0 ≡ get_or words k 0 = get_or-set_other grown (n / 64) k set_word 0 apart ∙ alike k in
      omega (arith, old, trimmed k (omega (arith, len, size, apart, within))))
      (cases_eq k (n / 64))
    where
      none : k ≡ n / 64 → get_or with_set k 0 < 1 → ⊥
      none same zero =
          let at : get_or with_set (n / 64) 0 ≡ 0 = ap (λ (j : ℕ). get_or with_set j 0) (sym same) ∙ omega (arith, zero) in
          omega (arith, set_same, ap (λ (w : ℕ). bit_at w (n % 64)) at ∙ bit_at-zero (n % 64))

  -- each word has 64 bits
  pub set_each : AreWords words → AreWords with_set
  set_each each k = ⊎_elim (λ same. omega (
    arith,
    ap (λ (j : ℕ). get_or with_set j 0) same ∙ at_word,
    or_lt 64 word (1 * 2 ^ (n % 64) % 2 ^ 64) (omega (arith, alike (n / 64), each (n / 64))) (omega arith),
  ))
      (λ apart. omega (arith, get_or-set_other grown (n / 64) k set_word 0 apart, alike k, each k)) (cases_eq k (n / 64))

-- bits of the words from one on
pub bit_of-drop : (words : List ℕ) (full n : ℕ) → bit_of (drop full words) n ≡ bit_of words (64 * full + n)
bit_of-drop words full n =
    ap (λ (w : ℕ). bit_at w (n % 64)) (get_or-drop full words (n / 64) 0)
    ∙ sym (bit_of-at words (full + n / 64) (n % 64) (omega arith))
    ∙ ap (bit_of words) (omega arith)

-- the low 64 bits are those of the rest by 2^64
bit_at-mod : (n i : ℕ) → i < 64 → bit_at (n % 2 ^ 64) i ≡ bit_at n i
bit_at-mod n i small = sym (bit_at_cat_low (n / 2 ^ 64) 64 (n % 2 ^ 64) i small) ∙ ap (λ (m : ℕ). bit_at m i) (div-add-mod' n (2 ^ 64))

-- bits moved down
bit_at-down : (word count i : ℕ) → bit_at (word / 2 ^ count / 2 ^ 1) i ≡ bit_at word (i + (count + 1))
bit_at-down word count i =
    ap (λ (m : ℕ). m / 2 ^ i % 2) (shr-shr word count 1)
    ∙ ap (λ (m : ℕ). m % 2) (shr-shr word (count + 1) i)
    ∙ ap (bit_at word) (omega arith)

-- bits moved up: those that come from below are 0
bit_at-up_low : (word k i : ℕ) → i < 64 → i < k → bit_at (word * 2 ^ k % 2 ^ 64) i ≡ 0
bit_at-up_low word k i small low =
    bit_at-mod (word * 2 ^ k) i small ∙ ap (λ (m : ℕ). bit_at m i) (omega arith) ∙ bit_at_cat_low word k 0 i low ∙ bit_at-zero i

-- bits moved up
bit_at-up_high : (word k i : ℕ) → i < 64 → k ≤ i → bit_at (word * 2 ^ k % 2 ^ 64) i ≡ bit_at word (i - k)
bit_at-up_high word k i small high =
    bit_at-mod (word * 2 ^ k) i small ∙ ap (λ (m : ℕ). bit_at m i) (omega arith)
    ∙ bit_at_cat_high word k 0 i (omega (arith, pow_pos k)) high

-- 0 is no more than any number
zero_max : (n : ℕ) → max 0 n ≡ n
zero_max n = omega arith

max_zero : (n : ℕ) → max n 0 ≡ n
max_zero n = omega arith

-- words of which the lowest bits are dropped
module _ (words : List ℕ) (count : ℕ) (few : count < 64) (each : AreWords words) where
  abbrev pub moved : List ℕ
  moved = map (shifted_word words count) (range_with_len 0 (length words))

  -- a bit of a word that was moved
  bit_at-moved : (k i : ℕ) → i < 64 → bit_at (shifted_word words count k) i ≡ bit_of words (64 * k + i + (count + 1))
  bit_at-moved k i small =
      bit_at_or (get_or words k 0 / 2 ^ count / 2 ^ 1) (get_or words (k + 1) 0 * 2 ^ (63 - count) % 2 ^ 64) i
      ∙ ⊎_elim
      (λ low.
      ap₂ max (bit_at-down (get_or words k 0) count i)
      (bit_at-up_low (get_or words (k + 1) 0) (63 - count) i small (omega (arith, low, few)))
      ∙ max_zero (bit_at (get_or words k 0) (i + (count + 1)))
      ∙ sym (bit_of-at words k (i + (count + 1)) low)
      ∙ ap (bit_of words) (omega arith))
      (λ high.
      ap₂ max (bit_at-down (get_or words k 0) count i ∙ bit_at_above (get_or words k 0) 64 (i + (count + 1)) (each k) high)
      (bit_at-up_high (get_or words (k + 1) 0) (63 - count) i small (omega (arith, high, few)))
      ∙ zero_max (bit_at (get_or words (k + 1) 0) (i - (63 - count)))
      ∙ sym (bit_of-at words (k + 1) (i - (63 - count)) (omega (arith, small, few, high)))
      ∙ ap (bit_of words) (omega (arith, high, few)))
      (cases_lt (i + (count + 1)) 64)

  -- each bit is the one that was higher
  pub bit_of-moved : (n : ℕ) → bit_of moved n ≡ bit_of words (n + (count + 1))
  bit_of-moved n =
      ⊎_elim
      (λ within.
      ap (λ (w : ℕ). bit_at w (n % 64)) (get_or-map-range_with_len (shifted_word words count) 0 (length words) (n / 64) (n / 64) 0
      within (omega arith))
      ∙ bit_at-moved (n / 64) (n % 64) (omega arith)
      ∙ ap (bit_of words) (omega arith))
      (λ past.
      bit_of-past moved n (omega (arith, past, length-map-range_with_len (shifted_word words count) 0 (length words)))
      ∙ sym (bit_of-past words (n + (count + 1)) (omega (arith, past))))
      (cases_lt (n / 64) (length words))

-- zeros at the end are read as what is past the end
read_zeros : (words : List ℕ) (count k : ℕ) → get_or (words ++ replicate count 0) k 0 ≡ get_or words k 0
read_zeros words count k =
    ⊎_elim (λ within. get_or-append words (replicate count 0) 0 k within)
    (λ past. get_or-append_right words (replicate count 0) k 0 past ∙ zero (k - length words) ∙ sym (get_or_past words k 0 past))
    (cases_lt k (length words))
  where
    zeros : List ℕ
    zeros = replicate count 0

    zero : (j : ℕ) → get_or zeros j 0 ≡ 0
    zero j = ⊎_elim (λ within. get_or-replicate count j 0 0 within)
        (λ past. get_or_past zeros j 0 (omega (arith, past, length-replicate {A = ℕ} count 0))) (cases_lt j count)

-- a word 0 at the end adds no bit
pub bit_of-push_zero : (words : List ℕ) (n : ℕ) → bit_of (words ++ 0 ∷ []) n ≡ bit_of words n
bit_of-push_zero words n = ap (λ (w : ℕ). bit_at w (n % 64)) (read_zeros words 1 (n / 64))

-- words that were made longer by zeros
module _ (grown words front : List ℕ) (size len : ℕ) (is : grown ≡ take size (front ++ words) ++ replicate (size - len) 0)
    (none : front ≡ [])
    (length_is : len ≡ length words) (longer : length words ≤ size) where
  grown_is : grown ≡ words ++ replicate (size - length words) 0
  grown_is = is ∙ ap₂ (λ (xs : List ℕ) (m : ℕ). take size (xs ++ words) ++ replicate (size - m) 0) none length_is
      ∙ ap (λ (xs : List ℕ). xs ++ replicate (size - length words) 0) (take_all size words longer)

  -- the words read as before
  pub grown_alike : (k : ℕ) → get_or grown k 0 ≡ get_or words k 0
  grown_alike k = ap (λ (xs : List ℕ). get_or xs k 0) grown_is ∙ read_zeros words (size - length words) k

  -- the words have the size
  pub length-grown : length grown ≡ size
  length-grown = ap length grown_is ∙ length-append words (replicate (size - length words) 0)
      ∙ ap (λ (m : ℕ). length words + m) (length-replicate {A = ℕ} (size - length words) 0) ∙ omega (arith, longer)

-- one more word of ones
pub ones_more : (words : List ℕ) (full : ℕ) → get_or words full 0 ≡ 2 ^ 64 - 1 → ((n : ℕ) → n < 64 * full → bit_of words n ≡ 1) → (n : ℕ)
    → n < 64 * (full + 1) → bit_of words n ≡ 1
ones_more words full ones below n within =
    ⊎_elim (λ lower. below n lower)
    (λ here. ap (bit_of words) (omega (arith, here)) ∙ bit_of-at words full (n - 64 * full) (omega (arith, within, here))
    ∙ ap (λ (w : ℕ). bit_at w (n - 64 * full)) ones ∙ bit_at_ones 64 (n - 64 * full) (omega (arith, within, here))) (cases_lt n (64 * full))

-- where the words of ones end, at a word that is not of ones alone
module _ (words : List ℕ) (full : ℕ) (below : (n : ℕ) → n < 64 * full → bit_of words n ≡ 1) (word : ℕ) (is : word ≡ get_or words full 0)
    (not_all : word + 1 < 2 ^ 64) where
  abbrev ones : ℕ
  ones = trailing_ones w64 word

  pub ones_few : ones < 64
  ones_few = (bit_at-trailing_ones w64 word not_all).0

  pub ones_zero : bit_of words (64 * full + ones) ≡ 0
  ones_zero = bit_of-at words full ones ones_few ∙ ap (λ (w : ℕ). bit_at w ones) (sym is) ∙ (bit_at-trailing_ones w64 word not_all).1

  pub ones_below : (n : ℕ) → n < 64 * full + ones → bit_of words n ≡ 1
  ones_below n within =
      ⊎_elim (λ lower. below n lower)
      (λ here. ap (bit_of words) (omega (arith, here)) ∙ bit_of-at words full (n - 64 * full) (omega (arith, within, here, ones_few))
      ∙ ap (λ (w : ℕ). bit_at w (n - 64 * full)) (sym is)
      ∙ (bit_at-trailing_ones w64 word not_all).2 (n - 64 * full) (omega (arith, within, here))) (cases_lt n (64 * full))
