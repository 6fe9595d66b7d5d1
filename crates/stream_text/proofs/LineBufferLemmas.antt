-- What is between two places of a buffer.
use Rattle.stream_text.proofs.Common.{◌≡◌, ℕ, ◌+◌, ◌-◌, ◌≤◌, min, List, ◌++◌, length, take, drop, sym, ap, ◌∙◌, length-take, length-drop, arith}
use Rattle.stream_text.proofs.Common.{between, take-take, drop-drop, drop_min, drop-append-le, take_at, length-take-le, take-add}
use Rattle.std.proofs.lemmas.Slice.{between_is}

-- the first of what is there
pub between_front : (xs : List ℕ) (from to count : ℕ) → from + count ≤ to → between from (from + count) xs ≡ take count (between from to xs)
between_front xs from to count within =
    let size : from + count - from ≡ count = omega arith in
    rw size (sym (take-take count (to - from) (drop from xs) (omega arith)))

-- what comes after it and one more
pub between_rest : (xs : List ℕ) (from to count : ℕ) → from ≤ to → to ≤ length xs
    → between (min to (from + count + 1)) to xs ≡ drop (count + 1) (between from to xs)
between_rest xs from to count order within =
    let size : length (take to xs) ≡ to = length-take-le to xs within in
    let same : min to (from + count + 1) ≡ min (from + (count + 1)) (length (take to xs)) = omega arith in
    between_is xs (min to (from + count + 1)) to
    ∙ (ap (λ i. drop i (take to xs)) same
    ∙ (drop_min (from + (count + 1)) (take to xs)
    ∙ (sym (drop-drop (count + 1) from (take to xs)) ∙ ap (drop (count + 1)) (sym (between_is xs from to)))))

-- what was put after it
pub between_grown : (old new : List ℕ) (from to count : ℕ) → from ≤ to → to + count ≤ length new → take to new ≡ take to old
    → between from (to + count) new ≡ between from to old ++ between to (to + count) new
between_grown old new from to count order within kept =
    let size : length (take to new) ≡ to = length-take-le to new (omega arith) in
    let more : to + count - to ≡ count = omega arith in
    between_is new from (to + count)
    ∙ (ap (drop from) (take-add to count new)
    ∙ (drop-append-le from (take to new) (take count (drop to new)) (omega arith)
    ∙ (ap (λ xs. drop from xs ++ take count (drop to new)) kept
    ∙ rw more (ap (λ xs. xs ++ take count (drop to new)) (sym (between_is old from to))))))

-- how many bytes are between two places
pub length_between : (xs : List ℕ) (from to : ℕ) → from ≤ to → to ≤ length xs → length (between from to xs) ≡ to - from
length_between xs from to order within = omega (arith, length-take (to - from) (drop from xs), length-drop from xs)

-- what comes before a place is between places before it
pub between_same : (xs ys : List ℕ) (i j : ℕ) → take j xs ≡ take j ys → between i j xs ≡ between i j ys
between_same xs ys i j h = between_is xs i j ∙ (ap (drop i) h ∙ sym (between_is ys i j))

-- a buffer of which all was written is what was written
pub written_back : (n : ℕ) (xs rest : List ℕ) → length xs ≡ n → take n (xs ++ rest) ≡ xs
written_back n xs rest size = take_at xs rest n size

-- ---- a buffer in which room was made, and which was then read into

-- what a buffer holds in the end
abbrev pub written : List ℕ → List ℕ → List ℕ → ℕ → List ℕ
written items room read len = take len (read ++ drop (length read) (take len (room ++ drop (length room) items)))

module _
    (items room old read bytes : List ℕ) (len a b : ℕ) (size : length items ≡ len) (as_long : length room ≡ length items)
    (moved : between a b room ≡ bytes) (was : old ≡ take len (room ++ drop (length room) items))
    (still : length read ≡ length old) (before : take b read ≡ take b old) where
  old_is : old ≡ room
  old_is = was ∙ written_back len room (drop (length room) items) (as_long ∙ size)

  written_is : written items room read len ≡ read
  written_is =
      let long : length read ≡ len = still ∙ (ap (λ (xs : List ℕ). length xs) old_is ∙ (as_long ∙ size)) in
      written_back len read (drop (length read) (take len (room ++ drop (length room) items))) long

  -- what was there is there
  pub kept_before : between a b (written items room read len) ≡ bytes
  kept_before = ap (between a b) written_is ∙ (between_same read room a b (before ∙ ap (take b) old_is) ∙ moved)

  -- what was read comes after the bytes
  pub grown_behind : (count : ℕ) → a ≤ b → b + count ≤ length read
      → between a (b + count) (written items room read len) ≡ bytes ++ between b (b + count) read
  grown_behind count order within =
      ap (between a (b + count)) written_is
      ∙ (between_grown room read a b count order within (before ∙ ap (take b) old_is) ∙ ap (λ xs. xs ++ between b (b + count) read) moved)
