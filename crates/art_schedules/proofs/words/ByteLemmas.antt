-- Bytes packed in a word are read back.
use Rattle.art_schedules.proofs.Common.{◌≡◌, ℕ, suc, ◌+◌, ◌-◌, ◌*◌, ◌/◌, ◌%◌, ◌^◌, ◌<◌, ◌≤◌, List, [], ◌∷◌, ◌++◌, length, take, drop, refl, ap, sym}
use Rattle.art_schedules.proofs.Common.{◌∙◌, ⊎_elim, arith, nat_le, All, cases_lt, le-leb, lt-leb, length-take, All-nil, All-cons, All-head}
use Rattle.art_schedules.proofs.Common.{All-tail, All-take, All-drop, packed, low_bytes, key_bytes, count_of, keys4_of, keys16_of, keys4_word}
use Rattle.art_schedules.proofs.Common.{keys16_word, more_keys16_word, low_byte-small, key_byte-small, most_of}
use Rattle.std.specs.Prelude.{slice_index, if◌then◌else◌}
use Rattle.std.proofs.Math.Nat.{pow-suc, pow-le-pow_right}
use Rattle.std.proofs.lemmas.List.{take-append-drop, length-drop}
use Rattle.art_rows.proofs.ReaderLemmas.{bytes_of, take_bytes}
use Rattle.art_rows.proofs.WriterLemmas.{take_whole}

-- each number is a byte
abbrev pub AreBytes : List ℕ → Type 0
AreBytes xs = All (λ x. x < 256) xs

-- bytes by their places are all the bytes
pub bytes-small : (xs : List ℕ) → ((i : ℕ) → slice_index xs i < 256) → AreBytes xs
bytes-small [] h = All-nil (λ x. x < 256)
bytes-small (x ∷ xs) h = All-cons (λ x. x < 256) x xs (h 0) (bytes-small xs (λ i. h (suc i)))

pub low_bytes-small : (n w : ℕ) → AreBytes (low_bytes n w)
low_bytes-small n w = bytes-small (low_bytes n w) (low_byte-small n w)

pub key_bytes-small : (key : ℕ) → AreBytes (key_bytes key)
key_bytes-small key = bytes-small (key_bytes key) (key_byte-small key)

-- the lowest byte and the others
pub first_byte : (b r : ℕ) → b < 256 → (b + 256 * r) % 256 ≡ b
first_byte b r h = omega (arith, h)

pub other_bytes : (b r : ℕ) → b < 256 → (b + 256 * r) / 256 ≡ r
other_bytes b r h = omega (arith, h)

pub low_bytes-packed : (xs : List ℕ) → AreBytes xs → low_bytes (length xs) (packed xs) ≡ xs
low_bytes-packed [] h = refl
low_bytes-packed (x ∷ xs) h =
    let small : x < 256 = All-head (λ x. x < 256) x xs h in
    ap (λ y. y ∷ low_bytes (length xs) ((x + 256 * packed xs) / 256)) (first_byte x (packed xs) small)
    ∙ ap (λ w. x ∷ low_bytes (length xs) w) (other_bytes x (packed xs) small)
    ∙ ap (λ ys. x ∷ ys) (low_bytes-packed xs (All-tail (λ x. x < 256) x xs h))

pub packed-below : (xs : List ℕ) → AreBytes xs → packed xs < 256 ^ length xs
packed-below [] h = omega arith
packed-below (x ∷ xs) h =
    let small : x < 256 = All-head (λ x. x < 256) x xs h in
    let rest : packed xs < 256 ^ length xs = packed-below xs (All-tail (λ x. x < 256) x xs h) in
    omega (arith, pow-suc 256 (length xs), small, rest)

pub packed-most : (n : ℕ) (xs : List ℕ) → AreBytes xs → length xs ≤ n → packed xs < 256 ^ n
packed-most n xs h few =
    let most : 256 ^ length xs ≤ 256 ^ n = pow-le-pow_right (omega arith) few in
    omega (arith, most, packed-below xs h)

-- kind 4
pub keys4_back : (keys : List ℕ) → length keys ≤ 4 → AreBytes keys → keys4_of (keys4_word keys) ≡ keys
keys4_back keys few h =
    let n : (length keys + 256 * packed keys) % 256 ≡ length keys = first_byte (length keys) (packed keys) (omega (arith, few)) in
    let r : (length keys + 256 * packed keys) / 256 ≡ packed keys = other_bytes (length keys) (packed keys) (omega (arith, few)) in
    ap (λ k. if nat_le k 4 then low_bytes k ((length keys + 256 * packed keys) / 256) else []) n
    ∙ ap (λ w. if nat_le (length keys) 4 then low_bytes (length keys) w else []) r
    ∙ ap (λ b. if b then low_bytes (length keys) (packed keys) else []) (le-leb (length keys) 4 few)
    ∙ low_bytes-packed keys h

-- kind 16
low_of : (n : ℕ) (xs : List ℕ) → AreBytes xs → length xs ≡ n → low_bytes n (packed xs) ≡ xs
low_of n xs h e = ap (λ k. low_bytes k (packed xs)) (sym e) ∙ low_bytes-packed xs h

bytes_back : (keys : List ℕ) → length keys ≤ 16 → AreBytes keys → bytes_of (length keys) (keys16_word keys) (more_keys16_word keys) ≡ keys
bytes_back keys few h = ⊎_elim many some (cases_lt 8 (length keys))
  where
    some : length keys ≤ 8 → bytes_of (length keys) (keys16_word keys) (more_keys16_word keys) ≡ keys
    some l =
        ap (λ b. if b then low_bytes (length keys) (keys16_word keys)
        else low_bytes 8 (keys16_word keys) ++ low_bytes (length keys - 8) (more_keys16_word keys)) (le-leb (length keys) 8 l)
        ∙ ap (λ xs. low_bytes (length keys) (packed xs)) (take_whole 8 keys l)
        ∙ low_bytes-packed keys h

    many : 8 < length keys → bytes_of (length keys) (keys16_word keys) (more_keys16_word keys) ≡ keys
    many l =
        ap (λ b. if b then low_bytes (length keys) (keys16_word keys)
        else low_bytes 8 (keys16_word keys) ++ low_bytes (length keys - 8) (more_keys16_word keys)) (lt-leb (length keys) 8 l)
        ∙ ap (λ xs. xs ++ low_bytes (length keys - 8) (more_keys16_word keys))
        (low_of 8 (take 8 keys) (All-take (λ x. x < 256) 8 keys h) (length-take 8 keys ∙ omega (arith, l)))
        ∙ ap (λ xs. take 8 keys ++ low_bytes (length keys - 8) (packed xs))
        (take_whole 8 (drop 8 keys) (omega (arith, length-drop 8 keys, few)))
        ∙ ap (λ xs. take 8 keys ++ xs) (low_of (length keys - 8) (drop 8 keys) (All-drop (λ x. x < 256) 8 keys h) (length-drop 8 keys))
        ∙ take-append-drop 8 keys

pub keys16_back : (keys : List ℕ) → length keys ≤ 16 → AreBytes keys
    → keys16_of (length keys) (keys16_word keys) (more_keys16_word keys) ≡ keys
keys16_back keys few h =
    take_bytes (count_of 16 (length keys)) (keys16_word keys) (more_keys16_word keys) (most_of (length keys))
    ∙ ap (λ b. bytes_of (if b then length keys else 0) (keys16_word keys) (more_keys16_word keys)) (le-leb (length keys) 16 few)
    ∙ bytes_back keys few h

-- the words have 64 bits
pub keys4_below : (keys : List ℕ) → length keys ≤ 4 → AreBytes keys → keys4_word keys < 2 ^ 64
keys4_below keys few h = let r : packed keys < 256 ^ 4 = packed-most 4 keys h few in omega (arith, few, r)

pub keys16_below : (keys : List ℕ) → AreBytes keys → (keys16_word keys < 2 ^ 64) × (more_keys16_word keys < 2 ^ 64)
keys16_below keys h = (
  packed-most 8 (take 8 keys) (All-take (λ x. x < 256) 8 keys h) (omega (arith, length-take 8 keys)),
  packed-most 8 (take 8 (drop 8 keys)) (All-take (λ x. x < 256) 8 (drop 8 keys) (All-drop (λ x. x < 256) 8 keys h))
      (omega (arith, length-take 8 (drop 8 keys))),
)
