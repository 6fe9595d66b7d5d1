-- Bytes of words and of keys, and places among them, are small.
use Rattle.art_rows.proofs.Common.{◌≡◌, ℕ, zero, suc, ◌+◌, ◌/◌, ◌%◌, ◌<◌, ◌≤◌, List, [], ◌∷◌, length, slice_index, map, option_map, Bool, true, false}
use Rattle.art_rows.proofs.Common.{refl, sym, ap, ◌∙◌, arith, eqb-true, same_Some, none-some, key_bytes, low_bytes, keys4_of, keys16_of, place_of}
use Rattle.art_rows.proofs.Common.{entry_of, entries_of}
use Rattle.std.proofs.Common.{◌==◌, length-take, Option, Some, None, nat_le, if◌then◌else◌}
use Rattle.art_rows.proofs.WriterLemmas.{length-low_bytes}

pub key_byte-small : (key i : ℕ) → slice_index (key_bytes key) i < 256
key_byte-small key zero = omega arith
key_byte-small key (suc zero) = omega arith
key_byte-small key (suc (suc zero)) = omega arith
key_byte-small key (suc (suc (suc zero))) = omega arith
key_byte-small key (suc (suc (suc (suc i)))) = omega arith

pub keys4-few : (w : ℕ) → length (keys4_of w) ≤ 4
keys4-few w = go (nat_le (w % 256) 4) refl
  where
    go : (b : Bool) → nat_le (w % 256) 4 ≡ b → length (if b then low_bytes (w % 256) (w / 256) else []) ≤ 4
    go true e = rw length-low_bytes (grind arith)
    go false e = omega arith

pub keys16-few : (count first second : ℕ) → length (keys16_of count first second) ≤ 16
keys16-few count first second = rw length-take (omega arith)

pub low_byte-small : (n w i : ℕ) → slice_index (low_bytes n w) i < 256
low_byte-small zero w i = omega arith
low_byte-small (suc n) w zero = omega arith
low_byte-small (suc n) w (suc i) = low_byte-small n (w / 256) i

-- the byte at the place of a byte
pub place-within : (x : ℕ) (keys : List ℕ) (i : ℕ) → place_of x keys ≡ Some i → (i < length keys) × (slice_index keys i ≡ x)
place-within x [] i h = absurd (none-some i h)
place-within x (y ∷ ys) i h = go (y == x) refl (λ k is. place-within x ys k is) h
  where
    later : (o : Option ℕ) → ((k : ℕ) → o ≡ Some k → (k < length ys) × (slice_index ys k ≡ x)) → option_map (λ k. k + 1) o ≡ Some i
        → (i < suc (length ys)) × (slice_index (y ∷ ys) i ≡ x)
    later None low e = absurd (none-some i e)
    later (Some k) low e =
        let is : i ≡ suc k = omega (arith, same_Some (k + 1) i e) in
        (omega (arith, (low k refl).0, is), ap (λ n. slice_index (y ∷ ys) n) is ∙ (low k refl).1)

    go : (b : Bool) → (y == x) ≡ b → ((k : ℕ) → place_of x ys ≡ Some k → (k < length ys) × (slice_index ys k ≡ x))
        → (if b then Some 0 else option_map (λ k. k + 1) (place_of x ys)) ≡ Some i → (i < suc (length ys)) × (slice_index (y ∷ ys) i ≡ x)
    go true is low e =
        let first : i ≡ 0 = sym (same_Some 0 i e) in
        (omega (arith, first), ap (λ n. slice_index (y ∷ ys) n) first ∙ eqb-true y x is)
    go false is low e = later (place_of x ys) low e

-- an index entry is at most 48
pub entry-most : (e : ℕ) → entry_of e ≤ 48
entry-most e = grind arith

mapped-most : (f : ℕ → ℕ) (m : ℕ) → ((y : ℕ) → f y ≤ m) → (xs : List ℕ) (k : ℕ) → slice_index (map f xs) k ≤ m
mapped-most f m h [] k = omega arith
mapped-most f m h (x ∷ xs) zero = h x
mapped-most f m h (x ∷ xs) (suc k) = mapped-most f m h xs k

pub entry_list-most : (es : List ℕ) (k : ℕ) → slice_index (map entry_of es) k ≤ 48
entry_list-most es k = mapped-most entry_of 48 entry-most es k

pub entries-most : (w k : ℕ) → slice_index (entries_of w) k ≤ 48
entries-most w k = entry_list-most (low_bytes 8 w) k
