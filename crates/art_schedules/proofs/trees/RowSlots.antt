-- Where the slot of a byte is in its row, and that two bytes have two.
use Rattle.art_schedules.proofs.Common.{◌≡◌, ℕ, suc, ◌+◌, ◌-◌, ◌%◌, ◌<◌, ◌≤◌, List, [], ◌∷◌, length, Bool, true}
use Rattle.art_schedules.proofs.Common.{false, refl, sym, ap, ◌∙◌, subst, arith, none-some, same_Some, Kind, Four, Sixteen}
use Rattle.art_schedules.proofs.Common.{FortyEight, Full, row_words, keys_at, more_keys_at, index_at, count_at, child_at, place_of, keys4_of}
use Rattle.art_schedules.proofs.Common.{keys16_of, entries_of, low_bytes, most_of, length-keys16, length-keys4, entry_list-most, place-within}
use Rattle.art_schedules.proofs.Common.{slot_of, HasForm}
use Rattle.std.proofs.Common.{Option, option_map, ◌==◌, slice_index, Some, None, if◌then◌else◌}
use Rattle.std.proofs.lemmas.Bool.{eqb-true}

-- a word of the row after its version
abbrev pub IsWithin : ℕ → Kind → ℕ → Type 0
IsWithin base kind slot = (j : ℕ) × (slot ≡ base + j) × (1 ≤ j) × (j < row_words kind)

-- a slot among this many children
slot_within : (base : ℕ) (kind : Kind) (first n : ℕ) (o : Option ℕ) (slot : ℕ) → 1 ≤ first → first + n ≤ row_words kind
    → ((i : ℕ) → o ≡ Some i → i < n)
    → option_map (λ i. base + first + i) o ≡ Some slot → IsWithin base kind slot
slot_within base kind first n None slot low high within e = absurd (none-some slot e)
slot_within base kind first n (Some i) slot low high within e =
    let few = within i refl in
    let is = same_Some (base + first + i) slot e in
    (first + i, omega (arith, is), omega (arith, low), omega (arith, few, high))

entry_within : (base e slot : ℕ) (b : Bool) → (e == 0) ≡ b → e ≤ 48
    → (if b then None else Some (child_at FortyEight base (e - 1))) ≡ Some slot
    → IsWithin base FortyEight slot
entry_within base e slot true is most h = absurd (none-some slot h)
entry_within base e slot false is most h =
    let same = same_Some (child_at FortyEight base (e - 1)) slot h in
    (35 + (e - 1), omega (arith, same), omega arith, omega (arith, most))

-- the slot of a byte is a word of the row
pub slot_inside : (words : List ℕ) (base : ℕ) (kind : Kind) (x slot : ℕ) → x < 256 → slot_of words base kind x ≡ Some slot
    → IsWithin base kind slot
slot_inside words base Four x slot byte h =
    slot_within base Four 3 4 (place_of x (keys4_of (slice_index words (keys_at base)))) slot (omega arith) (omega arith)
    (λ i is. omega (arith, (place-within x (keys4_of (slice_index words (keys_at base))) i is).0, few (slice_index words (keys_at base)))) h
  where
    few : (w : ℕ) → length (keys4_of w) ≤ 4
    few w = grind (arith, length-keys4 w)
slot_inside words base Sixteen x slot byte h =
    let count = slice_index words (count_at Sixteen base) in
    let first = slice_index words (keys_at base) in
    let second = slice_index words (more_keys_at base) in
    slot_within base Sixteen 5 16 (place_of x (keys16_of count first second)) slot (omega arith) (omega arith)
    (λ i is. omega (arith, (place-within x (keys16_of count first second) i is).0, length-keys16 count first second, most_of count)) h
slot_inside words base FortyEight x slot byte h =
    let e = slice_index (entries_of (slice_index words (index_at base x))) (x % 8) in
    entry_within base e slot (e == 0) refl (entry_list-most (low_bytes 8 (slice_index words (index_at base x))) (x % 8)) h
slot_inside words base Full x slot byte h =
    let same = same_Some (child_at Full base x) slot h in
    (2 + x, omega (arith, same), omega arith, omega (arith, byte))

-- the byte at its place
byte_of_place : (x : ℕ) (ys : List ℕ) (i : ℕ) → place_of x ys ≡ Some i → slice_index ys i ≡ x
byte_of_place x [] i h = absurd (none-some i h)
byte_of_place x (y ∷ ys) i h = go (y == x) refl (λ k is. byte_of_place x ys k is) h
  where
    later : (o : Option ℕ) → ((k : ℕ) → o ≡ Some k → slice_index ys k ≡ x) → option_map (λ k. k + 1) o ≡ Some i → slice_index (y ∷ ys) i ≡ x
    later None rest e = absurd (none-some i e)
    later (Some k) rest e = subst (λ n. slice_index (y ∷ ys) n ≡ x) at (rest k refl)
      where
        at : suc k ≡ i
        at = omega (arith, same_Some (k + 1) i e)

    go : (b : Bool) → (y == x) ≡ b → ((k : ℕ) → place_of x ys ≡ Some k → slice_index ys k ≡ x)
        → (if b then Some 0 else option_map (λ k. k + 1) (place_of x ys)) ≡ Some i → slice_index (y ∷ ys) i ≡ x
    go true same rest e = subst (λ n. slice_index (y ∷ ys) n ≡ x) (same_Some 0 i e) (eqb-true y x same)
    go false same rest e = later (place_of x ys) rest e

-- bytes with one place are one
one_byte : (x y first : ℕ) (ys : List ℕ) (slot : ℕ) → option_map (λ i. first + i) (place_of x ys) ≡ Some slot
    → option_map (λ i. first + i) (place_of y ys) ≡ Some slot → x ≡ y
one_byte x y first ys slot here there = go (place_of x ys) (place_of y ys) refl refl here there
  where
    go : (o p : Option ℕ) → place_of x ys ≡ o → place_of y ys ≡ p → option_map (λ i. first + i) o ≡ Some slot
        → option_map (λ i. first + i) p ≡ Some slot
        → x ≡ y
    go None p a b h k = absurd (none-some slot h)
    go (Some i) None a b h k = absurd (none-some slot k)
    go (Some i) (Some j) a b h k =
        let same : i ≡ j = omega (arith, same_Some (first + i) slot h, same_Some (first + j) slot k) in
        sym (byte_of_place x ys i a) ∙ (ap (λ n. slice_index ys n) same ∙ byte_of_place y ys j b)

pub one_slot : (words : List ℕ) (base : ℕ) (kind : Kind) (x y slot : ℕ) → HasForm words base kind → x < 256 → y < 256
    → slot_of words base kind x ≡ Some slot
    → slot_of words base kind y ≡ Some slot → x ≡ y
one_slot words base Four x y slot form low high here there =
    one_byte x y (base + 3) (keys4_of (slice_index words (keys_at base))) slot here there
one_slot words base Sixteen x y slot form low high here there =
    one_byte x y (base + 5)
    (keys16_of (slice_index words (count_at Sixteen base)) (slice_index words (keys_at base))
    (slice_index words (more_keys_at base))) slot here there
one_slot words base FortyEight x y slot form low high here there = form.1 x y slot low high here there
one_slot words base Full x y slot form low high here there =
    omega (arith, same_Some (child_at Full base x) slot here, same_Some (child_at Full base y) slot there)
