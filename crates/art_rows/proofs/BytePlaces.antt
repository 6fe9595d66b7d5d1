-- Bytes at places of words, and the first place in which lists of bytes differ.
use Rattle.art_rows.proofs.Common.{◌≡◌, ℕ, zero, suc, ◌+◌, ◌*◌, ◌/◌, ◌%◌, ◌^◌, ◌<◌, ◌≤◌, List, [], ◌∷◌, length, slice_index, option_map, Bool, true}
use Rattle.art_rows.proofs.Common.{false, refl, sym, ap, subst, ⊎_elim, ◌∙◌, arith, div-one, cases_lt, get_or_past, shr-shr, Kind, low_bytes}
use Rattle.art_rows.proofs.Common.{key_bytes, kind_code, info_of, first_difference}
use Rattle.std.proofs.Common.{Option, Some, None, ◌==◌, if◌then◌else◌}
use Rattle.std.proofs.lemmas.Bool.Decides.{nat_tests}
use Rattle.art_rows.proofs.WriterLemmas.{length-low_bytes}

-- a byte of a word, by a shift
pub low_byte : (n k w : ℕ) → k < n → slice_index (low_bytes n w) k ≡ w / 2 ^ (8 * k) % 256
low_byte zero k w h = absurd (omega (arith, h))
low_byte (suc n) zero w h = ap (λ (v : ℕ). v % 256) (sym (div-one w))
low_byte (suc n) (suc k) w h =
    low_byte n k (w / 256) (omega (arith, h))
    ∙ ap (λ (v : ℕ). v % 256) (shr-shr w 8 (8 * k))
    ∙ ap (λ (m : ℕ). w / 2 ^ m % 256) (omega arith)

-- the path of an info word
path_is : (kind : Kind) (w : ℕ) → (info_of kind w).path ≡ low_bytes (info_of kind w).level (w / 256)
path_is kind w = grind arith

pub length-path : (kind : Kind) (w : ℕ) → length (info_of kind w).path ≡ (info_of kind w).level
length-path kind w = ap length (path_is kind w) ∙ length-low_bytes (info_of kind w).level (w / 256)

pub path_at : (kind : Kind) (w k : ℕ) → k < (info_of kind w).level → k < 8
    → slice_index (low_bytes 8 (w / 256)) k ≡ slice_index (info_of kind w).path k
path_at kind w k h few =
    low_byte 8 k (w / 256) few
    ∙ sym (low_byte (info_of kind w).level k (w / 256) h)
    ∙ ap (λ (xs : List ℕ). slice_index xs k) (sym (path_is kind w))

pub path_past : (kind : Kind) (w k : ℕ) → (info_of kind w).level ≤ k → slice_index (info_of kind w).path k ≡ 0
path_past kind w k h = get_or_past (info_of kind w).path k 0 (omega (arith, length-path kind w, h))

-- bytes that are the same up to a place, and there
pub same_more : (xs ys : List ℕ) (n : ℕ) → ((k : ℕ) → k < n → slice_index xs k ≡ slice_index ys k) → slice_index xs n ≡ slice_index ys n
    → (k : ℕ) → k < n + 1 → slice_index xs k ≡ slice_index ys k
same_more xs ys n before here k h = ⊎_elim (λ less. before k less)
    (λ most. let is : k ≡ n = omega (arith, h, most) in subst (λ (j : ℕ). slice_index xs j ≡ slice_index ys j) (sym is) here) (cases_lt k n)

-- the first difference is at the first place that holds different bytes
pub difference_at : (xs ys : List ℕ) (n : ℕ) → n < length xs → n < length ys → ((k : ℕ) → k < n → slice_index xs k ≡ slice_index ys k)
    → (slice_index xs n ≡ slice_index ys n → ⊥) → first_difference xs ys ≡ Some n
difference_at [] ys n h i same differ = absurd (omega (arith, h))
difference_at (x ∷ xs) [] n h i same differ = absurd (omega (arith, i))
difference_at (x ∷ xs) (y ∷ ys) zero h i same differ =
    ap (λ (b : Bool). if b then option_map (λ d. d + 1) (first_difference xs ys) else Some 0) (unlike differ)
  where
    unlike : (x ≡ y → ⊥) → (x == y) ≡ false
    unlike d = grind (arith, nat_tests, d)
difference_at (x ∷ xs) (y ∷ ys) (suc n) h i same differ =
    ap (λ (b : Bool). if b then option_map (λ d. d + 1) (first_difference xs ys) else Some 0) (alike (same 0 (omega arith)))
    ∙ ap (option_map (λ d. d + 1)) (difference_at xs ys n (omega (arith, h)) (omega (arith, i)) (λ k l. same (suc k) (omega (arith, l))) differ)
    ∙ ap Some (omega arith)
  where
    alike : x ≡ y → (x == y) ≡ true
    alike e = grind (arith, nat_tests, e)

-- there is none in a list with whose bytes the other begins
pub difference_none : (xs ys : List ℕ) → length xs ≤ length ys → ((k : ℕ) → k < length xs → slice_index xs k ≡ slice_index ys k)
    → first_difference xs ys ≡ None
difference_none [] ys h same = refl
difference_none (x ∷ xs) [] h same = refl
difference_none (x ∷ xs) (y ∷ ys) h same =
    ap (λ (b : Bool). if b then option_map (λ d. d + 1) (first_difference xs ys) else Some 0) (alike (same 0 (omega arith)))
    ∙ ap (option_map (λ d. d + 1)) (difference_none xs ys (omega (arith, h)) (λ k l. same (suc k) (omega (arith, l))))
  where
    alike : x ≡ y → (x == y) ≡ true
    alike e = grind (arith, nat_tests, e)
