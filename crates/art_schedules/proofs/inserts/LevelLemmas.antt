-- Where a key parts from a child's keys is below the row's level, and a row has no more keys than its kind can have.
use Rattle.art_schedules.proofs.Common.{◌≡◌, ℕ, zero, suc, ◌+◌, ◌≤◌, List, [], ◌∷◌, length, take, Bool, true, false}
use Rattle.art_schedules.proofs.Common.{refl, arith, eqb-false, none-some, same_Some, Call, Kind, Four, Sixteen, FortyEight, Full}
use Rattle.art_schedules.proofs.Common.{capacity, count_at, keys_at, more_keys_at, first_difference, count_of, most_of, length-keys16, length-keys4}
use Rattle.art_schedules.proofs.Common.{keys4_of, is_insert, count_in_row}
use Rattle.std.proofs.Common.{Option, nat_le, option_map, ◌==◌, slice_index, Some, None, if◌then◌else◌}

-- lists that begin alike differ first after that
pub differ-behind : (k : ℕ) (xs ys : List ℕ) (d : ℕ) → take k xs ≡ take k ys → k ≤ length xs → first_difference xs ys ≡ Some d → k ≤ d
differ-behind zero xs ys d same long e = omega arith
differ-behind (suc k) [] ys d same long e = absurd (none-some d e)
differ-behind (suc k) (x ∷ xs) [] d same long e = absurd (none-some d e)
differ-behind (suc k) (x ∷ xs) (y ∷ ys) d same long e =
    go (x == y) refl (λ i f. differ-behind k xs ys i (tails same) (omega (arith, long)) f) e
  where
    tails : x ∷ take k xs ≡ y ∷ take k ys → take k xs ≡ take k ys
    tails h = cc

    heads : x ∷ take k xs ≡ y ∷ take k ys → x ≡ y
    heads h = cc

    later : (o : Option ℕ) → first_difference xs ys ≡ o → ((i : ℕ) → first_difference xs ys ≡ Some i → k ≤ i)
        → option_map (λ i. i + 1) o ≡ Some d
        → suc k ≤ d
    later None f rest g = absurd (none-some d g)
    later (Some i) f rest g = omega (arith, rest i f, same_Some (i + 1) d g)

    go : (b : Bool) → (x == y) ≡ b → ((i : ℕ) → first_difference xs ys ≡ Some i → k ≤ i)
        → (if b then option_map (λ i. i + 1) (first_difference xs ys) else Some 0) ≡ Some d → suc k ≤ d
    go true is rest f = later (first_difference xs ys) refl rest f
    go false is rest f = absurd (eqb-false x y is (heads same))

-- a row has no more keys than its kind can have
pub count-most : (call : Call) (words : List ℕ) (base : ℕ) (kind : Kind) (x : ℕ) → count_in_row call words base kind x ≤ capacity kind
count-most call words base Four x = few (slice_index words (keys_at base))
  where
    few : (w : ℕ) → length (keys4_of w) ≤ 4
    few w = grind (arith, length-keys4 w)
count-most call words base Sixteen x =
    omega (
      arith,
      length-keys16 (slice_index words (count_at Sixteen base)) (slice_index words (keys_at base)) (slice_index words (more_keys_at base)),
      most_of (slice_index words (count_at Sixteen base)),
    )
count-most call words base FortyEight x = go (is_insert call) (slice_index words (count_at FortyEight base))
  where
    by : (w : ℕ) (b : Bool) → nat_le w 48 ≡ b → (if b then w else 0) ≤ 48
    by w true e = grind (arith, e)
    by w false e = omega arith

    go : (b : Bool) (w : ℕ) → (if b then count_of 48 w else 0) ≤ 48
    go true w = by w (nat_le w 48) refl
    go false w = omega arith
count-most call words base Full x = omega arith
