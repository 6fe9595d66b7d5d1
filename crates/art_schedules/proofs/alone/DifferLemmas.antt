-- Where a key parts from what hangs on its way: after the level of the row.
use Rattle.art_schedules.proofs.Common.{◌≡◌, ℕ, ◌/◌, ◌%◌, ◌<◌, List, ◌∷◌, refl, sym, ap, ◌∙◌, arith, unwrap_or, key_bytes}
use Rattle.art_schedules.proofs.Common.{first_difference, keys_differ_at}
use Rattle.std.proofs.Common.{◌≢◌, Option, Some, None}
use Rattle.art_schedules.proofs.alone.WayLemmas.{same-beginning}

pub heads : {x y : ℕ} {xs ys : List ℕ} → x ∷ xs ≡ y ∷ ys → x ≡ y
heads e = cc

pub tails : {x y : ℕ} {xs ys : List ℕ} → x ∷ xs ≡ y ∷ ys → xs ≡ ys
tails e = cc

-- keys of 32 bits that are not the same differ in a byte
pub keys-differ : (k key : ℕ) → k < 4294967296 → key < 4294967296 → k ≢ key
    → first_difference (key_bytes k) (key_bytes key) ≡ Some (keys_differ_at k key)
keys-differ k key small little other = go (first_difference (key_bytes k) (key_bytes key)) refl
  where
    one : key_bytes key ≡ key_bytes k → k ≡ key
    one e =
        let a : (key / 16777216) % 256 ≡ (k / 16777216) % 256 = heads e in
        let b : (key / 65536) % 256 ≡ (k / 65536) % 256 = heads (tails e) in
        let c : (key / 256) % 256 ≡ (k / 256) % 256 = heads (tails (tails e)) in
        let d : key % 256 ≡ k % 256 = heads (tails (tails (tails e))) in
        omega (arith, a, b, c, d, small, little)

    go : (o : Option ℕ) → first_difference (key_bytes k) (key_bytes key) ≡ o
        → first_difference (key_bytes k) (key_bytes key) ≡ Some (keys_differ_at k key)
    go None e = absurd (other (one (same-beginning (key_bytes k) (key_bytes key) e (omega arith))))
    go (Some d) e = e ∙ ap Some (sym (ap (λ o. unwrap_or o 0) e))
