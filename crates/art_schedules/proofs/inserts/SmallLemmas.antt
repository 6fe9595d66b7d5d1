-- Bytes of keys and paths, and how far keys part.
use Rattle.art_schedules.proofs.Common.{◌≡◌, ℕ, zero, suc, ◌+◌, ◌<◌, ◌≤◌, List, [], ◌∷◌, length, take, Bool, true, false}
use Rattle.art_schedules.proofs.Common.{refl, arith, none-some, same_Some, Kind, Child, Empty, ChildRow, Leaf, info_at}
use Rattle.art_schedules.proofs.Common.{key_bytes, first_difference, path_in, Parts}
use Rattle.std.proofs.Common.{Option, option_map, ◌≢◌, ◌==◌, slice_index, Some, None, if◌then◌else◌}
use Rattle.art_schedules.proofs.trees.InfoWords.{path_byte}

pub path_byte-small : (words : List ℕ) (base : ℕ) (kind : Kind) (i : ℕ) → slice_index (path_in words base kind) i < 256
path_byte-small words base kind i = path_byte kind (slice_index words (info_at base)) i

-- lists differ first before the end of either
pub differs-before : (xs ys : List ℕ) (d : ℕ) → first_difference xs ys ≡ Some d → d < length ys
differs-before [] ys d e = absurd (none-some d e)
differs-before (x ∷ xs) [] d e = absurd (none-some d e)
differs-before (x ∷ xs) (y ∷ ys) d e = go (x == y) (first_difference xs ys) refl (λ i f. differs-before xs ys i f) e
  where
    go : (b : Bool) (o : Option ℕ) → first_difference xs ys ≡ o → ((i : ℕ) → first_difference xs ys ≡ Some i → i < length ys)
        → (if b then option_map (λ i. i + 1) o else Some 0) ≡ Some d → d < suc (length ys)
    go true None f later g = absurd (none-some d g)
    go true (Some i) f later g = let is : i + 1 ≡ d = same_Some (i + 1) d g in omega (arith, is, later i f)
    go false o f later g = let is : 0 ≡ d = same_Some 0 d g in omega (arith, is)

-- keys part at one of four bytes
pub parts-level : (words : List ℕ) (key d a : ℕ) (child : Child) → Parts words key d a child → d ≤ 3
parts-level words key d a Empty h = absurd h
parts-level words key d a (Leaf k v) h = let low = differs-before (key_bytes k) (key_bytes key) d h.0 in omega (arith, low)
parts-level words key d a (ChildRow b k) h = let low = differs-before (path_in words b k) (key_bytes key) d h.0 in omega (arith, low)

pub taken-long : (d key : ℕ) → d ≤ 3 → length (take d (key_bytes key)) ≡ d
taken-long zero key le = refl
taken-long (suc zero) key le = refl
taken-long (suc (suc zero)) key le = refl
taken-long (suc (suc (suc zero))) key le = refl
taken-long (suc (suc (suc (suc d)))) key le = absurd (omega (arith, le))

pub le-differs_lt : (a b : ℕ) → a ≤ b → a ≢ b → a < b
le-differs_lt a b h e = grind (arith, h, e)
