-- The rows that are reached where child words name settled rows alone.
use Rattle.art_schedules.proofs.Common.{◌≡◌, ℕ, ◌-◌, ◌<◌, List, refl, subst, arith, slice_index, Option, Some, None, Shape, Kind, Four, Sixteen}
use Rattle.art_schedules.proofs.alone.SlotLemmas.{IsChildWord, slot-is}
use Rattle.art_schedules.proofs.Common.{FortyEight, Full, Empty, Row, root_base, kind_at, slot_of, child_in, child_on, Reached, root, below}
use Rattle.art_schedules.proofs.Common.{OfRows, Each, IsSlot, IsNamed, child_rows, IsGoodAt}

empty-row : {base : ℕ} {kind : Kind} → Empty ≡ Row base kind → ⊥
empty-row e = cc

-- a child's word is the slot of a place
word-slot : (base : ℕ) (kind : Kind) (slot : ℕ) → IsChildWord base kind slot → IsSlot base kind slot
word-slot base Four slot x = (x.place - 3, omega (arith, x.low, x.high), omega (arith, x.is, x.low))
word-slot base Sixteen slot x = (x.place - 5, omega (arith, x.low, x.high), omega (arith, x.is, x.low))
word-slot base FortyEight slot x = (x.place - 35, omega (arith, x.low, x.high), omega (arith, x.is, x.low))
word-slot base Full slot x = (x.place - 2, omega (arith, x.low, x.high), omega (arith, x.is, x.low))

-- the slot of a byte is one of the row
pub slot-of-row : (words : List ℕ) (base : ℕ) (kind : Kind) (x slot : ℕ) → x < 256 → slot_of words base kind x ≡ Some slot
    → IsSlot base kind slot
slot-of-row words base kind x slot byte e = word-slot base kind slot (slot-is words base kind x slot byte e)

module _ (P : OfRows) (shape : Shape) (is_row : (b : ℕ) (k : Kind) → P b k → kind_at shape b ≡ Some k) (words : List ℕ)
    (top : P (root_base shape) Full)
    (good : (word : ℕ) → IsGoodAt P shape word (slice_index words word)) where
  -- a child that is a row
  child-row : (base : ℕ) (kind : Kind) (x b : ℕ) (k : Kind) → P base kind → x < 256 → child_on shape words base kind x ≡ Row b k → P b k
  child-row base kind x b k here byte e = go (slot_of words base kind x) refl e
    where
      go : (o : Option ℕ) → slot_of words base kind x ≡ o → child_in shape words o ≡ Row b k → P b k
      go None f g = absurd (empty-row g)
      go (Some slot) f g =
          (subst (λ c. Each (IsNamed P) (child_rows c)) g
          (good slot base kind (is_row base kind here) (slot-of-row words base kind x slot byte f))).0

  pub reached-good : (base : ℕ) (kind : Kind) → Reached shape words base kind → P base kind
  reached-good base kind root = top
  reached-good base kind (below {base = above} {kind = its} r x byte e) = child-row above its x base kind (reached-good above its r) byte e
