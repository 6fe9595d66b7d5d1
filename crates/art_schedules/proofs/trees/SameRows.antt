-- A row that has the words of another table, except its version: what hangs on its bytes, and its
-- form.
use Rattle.art_schedules.proofs.Common.{◌≡◌, ℕ, ◌<◌, List, refl, sym, ap, ◌∙◌, arith, Shape, Kind, info_at, child_of}
use Rattle.art_schedules.proofs.Common.{slot_of, child_in, child_on, HasForm, SameRow}
use Rattle.std.proofs.Common.{Option, slice_index, Some, None}
use Rattle.art_rows.proofs.KindLemmas.{first-within}
use Rattle.art_schedules.proofs.trees.RowHeads.{SameHead, head_info, head_slot, head_form}
use Rattle.art_schedules.proofs.trees.RowSlots.{slot_inside}

module _ (words later : List ℕ) (base : ℕ) where
  -- the words before the children
  head_of : (kind : Kind) → SameRow words later base kind → SameHead words later base kind
  head_of kind same j low high = same j low (omega (arith, high, first-within kind))

  pub info_same : (kind : Kind) → SameRow words later base kind → slice_index later (info_at base) ≡ slice_index words (info_at base)
  info_same kind same = head_info words later base kind (head_of kind same)

  -- what hangs on a byte
  pub child_same : (s : Shape) (kind : Kind) (x : ℕ) → x < 256 → SameRow words later base kind
      → child_on s later base kind x ≡ child_on s words base kind x
  child_same s kind x byte same =
      ap (λ o. child_in s later o) (head_slot words later base kind x byte (head_of kind same)) ∙ go (slot_of words base kind x) refl
    where
      go : (o : Option ℕ) → slot_of words base kind x ≡ o → child_in s later o ≡ child_in s words o
      go None e = refl
      go (Some slot) e =
          let (j, is, low, high) = slot_inside words base kind x slot byte e in
          ap (λ w. child_of s w) (ap (λ i. slice_index later i) is ∙ (same j low high ∙ ap (λ i. slice_index words i) (sym is)))

  -- the form of the row
  pub form_same : (kind : Kind) → SameRow words later base kind → HasForm words base kind → HasForm later base kind
  form_same kind same form = head_form words later base kind (head_of kind same) form
