-- The slots of a row: where they are, that two bytes have two, and that they depend on the row's words before its children alone.
use Rattle.art_schedules.proofs.Common.{◌≡◌, ℕ, ◌+◌, ◌-◌, ◌/◌, ◌%◌, ◌<◌, ◌≤◌, List, length, Bool, true, false, refl}
use Rattle.art_schedules.proofs.Common.{sym, ap, ◌∙◌, subst, arith, none-some, same_Some, Call, Kind, Four, Sixteen, FortyEight}
use Rattle.art_schedules.proofs.Common.{Full, row_words, first_child, keys_at, more_keys_at, index_at, count_at, child_at, place_of, keys4_of}
use Rattle.art_schedules.proofs.Common.{keys16_of, entries_of, low_bytes, child_of, count_of, most_of, length-keys16, length-keys4, entry_list-most}
use Rattle.art_schedules.proofs.Common.{place-within, Setting, is_insert, slot_of, entry_slot, HasForm, SameRow, found_in, keys_in_row}
use Rattle.art_schedules.proofs.Common.{count_in_row, found_of_slot}
use Rattle.std.proofs.Common.{Option, option_map, ◌==◌, slice_index, Some, None, if◌then◌else◌}
use Rattle.art_rows.specs.Rows.{Found, Has}

-- ---- where slots are

-- a child's word in the row
pub record IsChildWord (base : ℕ) (kind : Kind) (slot : ℕ) : Type 0 where
  pub place : ℕ
  pub is : slot ≡ base + place
  pub low : first_child kind ≤ place
  pub high : place < row_words kind

-- the place of a slot
placed : (base : ℕ) (kind : Kind) (o : Option ℕ) (slot : ℕ) → option_map (child_at kind base) o ≡ Some slot
    → (i : ℕ) × (o ≡ Some i) × (slot ≡ base + first_child kind + i)
placed base kind None slot e = absurd (none-some slot e)
placed base kind (Some i) slot e = (i, refl, sym (same_Some (base + first_child kind + i) slot e))

entry_placed : (base e slot : ℕ) (b : Bool) → (e == 0) ≡ b → e ≤ 48
    → (if b then None else Some (child_at FortyEight base (e - 1))) ≡ Some slot
    → IsChildWord base FortyEight slot
entry_placed base e slot true is most h = absurd (none-some slot h)
entry_placed base e slot false is most h =
    let same = same_Some (child_at FortyEight base (e - 1)) slot h in
    record { place = 35 + (e - 1); is = omega (arith, same); low = omega arith; high = omega (arith, most) }

-- the slot of a byte is a child's word in the row
pub slot-is : (words : List ℕ) (base : ℕ) (kind : Kind) (x slot : ℕ) → x < 256 → slot_of words base kind x ≡ Some slot
    → IsChildWord base kind slot
slot-is words base Four x slot byte h =
    let keys = keys4_of (slice_index words (keys_at base)) in
    let (i, at, is) = placed base Four (place_of x keys) slot h in
    record {
      place = 3 + i;
      is = omega (arith, is);
      low = omega arith;
      high = omega (arith, (place-within x keys i at).0, few (slice_index words (keys_at base)));
    }
  where
    few : (w : ℕ) → length (keys4_of w) ≤ 4
    few w = grind (arith, length-keys4 w)
slot-is words base Sixteen x slot byte h =
    let count = slice_index words (count_at Sixteen base) in
    let first = slice_index words (keys_at base) in
    let second = slice_index words (more_keys_at base) in
    let (i, at, is) = placed base Sixteen (place_of x (keys16_of count first second)) slot h in
    record {
      place = 5 + i;
      is = omega (arith, is);
      low = omega arith;
      high = omega (arith, (place-within x (keys16_of count first second) i at).0, length-keys16 count first second, most_of count);
    }
slot-is words base FortyEight x slot byte h =
    let e = slice_index (entries_of (slice_index words (index_at base x))) (x % 8) in
    entry_placed base e slot (e == 0) refl (entry_list-most (low_bytes 8 (slice_index words (index_at base x))) (x % 8)) h
slot-is words base Full x slot byte h =
    let same = same_Some (child_at Full base x) slot h in
    record { place = 2 + x; is = omega (arith, same); low = omega arith; high = omega (arith, byte) }

-- ---- what the slots depend on

-- the words of the row between its version and its children are the same
abbrev pub SameKeys : List ℕ → List ℕ → ℕ → Kind → Type 0
SameKeys words later base kind = (j : ℕ) → 1 ≤ j → j < first_child kind → slice_index later (base + j) ≡ slice_index words (base + j)

pub row-keys : (words later : List ℕ) (base : ℕ) (kind : Kind) → SameRow words later base kind → SameKeys words later base kind
row-keys words later base Four same j low high = same j low (omega (arith, high))
row-keys words later base Sixteen same j low high = same j low (omega (arith, high))
row-keys words later base FortyEight same j low high = same j low (omega (arith, high))
row-keys words later base Full same j low high = same j low (omega (arith, high))

module _ (words later : List ℕ) (base : ℕ) where
  index_same : (x : ℕ) → x < 256 → SameKeys words later base FortyEight
      → slice_index later (index_at base x) ≡ slice_index words (index_at base x)
  index_same x byte same =
      let is : index_at base x ≡ base + (2 + x / 8) = omega arith in
      ap (λ n. slice_index later n) is ∙ (same (2 + x / 8) (omega arith) (omega (arith, byte)) ∙ ap (λ n. slice_index words n) (sym is))

  pub keys-same : (kind : Kind) (x : ℕ) → x < 256 → SameKeys words later base kind
      → keys_in_row later base kind x ≡ keys_in_row words base kind x
  keys-same Four x byte same = ap keys4_of (same 2 (omega arith) (omega arith))
  keys-same Sixteen x byte same =
      ap (λ w. keys16_of w (slice_index later (keys_at base)) (slice_index later (more_keys_at base))) (same 4 (omega arith) (omega arith))
      ∙ (ap (λ w. keys16_of (slice_index words (count_at Sixteen base)) w (slice_index later (more_keys_at base)))
      (same 2 (omega arith) (omega arith))
      ∙ ap (λ w. keys16_of (slice_index words (count_at Sixteen base)) (slice_index words (keys_at base)) w)
      (same 3 (omega arith) (omega arith)))
  keys-same FortyEight x byte same = ap entries_of (index_same x byte same)
  keys-same Full x byte same = refl

  pub slot-same : (kind : Kind) (x : ℕ) → x < 256 → SameKeys words later base kind → slot_of later base kind x ≡ slot_of words base kind x
  slot-same Four x byte same = ap (λ keys. option_map (child_at Four base) (place_of x keys)) (keys-same Four x byte same)
  slot-same Sixteen x byte same = ap (λ keys. option_map (child_at Sixteen base) (place_of x keys)) (keys-same Sixteen x byte same)
  slot-same FortyEight x byte same = ap (λ keys. entry_slot base (slice_index keys (x % 8))) (keys-same FortyEight x byte same)
  slot-same Full x byte same = refl

  pub count-same : (call : Call) (kind : Kind) (x : ℕ) → x < 256 → SameKeys words later base kind
      → count_in_row call later base kind x ≡ count_in_row call words base kind x
  count-same call Four x byte same = ap length (keys-same Four x byte same)
  count-same call Sixteen x byte same = ap length (keys-same Sixteen x byte same)
  count-same call FortyEight x byte same = ap (λ w. if is_insert call then count_of 48 w else 0) (same 34 (omega arith) (omega arith))
  count-same call Full x byte same = refl

  -- the form of the row
  pub form-same : (kind : Kind) → SameKeys words later base kind → HasForm words base kind → HasForm later base kind
  form-same Four same (keys, word, rest, rising, small) = (keys, same 2 (omega arith) (omega arith) ∙ word, rest, rising, small)
  form-same Sixteen same (keys, first, second, count, rest, rising, small) = (
    keys,
    same 2 (omega arith) (omega arith) ∙ first,
    same 3 (omega arith) (omega arith) ∙ second,
    same 4 (omega arith) (omega arith) ∙ count,
    rest,
    rising,
    small,
  )
  form-same FortyEight same (few, once, each, below) =
      let count : slice_index later (count_at FortyEight base) ≡ slice_index words (count_at FortyEight base) =
      same 34 (omega arith) (omega arith) in
      let slot = λ (x : ℕ) (byte : x < 256). slot-same FortyEight x byte same in (
        subst (λ n. n ≤ 48) (sym count) few,
        λ x y e byte other here there. once x y e byte other (sym (slot x byte) ∙ here) (sym (slot y other) ∙ there),
        λ i low.
            let (x, byte, is) = each i (subst (λ n. i < n) count low) in
            (x, byte, slot x byte ∙ is),
        λ x i byte here. subst (λ n. i < n) (sym count) (below x i byte (sym (slot x byte) ∙ here)),
      )
  form-same Full same h = tt

  -- what is found of a byte
  pub found-same : (c : Setting) (kind : Kind) (x : ℕ) → x < 256 → SameRow words later base kind
      → found_in c later base kind x ≡ found_in c words base kind x
  found-same c kind x byte same =
      let keys = row-keys words later base kind same in
      ap (λ o. found_of_slot c.shape later (keys_in_row later base kind x) (count_in_row c.call later base kind x) o)
      (slot-same kind x byte keys)
      ∙ (ap (λ n. found_of_slot c.shape later (keys_in_row later base kind x) n (slot_of words base kind x))
      (count-same c.call kind x byte keys)
      ∙ (ap (λ ks. found_of_slot c.shape later ks (count_in_row c.call words base kind x) (slot_of words base kind x))
      (keys-same kind x byte keys)
      ∙ go (slot_of words base kind x) refl))
    where
      go : (o : Option ℕ) → slot_of words base kind x ≡ o
          → found_of_slot c.shape later (keys_in_row words base kind x) (count_in_row c.call words base kind x) o
          ≡ found_of_slot c.shape words (keys_in_row words base kind x) (count_in_row c.call words base kind x) o
      go None e = refl
      go (Some slot) e =
          let at = slot-is words base kind x slot byte e in
          ap (λ w. found_of_word w) (ap (λ n. slice_index later n) at.is ∙ (same at.place (early kind at.low) at.high
          ∙ ap (λ n. slice_index words n) (sym at.is)))
        where
          found_of_word : ℕ → Found
          found_of_word w = Has slot (child_of c.shape w)

          early : (k : Kind) → {j : ℕ} → first_child k ≤ j → 1 ≤ j
          early Four h = omega (arith, h)
          early Sixteen h = omega (arith, h)
          early FortyEight h = omega (arith, h)
          early Full h = omega (arith, h)
