-- A row whose words before its children are those of another table: its info, its slots and its form.
use Rattle.art_schedules.proofs.Common.{◌≡◌, ℕ, ◌+◌, ◌/◌, ◌%◌, ◌<◌, ◌≤◌, List, refl, sym, ap, ◌∙◌, subst, arith, Kind, Four, Sixteen}
use Rattle.art_schedules.proofs.Common.{FortyEight, Full, info_at, keys_at, more_keys_at, index_at, count_at, child_at, first_child, place_of}
use Rattle.art_schedules.proofs.Common.{keys4_of, keys16_of, entries_of, slot_of, entry_slot, HasForm}
use Rattle.std.proofs.Common.{option_map, slice_index}

-- words before the children that are the same, by the row's kind: slots, info and form are the same
module _ (words later : List ℕ) (base : ℕ) where
  abbrev pub SameHead : Kind → Type 0
  SameHead kind = (j : ℕ) → 1 ≤ j → j < first_child kind → slice_index later (base + j) ≡ slice_index words (base + j)

  pub head_info : (kind : Kind) → SameHead kind → slice_index later (info_at base) ≡ slice_index words (info_at base)
  head_info Four same = same 1 (omega arith) (omega arith)
  head_info Sixteen same = same 1 (omega arith) (omega arith)
  head_info FortyEight same = same 1 (omega arith) (omega arith)
  head_info Full same = same 1 (omega arith) (omega arith)

  pub head_slot : (kind : Kind) (x : ℕ) → x < 256 → SameHead kind → slot_of later base kind x ≡ slot_of words base kind x
  head_slot Four x byte same = ap (λ w. option_map (child_at Four base) (place_of x (keys4_of w))) (same 2 (omega arith) (omega arith))
  head_slot Sixteen x byte same =
      ap (λ w. option_map (child_at Sixteen base)
      (place_of x (keys16_of w (slice_index later (keys_at base)) (slice_index later (more_keys_at base)))))
      (same 4 (omega arith) (omega arith))
      ∙ (ap (λ w. option_map (child_at Sixteen base)
      (place_of x (keys16_of (slice_index words (count_at Sixteen base)) w (slice_index later (more_keys_at base)))))
      (same 2 (omega arith) (omega arith))
      ∙ ap (λ w. option_map (child_at Sixteen base)
      (place_of x (keys16_of (slice_index words (count_at Sixteen base)) (slice_index words (keys_at base)) w)))
      (same 3 (omega arith) (omega arith)))
  head_slot FortyEight x byte same =
      ap (λ w. entry_slot base (slice_index (entries_of w) (x % 8))) (index_same (2 + x / 8) at (omega arith) (omega (arith, byte)))
    where
      at : base + (2 + x / 8) ≡ index_at base x
      at = omega arith

      index_same : (j : ℕ) → base + j ≡ index_at base x → 1 ≤ j → j < 35
          → slice_index later (index_at base x) ≡ slice_index words (index_at base x)
      index_same j is low high = sym (ap (λ i. slice_index later i) is) ∙ (same j low high ∙ ap (λ i. slice_index words i) is)
  head_slot Full x byte same = refl

  pub head_form : (kind : Kind) → SameHead kind → HasForm words base kind → HasForm later base kind
  head_form Four same (keys, word, rest, rising, small) = (keys, same 2 (omega arith) (omega arith) ∙ word, rest, rising, small)
  head_form Sixteen same (keys, first, second, count, rest, rising, small) = (
    keys,
    same 2 (omega arith) (omega arith) ∙ first,
    same 3 (omega arith) (omega arith) ∙ second,
    same 4 (omega arith) (omega arith) ∙ count,
    rest,
    rising,
    small,
  )
  head_form FortyEight same (few, once, each, below) =
      let count : slice_index later (count_at FortyEight base) ≡ slice_index words (count_at FortyEight base) =
      same 34 (omega arith) (omega arith) in
      let slot = λ (x : ℕ) (byte : x < 256). head_slot FortyEight x byte same in (
        subst (λ n. n ≤ 48) (sym count) few,
        λ x y e byte other here there. once x y e byte other (sym (slot x byte) ∙ here) (sym (slot y other) ∙ there),
        λ i low.
            let (x, byte, is) = each i (subst (λ n. i < n) count low) in
            (x, byte, slot x byte ∙ is),
        λ x i byte here. subst (λ n. i < n) (sym count) (below x i byte (sym (slot x byte) ∙ here)),
      )
  head_form Full same h = tt
