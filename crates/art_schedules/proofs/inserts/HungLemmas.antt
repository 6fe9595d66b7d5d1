-- What comes of the change of one child's word in a row.
use Rattle.art_schedules.proofs.Common.{◌≡◌, ℕ, ◌+◌, ◌<◌, ◌≤◌, List, refl, sym, ap, ◌∙◌, arith, Shape, Kind, Child}
use Rattle.art_schedules.proofs.Common.{row_words, child_of, two-words, first-two, keys-within, Reached, child_in, slot_of, HasForm, IsAtRest}
use Rattle.art_schedules.proofs.Common.{ChangesAt}
use Rattle.std.proofs.Common.{Option, slice_index, Some, None}
use Rattle.art_schedules.proofs.alone.PlaceLemmas.{sits-part}
use Rattle.art_schedules.proofs.alone.SlotLemmas.{slot-is, slot-same, form-same, SameKeys, IsChildWord}
use Rattle.art_schedules.proofs.alone.LikeLemmas.{sits}
use Rattle.art_schedules.proofs.trees.RowSlots.{one_slot}

module _ (s : Shape) (n : ℕ) (words : List ℕ) (rest : IsAtRest s n words) (later : List ℕ) (base slot value x : ℕ) (kind : Kind)
    (reached : Reached s words base kind) (byte : x < 256) (at : slot_of words base kind x ≡ Some slot)
    (untouched : (b : ℕ) (k : Kind) → Reached s words b k → (j : ℕ) → 1 ≤ j → j < row_words k → (b + j ≡ slot → ⊥)
    → slice_index later (b + j) ≡ slice_index words (b + j)) (now : slice_index later slot ≡ value) where
  is-slot : IsChildWord base kind slot
  is-slot = slot-is words base kind x slot byte at

  elsewhere : {b : ℕ} {k : Kind} → Reached s words b k → (j : ℕ) → j < row_words k → b + j ≡ slot → (b ≡ base) × (j ≡ is-slot.place)
  elsewhere {b} {k} r j high e =
      let (kinds, numbers, bases, places) = sits-part s b base j is-slot.place k kind (sits s n words rest r)
      (sits s n words rest reached) high is-slot.high
      (e ∙ is-slot.is) in
      (bases, places)

  same-keys : SameKeys words later base kind
  same-keys j low high =
      untouched base kind reached j low (keys-within kind j high)
      λ e. omega (arith, (elsewhere reached j (keys-within kind j high) e).1, is-slot.low, high)

  pub word-changes : HasForm words base kind → (child : Child) → child_of s value ≡ child → ChangesAt s words later base kind x child
  word-changes form child is = record {
    others = λ b k r ne j low high. untouched b k r j low high λ e. ne (elsewhere r j high e).0;
    info = untouched base kind reached 1 (omega arith) (two-words kind)
        λ e. omega (arith, (elsewhere reached 1 (two-words kind) e).1, is-slot.low, first-two kind);
    form = form-same words later base kind same-keys form;
    other_bytes = λ y other ne. ap (λ o. child_in s later o) (slot-same words later base kind y other same-keys)
        ∙ kept y other ne (slot_of words base kind y) refl;
    here = ap (λ o. child_in s later o) (slot-same words later base kind x byte same-keys ∙ at) ∙ (ap (λ w. child_of s w) now ∙ is);
  }
    where
      kept : (y : ℕ) → y < 256 → (y ≡ x → ⊥) → (o : Option ℕ) → slot_of words base kind y ≡ o → child_in s later o ≡ child_in s words o
      kept y other ne None e = refl
      kept y other ne (Some t) e =
          let its = slot-is words base kind y t other e in
          ap (λ w. child_of s w) (ap (λ i. slice_index later i) its.is ∙ (untouched base kind reached its.place
          (omega (arith, its.low, first-two kind)) its.high
          (λ is. ne (one_slot words base kind y x slot form other byte (e ∙ ap Some (its.is ∙ is)) at))
          ∙ ap (λ i. slice_index words i) (sym its.is)))
