-- What a call writes in rows that it holds or fills, as a change of a calm table.
use Rattle.art_schedules.proofs.Common.{◌≡◌, ◌⊎◌, inl, inr, ℕ, ◌+◌, ◌<◌, ◌≤◌, refl, sym, ap, ◌∙◌, subst, arith, Four, row_words, key_bytes}
use Rattle.art_schedules.proofs.alone.LikeLemmas.{sits}
use Rattle.art_schedules.proofs.alone.PlaceLemmas.{Sits, sits-part, sits-inside}
use Rattle.art_schedules.proofs.alone.SlotLemmas.{slot-is, row-keys, form-same, IsChildWord}
use Rattle.art_schedules.proofs.inserts.OutcomeLemmas.{split, child-same}
use Rattle.art_schedules.proofs.Common.{two-words, first-some, key_byte-small, Reached, IsOutside}
use Rattle.std.proofs.Common.{slice_index, slice_set}
use Rattle.std.proofs.lemmas.List.{get_or-set_same, get_or-set_other}
use Rattle.art_schedules.specs.changes.Written.{StoresAreSlots, HungRowsAreSlots, ChildrenAreOfRows, PutsAreChildren, PairsAreFresh}
use Rattle.art_schedules.specs.changes.Written.{CopiesAreFresh}
use Rattle.art_schedules.proofs.changes.RowLemmas.{claimed-sits}

-- ---- a child in a row that is held

pub stores-are-slots : StoresAreSlots
stores-are-slots words calm later base kind x slot word byte at inside before after = record {
  at = at;
  others = λ j low high ne. after j low high ∙ (get_or-set_other words slot (base + j) word 0 ne ∙ sym (before j low high));
  here = ap (λ w. slice_index later w) its-place.is
      ∙ (after its-place.place (omega (arith, first-some kind, its-place.low)) its-place.high
      ∙ (ap (λ w. slice_index (slice_set words slot word) w) (sym its-place.is) ∙ get_or-set_same words slot word 0 inside));
}
  where
    its-place : IsChildWord base kind slot
    its-place = slot-is calm base kind x slot byte at

pub hung-rows-are-slots : HungRowsAreSlots
hung-rows-are-slots s n words written calm later base kind x slot fresh larger rest reached byte at hung before after claimed new = record {
  at = at;
  others = λ j low high ne. after j low high
      ∙ (hung.same (base + j) (omega (arith, (sits-inside s base j kind place high).0)) ne
      (outside j high (split (base + j) fresh (row_words larger)))
      ∙ sym (before j low high));
  here = ap (λ w. slice_index later w) its-place.is
      ∙ (after its-place.place (omega (arith, first-some kind, its-place.low)) its-place.high
      ∙ (ap (λ w. slice_index written w) (sym its-place.is) ∙ hung.hangs));
}
  where
    place : Sits s base kind
    place = sits s n calm rest reached

    its-place : IsChildWord base kind slot
    its-place = slot-is calm base kind x slot byte at

    outside : (j : ℕ) → j < row_words kind
        → (base + j < fresh) ⊎ ((fresh + row_words larger ≤ base + j) ⊎ ((i : ℕ) × (i < row_words larger) × (base + j ≡ fresh + i)))
        → IsOutside fresh larger (base + j)
    outside j high (inl less) = inl less
    outside j high (inr (inl more)) = inr more
    outside j high (inr (inr (i, within, same))) =
        let (kinds, numbers, bases, places) = sits-part s base fresh j i kind larger place (claimed-sits s later fresh larger claimed)
        high within same in
        absurd (new kind (subst (λ b. Reached s calm b kind) bases reached))

pub children-are-of-rows : ChildrenAreOfRows
children-are-of-rows s words written calm later base kind x child new before after byte = record {
  form = form-same written later base kind (row-keys written later base kind after) new.form;
  info = after 1 (omega arith) (two-words kind) ∙ (new.info ∙ sym (before 1 (omega arith) (two-words kind)));
  others = λ y small ne. child-same s written later base kind y small after
      ∙ (new.others y small ne ∙ sym (child-same s words calm base kind y small before));
  here = child-same s written later base kind x byte after ∙ new.here;
}

pub puts-are-children : PutsAreChildren
puts-are-children s words written base kind x child has = record {
  form = has.form;
  info = has.beside (base + 1) (inl (omega arith));
  others = has.others;
  here = has.put;
}

-- ---- a row that is filled

pub pairs-are-fresh : PairsAreFresh
pairs-are-fresh s written calm key value fresh d a child pair same byte new = record {
  new = new;
  form = form-same written calm fresh Four (row-keys written calm fresh Four same) pair.form;
  info = same 1 (omega arith) (omega arith) ∙ pair.info;
  byte = refl;
  old = child-same s written calm fresh Four a byte same ∙ pair.first;
  leaf = child-same s written calm fresh Four (slice_index (key_bytes key) d) (key_byte-small key d) same ∙ pair.second;
  rest = λ y small na nb. child-same s written calm fresh Four y small same ∙ pair.others y small na nb;
}

pub copies-are-fresh : CopiesAreFresh
copies-are-fresh s words written calm key value full kind y fresh larger copy before after byte empty new = record {
  new = new;
  form = form-same written calm fresh larger (row-keys written calm fresh larger after) copy.form;
  info = after 1 (omega arith) (two-words larger) ∙ copy.info;
  absent = empty;
  leaf = child-same s written calm fresh larger y byte after ∙ copy.put;
  rest = λ z small ne. child-same s written calm fresh larger z small after
      ∙ (copy.others z small ne ∙ sym (child-same s words calm full kind z small before));
}
