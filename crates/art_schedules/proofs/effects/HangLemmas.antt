-- What the work left at its first release is what its last release will do to calm's tree.
use Rattle.art_schedules.proofs.Common.{◌≡◌, ◌≢◌, inl, inr, ℕ, ◌+◌, ◌^◌, ◌<◌, ◌≤◌, List, ◌++◌, length, true, refl, sym, ap, ◌∙◌, subst, arith}
use Rattle.art_schedules.proofs.alone.LikeLemmas.{sits}
use Rattle.art_schedules.proofs.alone.PlaceLemmas.{sits-kind_at}
use Rattle.art_schedules.proofs.alone.SlotLemmas.{slot-is, row-keys, form-same, IsChildWord}
use Rattle.art_schedules.proofs.inserts.OutcomeLemmas.{child-same}
use Rattle.art_schedules.proofs.trees.Changes.{way_byte}
use Rattle.art_schedules.proofs.words.TableLemmas.{row_ends, rows_apart, kind_at-base_of}
use Rattle.art_schedules.proofs.Common.{eq-eqb, ne_eqb, nat_lt, ◌&&◌, slice_set, Option, Some, None, if◌then◌else◌, cases_lt, cases_eq}
use Rattle.art_schedules.proofs.Common.{and_parts, ltb-true, false≢true, same_Some, none-some, Call, Get, Insert, Remove, Scan, Replace, put}
use Rattle.art_schedules.proofs.Common.{Shape, Kind, Four, Child, Empty, Row, Leaf, row_words, table_words, info_at, kind_at, key_bytes}
use Rattle.art_schedules.proofs.Common.{child_of, child_word, leaf_word, row_word, info_word, info_of, first-some, key_byte-small}
use Rattle.art_schedules.proofs.Common.{is_tree_call, Setting, key_of, is_insert, byte_at, new_leaf, overwriting}
use Rattle.art_schedules.proofs.Common.{next_kind, HeldRow, Hold, Pair, Value, Stage, Unlock, Obsolete, row_at, byte_in, old_child, new_child}
use Rattle.art_schedules.proofs.Common.{no_value, hold_alone, Reached, slot_of, child_in, child_on, level_in, path_in, IsAtRest, SameRow}
use Rattle.art_schedules.proofs.Common.{LeadsTo, Parts, HasPut}
use Rattle.art_schedules.proofs.Common.{IsOutside, rows_of_hold, Each, Effect, PutsLeaf, RemovesLeaf, HangsPair, HangsGrown, IsGone}
use Rattle.art_schedules.proofs.Common.{IsInsert, PairHangs, GrownHangs, upper_of, upper_row, IsOverwritten, IsOld, IsEffectOf, IsReleasing}
use Rattle.art_schedules.proofs.Common.{Last, Lower, Gone, IsHanging, HasFilledFresh, HasWordAt, IsInTree, IsSame}
use Rattle.std.proofs.Common.{slice_index}
use Rattle.std.specs.Prelude.{take}
use Rattle.map_object.specs.MapObject.{below, above as keys_above}
use Rattle.art_schedules.proofs.changes.WrittenLemmas.{stores-are-slots, hung-rows-are-slots, children-are-of-rows, puts-are-children}
use Rattle.art_schedules.proofs.effects.KeptLemmas.{upper-each, info-kept}

module _ (c : Setting) (n : ℕ) (real after first words : List ℕ) (rest : IsAtRest c.shape n after) (h : Hold) (at : Stage)
    (long : length first ≡ table_words c.shape) (rows : Each (IsInTree c.shape after) (rows_of_hold h))
    (was : Each (IsSame first after) (rows_of_hold h))
    (same : Each (IsSame words real) (rows_of_hold h)) where
  abbrev s : Shape
  s = c.shape

  abbrev key : ℕ
  key = key_of c.call

  abbrev up : HeldRow
  up = upper_row h

  row-kind : (base : ℕ) (kind : Kind) → Reached s after base kind → kind_at s base ≡ Some kind
  row-kind base kind r = sits-kind_at s base kind (sits s n after rest r)

  pub slot-inside : (base : ℕ) (kind : Kind) (y slot : ℕ) → Reached s after base kind → y < 256 → slot_of after base kind y ≡ Some slot
      → (base + 1 ≤ slot) × (slot < base + row_words kind) × (slot < length first)
  slot-inside base kind y slot r small has =
      let place : IsChildWord base kind slot = slot-is after base kind y slot small has in
      let ends = row_ends s base kind (row-kind base kind r) in (
        omega (arith, place.is, place.low, first-some kind),
        omega (arith, place.is, place.high),
        omega (arith, place.is, place.high, ends, long),
      )

  leaf-is : (k value : ℕ) → c.call ≡ Insert k value → new_leaf c.call ≡ Leaf key value
  leaf-is k value e = ap new_leaf e ∙ ap (λ z. Leaf z value) (sym (ap key_of e))

  insert-does : (k value : ℕ) → c.call ≡ Insert k value → (e : Effect) (old : Option ℕ) → IsEffectOf (Insert k value) old e
      → IsEffectOf c.call old e
  insert-does k value is e old does = subst (λ z. IsEffectOf z old e) (sym is) does

  -- ---- a slot is overwritten

  module _ (alone : h.above ≡ None) (byte slot word : ℕ) (old : Option ℕ) (called : is_tree_call c.call ≡ true)
      (leads : LeadsTo s after key h.row.base h.row.kind byte) (has_slot : slot_of after h.row.base h.row.kind byte ≡ Some slot)
      (over : IsOverwritten c word old (child_on s after h.row.base h.row.kind byte)) (is : at ≡ Unlock h (Some (Value old)))
      (stored : words ≡ slice_set first slot word) where
    small : byte < 256
    small = way_byte s after key h.row.base h.row.kind byte leads

    has : HasWordAt after real h.row.base h.row.kind byte slot word
    has = stores-are-slots first after real h.row.base h.row.kind byte slot word small has_slot
        (slot-inside h.row.base h.row.kind byte slot leads.reached small has_slot).2
        was.0 (subst (λ ws. SameRow ws real h.row.base h.row.kind) stored same.0)

    here-at : (e : Effect) → ((b : ℕ) → IsGone e b → ⊥) → IsReleasing c real after h.row e (Value old) at
    here-at e none = Last (is ∙ ap (λ z. Unlock (record { row = h.row; above = z }) (Some (Value old))) alone)
        (λ b gone. absurd (none b gone))

    stored-leaf : (k value : ℕ) → key < 2 ^ 32 → value < 2 ^ 30 → word ≡ leaf_word key value
        → IsOld c after key h.row.base h.row.kind byte old
        → IsEffectOf c.call old (PutsLeaf h.row.base h.row.kind byte key value) → IsHanging c real after None at
    stored-leaf k value low few wd was-old does = record {
      row = h.row;
      effect = PutsLeaf h.row.base h.row.kind byte key value;
      old = old;
      base = refl;
      kind = refl;
      inside = rows.0;
      pending = (
        leads,
        was-old,
        inr (record { small = (low, few); slot = slot; has = subst (HasWordAt after real h.row.base h.row.kind byte slot) wd has }),
      );
      does = does;
      fresh_row = refl;
      at = here-at (PutsLeaf h.row.base h.row.kind byte key value) (λ b gone. gone);
    }

    insert-leaf : (call : Call) → c.call ≡ call → is_insert call ≡ true → word ≡ child_word (new_leaf c.call)
        → IsOld c after key h.row.base h.row.kind byte old → IsHanging c real after None at
    insert-leaf (Insert k value) e ins wd was-old =
        let parts = and_parts (nat_lt k (2 ^ 32)) (nat_lt value (2 ^ 30)) (ap is_tree_call (sym e) ∙ called) in
        stored-leaf k value (subst (λ z. z < 2 ^ 32) (sym (ap key_of e)) (ltb-true k (2 ^ 32) parts.0)) (ltb-true value (2 ^ 30) parts.1)
        (wd ∙ ap child_word (leaf-is k value e)) was-old
        (insert-does k value e (PutsLeaf h.row.base h.row.kind byte key value) old
        (sym (ap key_of e), λ m. ap (λ z. put z value m) (ap key_of e)))
    insert-leaf (Get k) e ins wd was-old = absurd (false≢true ins)
    insert-leaf (Remove k) e ins wd was-old = absurd (false≢true ins)
    insert-leaf (Scan low high) e ins wd was-old = absurd (false≢true ins)
    insert-leaf (Replace k expected value) e ins wd was-old = absurd (false≢true ins)

    over-leaf : (call : Call) → c.call ≡ call → (value : ℕ) → old ≡ Some value → overwriting call value ≡ Some word
        → IsOld c after key h.row.base h.row.kind byte old → IsHanging c real after None at
    over-leaf (Remove k) e value some wd was-old = record {
      row = h.row;
      effect = RemovesLeaf h.row.base h.row.kind byte key;
      old = old;
      base = refl;
      kind = refl;
      inside = rows.0;
      pending = (leads, was-old, (slot, subst (HasWordAt after real h.row.base h.row.kind byte slot) (sym (same_Some 0 word wd)) has));
      does = subst (λ z. IsEffectOf z old (RemovesLeaf h.row.base h.row.kind byte key)) (sym e)
          (sym (ap key_of e), λ m. ap (λ z. below z m ++ keys_above z m) (ap key_of e));
      fresh_row = refl;
      at = here-at (RemovesLeaf h.row.base h.row.kind byte key) (λ b gone. gone);
    }
    over-leaf (Replace k expected new) e value some wd was-old = elim (cases_eq value expected) [
      | inl just ↦
          let parts = and_parts (nat_lt k (2 ^ 32)) (nat_lt expected (2 ^ 30) && nat_lt new (2 ^ 30)) (ap is_tree_call (sym e) ∙ called) in
          let few = and_parts (nat_lt expected (2 ^ 30)) (nat_lt new (2 ^ 30)) parts.1 in
          let is-word : child_word (Leaf k new) ≡ word = same_Some (child_word (Leaf k new)) word
          (sym (ap (λ b. if b then Some (child_word (Leaf k new)) else None) (eq-eqb value expected just)) ∙ wd) in
          stored-leaf k new (subst (λ z. z < 2 ^ 32) (sym (ap key_of e)) (ltb-true k (2 ^ 32) parts.0)) (ltb-true new (2 ^ 30) few.1)
          (sym is-word ∙ ap (λ z. leaf_word z new) (sym (ap key_of e))) was-old
          (subst (λ z. IsEffectOf z old (PutsLeaf h.row.base h.row.kind byte key new)) (sym e) (
            sym (ap key_of e),
            some
                ∙ ap Some just,
            λ m. ap (λ z. put z new m) (ap key_of e),
          ))
      | inr differs ↦ absurd (none-some word
          (sym (ap (λ b. if b then Some (child_word (Leaf k new)) else None) (ne_eqb value expected differs)) ∙ wd))
    ]
    over-leaf (Get k) e value some wd was-old = absurd (none-some word wd)
    over-leaf (Insert k v) e value some wd was-old = absurd (none-some word wd)
    over-leaf (Scan low high) e value some wd was-old = absurd (none-some word wd)

    pub write-hangs : IsHanging c real after None at
    write-hangs = go (child_on s after h.row.base h.row.kind byte) refl over
      where
        go : (child : Child) → child_on s after h.row.base h.row.kind byte ≡ child → IsOverwritten c word old child
            → IsHanging c real after None at
        go Empty on (ins, wd, none) = insert-leaf c.call refl ins wd (subst (IsOld c after key h.row.base h.row.kind byte) (sym none) on)
        go (Leaf k value) on (own, some, inl new) = insert-leaf c.call refl new.0 new.1
            (subst (IsOld c after key h.row.base h.row.kind byte) (sym some) (on ∙ ap (λ z. Leaf z value) own))
        go (Leaf k value) on (own, some, inr wd) = over-leaf c.call refl value some wd
            (subst (IsOld c after key h.row.base h.row.kind byte) (sym some) (on ∙ ap (λ z. Leaf z value) own))
        go (Row b k) on none = absurd none

  -- ---- a row takes a child more

  module _ (alone : h.above ≡ None) (byte : ℕ) (leads : LeadsTo s after key h.row.base h.row.kind byte)
      (info : slice_index after (info_at h.row.base) ≡ h.row.info) (insert : IsInsert c.call)
      (absent : slot_of after h.row.base h.row.kind (byte_in c h.row) ≡ None) (is : at ≡ Unlock h (Some no_value))
      (has_put : HasPut s first words h.row.base h.row.kind (byte_in c h.row) (new_leaf c.call)) where
    byte-is : byte ≡ byte_in c h.row
    byte-is = leads.byte ∙ ap (λ i. slice_index (key_bytes key) (info_of h.row.kind i).level) info

    pub put-hangs : IsHanging c real after None at
    put-hangs = record {
      row = h.row;
      effect = PutsLeaf h.row.base h.row.kind (byte_in c h.row) key insert.value;
      old = None;
      base = refl;
      kind = refl;
      inside = rows.0;
      pending = (
        subst (LeadsTo s after key h.row.base h.row.kind) byte-is leads,
        ap (child_in s after) absent,
        inl (children-are-of-rows s first words after real h.row.base h.row.kind (byte_in c h.row) (Leaf key insert.value)
            (puts-are-children s first words h.row.base h.row.kind (byte_in c h.row) (Leaf key insert.value)
            (subst (HasPut s first words h.row.base h.row.kind (byte_in c h.row)) (leaf-is insert.key insert.value insert.is)
            has_put)) was.0 same.0
            (key_byte-small key (row_at h.row).level)),
      );
      does = insert-does insert.key insert.value insert.is (PutsLeaf h.row.base h.row.kind (byte_in c h.row) key insert.value) None
          (sym (ap key_of insert.is), λ m. ap (λ z. put z insert.value m) (ap key_of insert.is));
      fresh_row = refl;
      at = Last (is ∙ ap (λ z. Unlock (record { row = h.row; above = z }) (Some no_value)) alone) (λ b gone. absurd gone);
    }

  -- ---- a fresh row is hung in the upper row

  module _ (byte slot fresh : ℕ) (kind : Kind) (leads : LeadsTo s after key up.base up.kind byte)
      (has_slot : slot_of after up.base up.kind byte ≡ Some slot)
      (insert : IsInsert c.call) (ready : HasFilledFresh c real after fresh kind) (filled : SameRow words after fresh kind)
      (apart : (a : HeldRow) → h.above ≡ Some a → h.row.base ≢ a.base)
      (others : (word : ℕ) → word ≢ slot → IsOutside fresh kind word → slice_index words word ≡ slice_index first word)
      (hangs : slice_index words slot ≡ row_word fresh) where
    up-small : byte < 256
    up-small = way_byte s after key up.base up.kind byte leads

    fresh-kind : kind_at s fresh ≡ Some kind
    fresh-kind = ap (kind_at s) ready.claimed.is ∙ kind_at-base_of s kind ready.claimed.number ready.claimed.within

    up-slot : HasWordAt after real up.base up.kind byte slot (row_word fresh)
    up-slot = hung-rows-are-slots s n first words after real up.base up.kind byte slot fresh kind rest leads.reached up-small has_slot
        (record { same = λ word late ne out. others word ne out; hangs = hangs }) (upper-each (IsSame first after) h was)
        (upper-each (IsSame words real) h same) ready.claimed ready.unreached

    -- a lower row is unchanged
    lower-same : (a : HeldRow) → h.above ≡ Some a → IsSame after real h.row
    lower-same a e j low high =
        let row = row-kind h.row.base h.row.kind rows.0.reached in
        let place = slot-inside up.base up.kind byte slot leads.reached up-small has_slot in
        let up-row = row-kind up.base up.kind leads.reached in
        let is-up : up.base ≡ a.base = ap (λ z. (upper_of h.row z).base) e in
        same.0 j low high
        ∙ (others (h.row.base + j)
        (λ eq. apart a e ((rows_apart s h.row.base up.base h.row.kind up.kind slot row up-row (omega (arith, sym eq))
        (omega (arith, sym eq, high))
        (omega (arith, place.0)) place.1).0 ∙ is-up)) (out (h.row.base + j) (omega arith) (omega (arith, high)) row)
        ∙ sym (was.0 j low high))
      where
        out : (word : ℕ) → h.row.base ≤ word → word < h.row.base + row_words h.row.kind → kind_at s h.row.base ≡ Some h.row.kind
            → IsOutside fresh kind word
        out word low high row = elim (cases_lt word fresh) [
          | inl less ↦ inl less
          | inr more ↦ elim (cases_lt word (fresh + row_words kind)) [
            | inl within ↦ absurd (ready.unreached h.row.kind (subst (λ z. Reached s after z h.row.kind)
                (rows_apart s h.row.base fresh h.row.kind kind word row fresh-kind low high more within).0 rows.0.reached))
            | inr past ↦ inr past
          ]
        ]

  module _ (p : Pair) (byte fresh : ℕ) (leads : LeadsTo s after key up.base up.kind byte)
      (has_slot : slot_of after up.base up.kind byte ≡ Some p.slot)
      (parts : Parts after key p.level p.byte p.child) (insert : IsInsert c.call) (child : child_of s (slice_index after p.slot) ≡ p.child)
      (small : p.byte < 256) (ready : HasFilledFresh c real after fresh Four) (filled : SameRow words after fresh Four)
      (apart : (a : HeldRow) → h.above ≡ Some a → h.row.base ≢ a.base) (is : at ≡ Unlock h (Some no_value))
      (hung : PairHangs s first words fresh p.slot p.level (take p.level (key_bytes key)) (old_child p) (new_child c p)) where
    on : child_on s after up.base up.kind byte ≡ p.child
    on = ap (child_in s after) has_slot ∙ child

    abbrev the-effect : Effect
    the-effect = HangsPair up.base up.kind byte key insert.value fresh p.level p.byte

    pair-releases : IsReleasing c real after up the-effect (Value None) at
    pair-releases = go h.above refl
      where
        go : (above : Option HeldRow) → h.above ≡ above → IsReleasing c real after up the-effect (Value None) at
        go None e = Last
            (is ∙ (ap (λ z. Unlock (record { row = h.row; above = z }) (Some no_value)) e
            ∙ ap (λ z. Unlock (hold_alone z) (Some no_value)) (sym (ap (upper_of h.row) e))))
            (λ b gone. absurd gone)
        go (Some a) e = Lower h.row
            (is ∙ (ap (λ z. Unlock (record { row = h.row; above = z }) (Some no_value)) e
            ∙ ap (λ z. Unlock (record { row = h.row; above = Some z }) (Some no_value)) (sym (ap (upper_of h.row) e))))
            rows.0
            (lower-same byte p.slot fresh Four leads has_slot insert ready filled apart
            (λ word ne out. hung.same word ne out) hung.hangs a e)
            (λ b gone. gone)

    pub pair-hangs : IsHanging c real after (Some (fresh, Four)) at
    pair-hangs = record {
      row = up;
      effect = the-effect;
      old = None;
      base = refl;
      kind = refl;
      inside = upper-each (IsInTree c.shape after) h rows;
      pending = (
        leads,
        refl,
        subst (Parts after key p.level p.byte) (sym on) parts,
        (p.slot, up-slot byte p.slot fresh Four leads has_slot insert ready filled apart (λ word ne out. hung.same word ne out) hung.hangs),
        ready,
        record {
          form = form-same words after fresh Four (row-keys words after fresh Four filled) hung.form;
          info = info-kept words after fresh Four filled ∙ hung.info;
          first = child-same s words after fresh Four p.byte small filled ∙ (hung.first ∙ sym on);
          second = child-same s words after fresh Four (byte_at c p.level) (key_byte-small key p.level) filled
              ∙ (hung.second ∙ leaf-is insert.key insert.value insert.is);
          others = λ y few na nb. child-same s words after fresh Four y few filled ∙ hung.others y few na nb;
        },
      );
      does = insert-does insert.key insert.value insert.is the-effect None (
        sym (ap key_of insert.is),
        λ m. ap (λ z. put z insert.value m)
            (ap key_of insert.is),
      );
      fresh_row = refl;
      at = pair-releases;
    }

  module _ (slot byte fresh : ℕ) (kind : Kind) (leads : LeadsTo s after key up.base up.kind byte) (hung_in : h.above ≡ Some up)
      (has_slot : slot_of after up.base up.kind byte ≡ Some slot)
      (own : LeadsTo s after key h.row.base h.row.kind (byte_in c h.row)) (info : slice_index after (info_at h.row.base) ≡ h.row.info)
      (insert : IsInsert c.call)
      (absent : slot_of after h.row.base h.row.kind (byte_in c h.row) ≡ None)
      (child : child_of s (slice_index after slot) ≡ Row h.row.base h.row.kind)
      (larger : kind ≡ next_kind h.row.kind)
      (ready : HasFilledFresh c real after fresh kind) (filled : SameRow words after fresh kind)
      (apart : (a : HeldRow) → h.above ≡ Some a → h.row.base ≢ a.base)
      (is : at ≡ Obsolete h)
      (hung : GrownHangs s first words h.row.base h.row.kind fresh slot
      (info_word (next_kind h.row.kind) (row_at h.row).level (row_at h.row).path) (byte_in c h.row) (new_leaf c.call)) where
    abbrev y : ℕ
    y = byte_in c h.row

    y-small : y < 256
    y-small = key_byte-small key (row_at h.row).level

    ready-next : HasFilledFresh c real after fresh (next_kind h.row.kind)
    ready-next = subst (HasFilledFresh c real after fresh) larger ready

    filled-next : SameRow words after fresh (next_kind h.row.kind)
    filled-next = subst (SameRow words after fresh) larger filled

    abbrev grown-effect : Effect
    grown-effect = HangsGrown up.base up.kind byte key insert.value h.row.base h.row.kind y fresh (next_kind h.row.kind)

    info-is : info_word (next_kind h.row.kind) (row_at h.row).level (row_at h.row).path
        ≡ info_word (next_kind h.row.kind) (level_in after h.row.base h.row.kind) (path_in after h.row.base h.row.kind)
    info-is = ap (λ i. info_word (next_kind h.row.kind) (info_of h.row.kind i).level (info_of h.row.kind i).path) (sym info)

    pub grown-hangs : IsHanging c real after (Some (fresh, kind)) at
    grown-hangs = record {
      row = up;
      effect = grown-effect;
      old = None;
      base = refl;
      kind = refl;
      inside = upper-each (IsInTree c.shape after) h rows;
      pending = (
        leads,
        refl,
        ap (child_in s after) has_slot ∙ child,
        own,
        ap (child_in s after) absent,
        (
          slot,
          up-slot byte slot fresh (next_kind h.row.kind) leads has_slot insert ready-next filled-next apart
              (λ word ne out. hung.same word ne out) hung.hangs,
        ),
        ready-next,
        record {
          form = form-same words after fresh (next_kind h.row.kind)
              (row-keys words after fresh (next_kind h.row.kind) filled-next) hung.form;
          info = info-kept words after fresh (next_kind h.row.kind) filled-next ∙ (hung.info ∙ info-is);
          others = λ z small ne. child-same s words after fresh (next_kind h.row.kind) z small filled-next
              ∙ (hung.others z small ne ∙ sym (child-same s first after h.row.base h.row.kind z small was.0));
          put = child-same s words after fresh (next_kind h.row.kind) y y-small filled-next
              ∙ (hung.put ∙ leaf-is insert.key insert.value insert.is);
        },
      );
      does = insert-does insert.key insert.value insert.is grown-effect None (
        sym (ap key_of insert.is),
        λ m. ap (λ z. put z insert.value m)
            (ap key_of insert.is),
      );
      fresh_row = ap (λ z. Some (fresh, z)) larger;
      at = Gone h.row (is ∙ ap (λ z. Obsolete (record { row = h.row; above = z })) hung_in) refl rows.0 refl (λ b gone. gone);
    }
