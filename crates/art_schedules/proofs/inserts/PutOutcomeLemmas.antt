-- A leaf that an insert writes in a held row, in the slot of its byte or next to the other
-- children, and what comes of it.
use Rattle.art_schedules.proofs.Common.{◌≡◌, ◌⊎◌, inl, inr, ℕ, ◌+◌, ◌-◌, ◌<◌, ◌≤◌, List, [], ◌∷◌, length, Bool, true, false}
use Rattle.map_object.specs.MapObject.{value_reply}
use Rattle.art_rows.specs.Rows.{Row}
use Rattle.art_schedules.proofs.Common.{refl, sym, ap, ◌∙◌, subst, arith, eqb-true, eqb-false, cases_order, All-set, length-set}
use Rattle.art_schedules.proofs.Common.{get_or-set_same, get_or-set_other, Insert, Contents, value_at, put, Shape, Kind, Leaf}
use Rattle.art_schedules.proofs.Common.{row_words, table_words, capacity, leaf_word, two-words, first-some, Variant, Setting, put_in, Reached}
use Rattle.art_schedules.proofs.Common.{Means, slot_of, child_in, IsAtRest, LeadsTo, IsFree, HasRows, ChangesAt, SameRow, LeavesArePut}
use Rattle.art_schedules.proofs.Common.{WordsAreReadBack, HasPut, Comes, unlocked_rows, keys_in_row, count_in_row, IsInside}
use Rattle.std.proofs.Common.{slice_set, Option, ◌==◌, slice_index, Some, None}
use Rattle.events.specs.declared.event.Reply.TheVariants as reply
use Rattle.art_schedules.specs.writes.Laws as writes
use Rattle.art_schedules.proofs.alone.PlaceLemmas.{Sits, sits-part, sits-inside}
use Rattle.art_schedules.proofs.alone.SlotLemmas.{slot-is, form-same, row-keys, slot-same, keys-same, count-same, IsChildWord}
use Rattle.art_schedules.proofs.alone.LikeLemmas.{Nothing, sits}
use Rattle.art_schedules.proofs.inserts.NearLemmas.{Near, near-out, near-live, near-row, near-behind, near-unlocked, Among, IsHeld, unlocked-other}
use Rattle.art_schedules.proofs.inserts.NearLemmas.{unlocked-row, behind-plain}
use Rattle.art_schedules.proofs.inserts.OutcomeLemmas.{split, child-same, settle-plain, Outcome}
use Rattle.art_schedules.proofs.inserts.HungLemmas.{word-changes}
use Rattle.art_schedules.proofs.inserts.SettledLemmas.{settled-words-rest}

module _ (puts : LeavesArePut) (written : writes.PutsWriteLeaves) (read : WordsAreReadBack) (s : Shape) (variant : Variant)
    (n : ℕ) (words : List ℕ) (rest : IsAtRest s n words) (m : Contents) (means : Means s words m) (key value : ℕ)
    (key_small : key < 4294967296)
    (value_small : value < 1073741824) where
  abbrev c : Setting
  c = record { shape = s; variant = variant; call = Insert key value }

  -- words inside of rows were written, and the map has the value at the key
  finished : {extra : ℕ → Type 0} (later : List ℕ) → Near s n words rest extra Nothing Nothing later
      → ((w : ℕ) → extra w → IsInside s words w)
      → HasRows s words later (put key value m) → (old : Option ℕ) → value_at m key ≡ old
      → Outcome s n words rest m means key value (value_reply old) later
  finished {extra} later near within hung old has = go old has
    where
      plain : (b : ℕ) (k : Kind) → Reached s words b k → extra b → ⊥
      plain b k r e =
          let (b2, l, j, r2, low, high, is) = within b e in
          let (kinds, numbers, bases, places) =
          sits-part s b b2 0 j k l (sits s n words rest r) (sits s n words rest r2) (omega (arith, two-words k)) high
          (omega (arith, is)) in
          omega (arith, places, low)

      rests : IsAtRest s (n + 1) later
      rests = settled-words-rest s n words later rest (settle-plain s n words rest later near within) hung.tree
          (λ b k r. inl (
            (hung.rows b k).0 r,
            near-live s n words rest near ((hung.rows b k).0 r) (λ h. h)
                (plain b k ((hung.rows b k).0 r)),
          ))

      go : (o : Option ℕ) → value_at m key ≡ o → Outcome s n words rest m means key value (value_reply o) later
      go None e = record { legal = inr (ap value_reply (sym e)); rests = rests; meant = hung.means }
      go (Some v) e = record { legal = inr (ap value_reply (sym e)); rests = rests; meant = hung.means }

  module _ (r : Row) (now : List ℕ) (held : IsHeld s n words rest r)
      (near : Near s n words rest Nothing (Among s n words rest (r ∷ [])) Nothing now)
      (x : ℕ) (leads : LeadsTo s words key r.base r.kind x) (byte : x < 256) where
    module _ (slot : ℕ) (at : slot_of words r.base r.kind x ≡ Some slot) (free : IsFree s words key r.base r.kind x) (old : Option ℕ)
        (has : value_at m key ≡ old) where
      is-slot : IsChildWord r.base r.kind slot
      is-slot = slot-is words r.base r.kind x slot byte at

      early : 1 ≤ is-slot.place
      early = omega (arith, first-some r.kind, is-slot.low)

      abbrev stored : List ℕ
      stored = slice_set now slot (leaf_word key value)

      abbrev leaf_later : List ℕ
      leaf_later = unlocked_rows (r ∷ []) stored

      set : (w : ℕ) (b : Bool) → (w == slot) ≡ b → (slice_index stored w ≡ slice_index now w) ⊎ (w ≡ slot)
      set w true e = inr (eqb-true w slot e)
      set w false e = inl (get_or-set_other now slot w (leaf_word key value) 0 (eqb-false w slot e))

      leaf-near : Near s n words rest (λ w. w ≡ slot) Nothing Nothing leaf_later
      leaf-near = near-unlocked s n words rest (r ∷ []) (held, tt) (near-out s n words rest {out2 = λ w. w ≡ slot} near
          (length-set now slot (leaf_word key value))
          (All-set (λ w. w < 18446744073709551616) now slot (leaf_word key value) (omega (arith, key_small, value_small)) near.small)
          (λ w. set w (w == slot) refl) (λ w o. absurd o))

      slot-plain : (k : Kind) → Sits s slot k → ⊥
      slot-plain k y = behind-plain s n words rest r.base is-slot.place r.kind (sits s n words rest leads.reached) early is-slot.high k
          (subst (λ w. Sits s w k) is-slot.is y)

      inside : slot < length now
      inside = omega (
        arith,
        (sits-inside s r.base is-slot.place r.kind (sits s n words rest leads.reached) is-slot.high).1,
        is-slot.is,
        near.long,
      )

      leaf-hung : HasRows s words leaf_later (put key value m)
      leaf-hung = puts s words leaf_later m key value r.base r.kind x rest.tree means leads free
          (word-changes s n words rest leaf_later r.base slot (leaf_word key value) x r.kind leads.reached byte at
          (λ b k q j one high ne. near-behind s n words rest leaf-near q j one high ne)
          (unlocked-other s n words rest (r ∷ []) stored (held, tt) slot slot-plain
          ∙ get_or-set_same now slot (leaf_word key value) 0 inside)
          (rest.tree.form r.base r.kind leads.reached) (Leaf key value) (read.child s (Leaf key value) value_small))

      -- The leaf is stored in the slot, and the row is unlocked.
      pub leaf-outcome : Outcome s n words rest m means key value (value_reply old) leaf_later
      leaf-outcome = finished leaf_later leaf-near
          (λ w e. (r.base, r.kind, is-slot.place, leads.reached, early, is-slot.high, e ∙ is-slot.is)) leaf-hung old has

    module _ (none : slot_of words r.base r.kind x ≡ None) (room : count_in_row (Insert key value) words r.base r.kind x < capacity r.kind)
        (absent : value_at m key ≡ None) where
      same : SameRow words now r.base r.kind
      same = near-row s n words rest near leads.reached

      count : count_in_row (Insert key value) now r.base r.kind x ≡ count_in_row (Insert key value) words r.base r.kind x
      count = count-same words now r.base (Insert key value) r.kind x byte (row-keys words now r.base r.kind same)

      keys : keys_in_row now r.base r.kind x ≡ keys_in_row words r.base r.kind x
      keys = keys-same words now r.base r.kind x byte (row-keys words now r.base r.kind same)

      fits : r.base + row_words r.kind ≤ length now
      fits = go (row_words r.kind) (two-words r.kind) (λ j h. (sits-inside s r.base j r.kind (sits s n words rest leads.reached) h).1)
        where
          go : (k : ℕ) → 1 < k → ((j : ℕ) → j < k → r.base + j < table_words s) → r.base + k ≤ length now
          go k some h = let last = h (pred k) (omega (arith, some)) in omega (arith, last, near.long, some)
            where
              pred : ℕ → ℕ
              pred a = a - 1

      run : (after : List ℕ)
          × Comes (put_in r.kind c r x (keys_in_row now r.base r.kind x) (count_in_row (Insert key value) now r.base r.kind x)) now tt after
          × HasPut s now after r.base r.kind x (Leaf key value)
      run = written c r now x key value refl value_small fits
          (form-same words now r.base r.kind (row-keys words now r.base r.kind same) (rest.tree.form r.base r.kind leads.reached)) byte
          (slot-same words now r.base r.kind x byte (row-keys words now r.base r.kind same) ∙ none) (omega (arith, count, room))

      abbrev after : List ℕ
      after = run.0

      has-put : HasPut s now after r.base r.kind x (Leaf key value)
      has-put = run.2

      abbrev put_later : List ℕ
      put_later = unlocked_rows (r ∷ []) after

      -- the keys and the children of the row
      abbrev Extra : ℕ → Type 0
      Extra w = (j : ℕ) × (2 ≤ j) × (j < row_words r.kind) × (w ≡ r.base + j)

      changed : (w : ℕ) → (slice_index after w ≡ slice_index now w) ⊎ Extra w
      changed w = go (split w r.base (row_words r.kind))
        where
          place : (j : ℕ) → j < row_words r.kind → w ≡ r.base + j → (j ≡ 1) ⊎ ((j < 1) ⊎ (1 < j))
              → (slice_index after w ≡ slice_index now w) ⊎ Extra w
          place j lj e (inl one) = inl (has-put.beside w (inl (omega (arith, e, one))))
          place j lj e (inr (inl less)) = inl (has-put.beside w (inl (omega (arith, e, less))))
          place j lj e (inr (inr more)) = inr (j, more, lj, e)

          go : (w < r.base) ⊎ ((r.base + row_words r.kind ≤ w) ⊎ ((j : ℕ) × (j < row_words r.kind) × (w ≡ r.base + j)))
              → (slice_index after w ≡ slice_index now w) ⊎ Extra w
          go (inl l) = inl (has-put.beside w (inl (omega (arith, l))))
          go (inr (inl l)) = inl (has-put.beside w (inr l))
          go (inr (inr (j, lj, e))) = place j lj e (cases_order j 1)

      put-near : Near s n words rest Extra Nothing Nothing put_later
      put-near = near-unlocked s n words rest (r ∷ []) (held, tt) (near-out s n words rest near has-put.long
          (has-put.small near.small (key_small, value_small)) changed (λ w o. absurd o))

      same-after : SameRow after put_later r.base r.kind
      same-after = unlocked-row s n words rest (r ∷ []) after (held, tt) r.base r.kind (sits s n words rest leads.reached)

      put-changes : ChangesAt s words put_later r.base r.kind x (Leaf key value)
      put-changes = record {
        others = λ b k q ne j low high. near-behind s n words rest put-near q j low high
            (λ (i, two, li, e). ne (sits-part s b r.base j i k r.kind (sits s n words rest q)
            (sits s n words rest leads.reached) high li e).2);
        info = near-behind s n words rest put-near leads.reached 1 (omega arith) (two-words r.kind)
            (λ (i, two, li, e). omega (arith, two, e));
        form = form-same after put_later r.base r.kind (row-keys after put_later r.base r.kind same-after) has-put.form;
        other_bytes = λ y yb ne. child-same s after put_later r.base r.kind y yb same-after ∙ (has-put.others y yb ne
            ∙ child-same s words now r.base r.kind y yb same);
        here = child-same s after put_later r.base r.kind x byte same-after ∙ has-put.put;
      }

      put-hung : HasRows s words put_later (put key value m)
      put-hung = puts s words put_later m key value r.base r.kind x rest.tree means leads
          (inl (ap (λ o. child_in s words o) none)) put-changes

      -- The leaf is put in the row, and the row is unlocked.
      pub put-outcome : (last : List ℕ) × Comes (put_in r.kind c r x (keys_in_row words r.base r.kind x) (count_in_row
          (Insert key value) words r.base r.kind x)) now tt last
          × Outcome s n words rest m means key value reply.None (unlocked_rows (r ∷ []) last)
      put-outcome = (
        after,
        subst (λ k. Comes (put_in r.kind c r x (keys_in_row words r.base r.kind x) k) now tt after) count
            (subst (λ ks. Comes (put_in r.kind c r x ks (count_in_row (Insert key value) now r.base r.kind x)) now tt after) keys run.1),
        finished put_later put-near (λ w (j, two, lj, e). (r.base, r.kind, j, leads.reached, omega (arith, two), lj, e))
            put-hung None absent,
      )
