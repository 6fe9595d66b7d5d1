-- PAIR, of an insert that runs alone on words like those at rest: a pair is hung, or the call is refused.
use Rattle.art_schedules.proofs.Common.{◌≡◌, ◌⊎◌, inl, inr, ℕ, ◌+◌, ◌<◌, ◌≤◌, List, take, Bool, true, false, refl}
use Rattle.map_object.specs.MapObject.{value_reply}
use Rattle.art_rows.specs.Rows.{Row}
use Rattle.art_schedules.specs.alone.Alone.{Ends}
use Rattle.art_schedules.proofs.Common.{sym, ap, ◌∙◌, subst, arith, eqb-true, eqb-false, ltb-true, All-take, Insert, Contents, value_at}
use Rattle.art_schedules.proofs.Common.{put, Shape, Kind, Four, Child, ChildRow, Leaf, row_words, rows_of, table_words, claims_of}
use Rattle.art_schedules.proofs.Common.{base_of, first_child, key_bytes, row_word, is_obsolete, claims-few, two-words, key_byte-small, Variant}
use Rattle.art_schedules.proofs.Common.{Setting, byte_at, Part, store, Under, pair, pair_in, Reached, Means, slot_of, child_on, IsTree}
use Rattle.art_schedules.proofs.Common.{IsAtRest, LeadsTo, Parts, IsPair, HasRowMore, SameRow, SameTreesAreOne, PairsAreHung, WordsAreReadBack}
use Rattle.art_schedules.proofs.Common.{WordsAreSmall, IsStored, IsShort, HasPair, IsOutside, Comes, unlocked_rows, IsInside, IsNew, IsNewRow}
use Rattle.std.proofs.Common.{◌≢◌, nat_lt, ◌==◌, slice_index, Some, None}
use Rattle.events.specs.declared.event.Reply.TheVariants as reply
use Rattle.art_schedules.specs.writes.Laws as writes
use Rattle.art_schedules.proofs.alone.AloneLemmas.{ends-bind}
use Rattle.art_schedules.proofs.alone.RowRunLemmas.{with_claim, claim-ends}
use Rattle.art_schedules.proofs.alone.PlaceLemmas.{Sits, sits-part, sits-inside, sits-kind_at}
use Rattle.art_schedules.proofs.alone.SlotLemmas.{slot-is, form-same, row-keys, IsChildWord}
use Rattle.art_schedules.proofs.alone.LikeLemmas.{Nothing, sits}
use Rattle.art_schedules.proofs.inserts.NearLemmas.{Near, near-out, near-plain, near-live, near-behind, near-unlocked, Among, AreHeld}
use Rattle.art_schedules.proofs.inserts.NearLemmas.{unlocked-other, unlocked-row, behind-plain}
use Rattle.art_schedules.proofs.inserts.OutcomeLemmas.{split, child-same, no-row, Claimed, settle-claimed, Outcome, refused}
use Rattle.art_schedules.proofs.inserts.HungLemmas.{word-changes}
use Rattle.art_schedules.proofs.inserts.SmallLemmas.{parts-level, taken-long}
use Rattle.art_schedules.proofs.inserts.SettledLemmas.{settled-words-rest}
use Rattle.art_schedules.proofs.words.ByteLemmas.{key_bytes-small}

module _ (trees : SameTreesAreOne) (hangs : PairsAreHung) (written : writes.PairsAreWritten) (read : WordsAreReadBack)
    (sized : WordsAreSmall) (s : Shape)
    (variant : Variant)
    (n : ℕ) (words : List ℕ) (rest : IsAtRest s n words) (few : n < 4611686018427387904)
    (bounded : table_words s < 2305843009213693952) (m : Contents)
    (means : Means s words m) (key value : ℕ)
    (key_small : key < 4294967296) (value_small : value < 1073741824) where
  abbrev c : Setting
  c = record { shape = s; variant = variant; call = Insert key value }

  -- a part of an insert runs alone to a value, or the call is refused, and what is left when the rows are unlocked is an outcome
  pub record Hangs (part : Part (Unit {0})) (rows : List Row) (now : List ℕ) : Type 0 where
    pub after : List ℕ
    pub comes : (Comes part now tt after × Outcome s n words rest m means key value reply.None (unlocked_rows rows after))
        ⊎ (Ends part now reply.Refused after × Outcome s n words rest m means key value reply.Refused after)

  module _ (rows : List Row) (now : List ℕ) (held : AreHeld s n words rest rows)
      (near : Near s n words rest Nothing (Among s n words rest rows) Nothing now)
      (base : ℕ) (kind : Kind) (x slot d a : ℕ) (child : Child) (leads : LeadsTo s words key base kind x) (byte : x < 256)
      (at : slot_of words base kind x ≡ Some slot) (hanging : child_on s words base kind x ≡ child) (parts : Parts words key d a child)
      (stored : IsStored s child) (short : IsShort child) (a_byte : a < 256) (apart : a ≢ slice_index (key_bytes key) d)
      (absent : value_at m key ≡ None) where
    abbrev old : Under
    old = record { byte = a; child = child }

    was : slice_index now (claims_of Four) ≡ slice_index words (claims_of Four)
    was = near-plain s n words rest (claims_of Four) near (no-row s n words rest (claims_of Four) (claims-few Four)) (λ o. o)

    pair-ends : (new : Under) → nat_lt (slice_index now (claims_of Four)) (rows_of s Four) ≡ false
        → Ends (pair c rows d old new) now reply.Refused (unlocked_rows rows (with_claim now Four))
    unfolding pair
    pair-ends new e = ends-bind {A = ℕ} {B = ℕ} (claim-ends c rows Four now e)

    full : nat_lt (slice_index now (claims_of Four)) (rows_of s Four) ≡ false → Hangs (pair_in c rows slot d old) rows now
    unfolding pair_in
    full e = record {
      after = unlocked_rows rows (with_claim now Four);
      comes = inr (
        ends-bind {A = ℕ} {B = Unit {0}} {f = λ word. store slot word}
            (pair-ends (record { byte = byte_at c d; child = Leaf key value }) e),
        refused s n words rest m means key value trees few Four rows now held near,
      );
    }

    module _ (low : slice_index now (claims_of Four) < rows_of s Four) where
      abbrev row : ℕ
      row = base_of s Four (slice_index now (claims_of Four))

      row-sits : Sits s row Four
      row-sits = record { number = slice_index now (claims_of Four); low = low; is = refl }

      -- no word of a row that is reached is one of the fresh row
      row-apart : (b i j : ℕ) (k : Kind) → Reached s words b k → i < row_words k → j < 7 → b + i ≡ row + j → ⊥
      row-apart b i j k r li lj e =
          let its = rest.claimed b k r in
          let (kinds, numbers, bases, places) = sits-part s b row i j k Four (record { number = its.number; low = its.within; is = its.is })
          (record { number = slice_index now (claims_of Four); low = low; is = refl }) li lj e in
          omega (arith, numbers, was, subst (λ q. its.number < slice_index words (claims_of q)) kinds its.claimed)

      is-slot : IsChildWord base kind slot
      is-slot = slot-is words base kind x slot byte at

      early : 1 ≤ is-slot.place
      early = go kind is-slot.low
        where
          go : (k : Kind) → first_child k ≤ is-slot.place → 1 ≤ is-slot.place
          go k h = grind (arith, h)

      inside : (5 ≤ slot) × (slot < table_words s)
      inside =
          let (low, high) = sits-inside s base is-slot.place kind (sits s n words rest leads.reached) is-slot.high in
          (omega (arith, low, is-slot.is), omega (arith, high, is-slot.is))

      slot-outside : IsOutside row Four slot
      slot-outside = go (split slot row 7)
        where
          go : (slot < row) ⊎ ((row + 7 ≤ slot) ⊎ ((j : ℕ) × (j < 7) × (slot ≡ row + j))) → IsOutside row Four slot
          go (inl l) = inl l
          go (inr (inl l)) = inr l
          go (inr (inr (j, lj, e))) = absurd (row-apart base is-slot.place j kind leads.reached is-slot.high lj (sym is-slot.is ∙ e))

      run : (after : List ℕ) × Comes (pair_in c rows slot d old) now tt after
          × HasPair s now after row slot d (take d (key_bytes key)) old
          (record { byte = slice_index (key_bytes key) d; child = Leaf key value })
      run = written c rows slot d old now key value refl value_small stored a_byte apart low (omega (arith, near.long)) inside.0
          (omega (arith, inside.1, near.long)) slot-outside

      abbrev after : List ℕ
      after = run.0

      has : HasPair s now after row slot d (take d (key_bytes key)) old
          (record { byte = slice_index (key_bytes key) d; child = Leaf key value })
      has = run.2

      abbrev later : List ℕ
      later = unlocked_rows rows after

      -- what was written in addition to the count of claims
      abbrev Extra : ℕ → Type 0
      Extra w = (w ≡ slot) ⊎ ((j : ℕ) × (1 ≤ j) × (j < 7) × (w ≡ row + j))

      changed : (w : ℕ) → (slice_index after w ≡ slice_index now w) ⊎ Claimed s n words rest Four Extra w
      changed w = claim (w == claims_of Four) refl
        where
          place : (w ≡ claims_of Four → ⊥) → (w ≡ slot → ⊥) → (w < row) ⊎ ((row + 7 ≤ w) ⊎ ((j : ℕ) × (j < 7) × (w ≡ row + j)))
              → (slice_index after w ≡ slice_index now w) ⊎ Claimed s n words rest Four Extra w
          place ne ns (inl l) = inl (has.same w ne ns (inl l))
          place ne ns (inr (inl l)) = inl (has.same w ne ns (inr l))
          place ne ns (inr (inr (j, lj, e))) = go (j == 0) refl
            where
              go : (b : Bool) → (j == 0) ≡ b → (slice_index after w ≡ slice_index now w) ⊎ Claimed s n words rest Four Extra w
              go true z =
                  let is : w ≡ row = omega (arith, e, eqb-true j 0 z) in
                  inl (ap (λ i. slice_index after i) is ∙ (has.version ∙ ap (λ i. slice_index now i) (sym is)))
              go false z = let one = eqb-false j 0 z in inr (inr (inr (j, one_more j one, lj, e)))
                where
                  one_more : (i : ℕ) → (i ≡ 0 → ⊥) → 1 ≤ i
                  one_more i h = grind (arith, h)

          slots : (w ≡ claims_of Four → ⊥) → (b : Bool) → (w == slot) ≡ b
              → (slice_index after w ≡ slice_index now w) ⊎ Claimed s n words rest Four Extra w
          slots ne true e = inr (inr (inl (eqb-true w slot e)))
          slots ne false e = place ne (eqb-false w slot e) (split w row 7)

          claim : (b : Bool) → (w == claims_of Four) ≡ b → (slice_index after w ≡ slice_index now w) ⊎ Claimed s n words rest Four Extra w
          claim true e = inr (inl (eqb-true w (claims_of Four) e))
          claim false e = slots (eqb-false w (claims_of Four) e) (w == slot) refl

      near2 : Near s n words rest (Claimed s n words rest Four Extra) (Among s n words rest rows) Nothing after
      near2 = near-out s n words rest near has.long
          (has.small near.small short (key_small, value_small) (omega (arith, bounded, (sits-inside s row 0 Four row-sits (omega arith)).1))
          (sized.info Four d (take d (key_bytes key)) (parts-level words key d a child parts)
          (taken-long d key (parts-level words key d a child parts))
          (All-take (λ x. x < 256) d (key_bytes key) (key_bytes-small key)))) changed (λ w o. absurd o)

      near3 : Near s n words rest (Claimed s n words rest Four Extra) Nothing Nothing later
      near3 = near-unlocked s n words rest rows held near2

      count : slice_index later (claims_of Four) ≡ slice_index words (claims_of Four) + 1
      count = unlocked-other s n words rest rows after held (claims_of Four) (no-row s n words rest (claims_of Four) (claims-few Four))
          ∙ (has.claimed ∙ omega (arith, was, rest.claims Four, few))

      new : IsNewRow s words later row Four
      new = (
        record { number = slice_index now (claims_of Four); claimed = omega (arith, was, count); within = low; is = refl },
        omega
            (arith, was),
      )

      within : (w : ℕ) → Extra w → IsInside s words w ⊎ IsNew s words later w
      within w (inl is) = inl (base, kind, is-slot.place, leads.reached, early, is-slot.high, is ∙ is-slot.is)
      within w (inr (j, one, lj, is)) = inr (row, Four, j, new, one, lj, is)

      not-written : (b : ℕ) (k : Kind) → Reached s words b k → (j : ℕ) → j < row_words k → (b + j ≡ slot → ⊥)
          → Claimed s n words rest Four Extra (b + j) → ⊥
      not-written b k r j high ne (inl is) = omega (arith, (sits-inside s b j k (sits s n words rest r) high).0, is)
      not-written b k r j high ne (inr (inl is)) = ne is
      not-written b k r j high ne (inr (inr (i, one, li, is))) = row-apart b j i k r high li is

      base-plain : (b : ℕ) (k : Kind) → Reached s words b k → b + 0 ≡ slot → ⊥
      base-plain b k r e =
          let (kinds, numbers, bases, places) =
          sits-part s b base 0 is-slot.place k kind (sits s n words rest r) (sits s n words rest leads.reached)
          (omega (arith, two-words k)) is-slot.high (e ∙ is-slot.is) in
          omega (arith, places, early)

      slot-plain : (k : Kind) → Sits s slot k → ⊥
      slot-plain k y = behind-plain s n words rest base is-slot.place kind (sits s n words rest leads.reached) early is-slot.high k
          (subst (λ w. Sits s w k) is-slot.is y)

      same-fresh : SameRow after later row Four
      same-fresh = unlocked-row s n words rest rows after held row Four row-sits

      is-pair : IsPair s words later key value row d a (slice_index (key_bytes key) d) (child_on s words base kind x)
      is-pair = record {
        new = λ k r. row-apart row 0 0 k r (omega (arith, two-words k)) (omega arith) refl;
        form = form-same after later row Four (row-keys after later row Four same-fresh) has.form;
        info = same-fresh 1 (omega arith) (omega arith) ∙ has.info;
        byte = refl;
        old = child-same s after later row Four a a_byte same-fresh ∙ (has.first ∙ sym hanging);
        leaf = child-same s after later row Four (slice_index (key_bytes key) d) key_byte same-fresh ∙ has.second;
        rest = λ y yb na nb. child-same s after later row Four y yb same-fresh ∙ has.others y na nb;
      }
        where
          key_byte : slice_index (key_bytes key) d < 256
          key_byte = key_byte-small key d

      tree : IsTree s later × HasRowMore s words later row Four × Means s later (put key value m)
      tree = hangs s words later m key value base kind x row d a (slice_index (key_bytes key) d) rest.tree means leads
          (subst (λ q. Parts words key d a q) (sym hanging) parts) is-pair
          (word-changes s n words rest later base slot (row_word row) x kind leads.reached byte at
          (λ b k r j one high ne. near-behind s n words rest near3 r j one high (not-written b k r j high ne))
          (unlocked-other s n words rest rows after held slot slot-plain ∙ has.hangs) (rest.tree.form base kind leads.reached)
          (ChildRow row Four)
          (read.child s (ChildRow row Four) (sits-kind_at s row Four row-sits)))

      old-or-new : (b : ℕ) (k : Kind) → Reached s words b k ⊎ ((b ≡ row) × (k ≡ Four))
          → (Reached s words b k × (is_obsolete (slice_index later b) ≡ false)) ⊎ IsNewRow s words later b k
      old-or-new b k (inl r) = inl (
        r,
        near-live s n words rest near3 r (λ h. h)
            (λ o. not-written b k r 0 (omega (arith, two-words k)) (base-plain b k r)
            (subst (λ w. Claimed s n words rest Four Extra w) (omega arith) o)),
      )
      old-or-new b k (inr (is, kinds)) = inr (subst (λ b. IsNewRow s words later b k) (sym is)
          (subst (λ k. IsNewRow s words later row k) (sym kinds) new))

      hung : Hangs (pair_in c rows slot d old) rows now
      hung = record {
        after = after;
        comes = inl (
          run.1,
          record {
            legal = inr (ap value_reply (sym absent));
            rests = settled-words-rest s n words later rest (settle-claimed s n words rest Four later near3 count within) tree.0
                (λ b k r. old-or-new b k ((tree.1 b k).0 r));
            meant = tree.2;
          },
        );
      }

    -- A pair is hung, and the rows are unlocked, or the call is refused.
    pub hangs-pair : Hangs (pair_in c rows slot d old) rows now
    hangs-pair = go (nat_lt (slice_index now (claims_of Four)) (rows_of s Four)) refl
      where
        go : (b : Bool) → nat_lt (slice_index now (claims_of Four)) (rows_of s Four) ≡ b → Hangs (pair_in c rows slot d old) rows now
        go true e = hung (ltb-true (slice_index now (claims_of Four)) (rows_of s Four) e)
        go false e = full e
