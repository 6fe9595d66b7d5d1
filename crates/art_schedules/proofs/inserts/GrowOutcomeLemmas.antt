-- GROW, of an insert that runs alone on words like those at rest: a row of the next kind is hung in the row's place, or the call is
-- refused.
use Rattle.art_schedules.proofs.Common.{◌≡◌, ◌⊎◌, inl, inr, ℕ, ◌+◌, ◌-◌, ◌%◌, ◌<◌, ◌≤◌, List, [], ◌∷◌, length, Bool, true, false}
use Rattle.map_object.specs.MapObject.{value_reply}
use Rattle.art_rows.specs.Rows.{Row}
use Rattle.art_schedules.specs.alone.Alone.{Ends}
use Rattle.art_schedules.proofs.Common.{refl, sym, ap, ◌∙◌, subst, arith, eqb-true, eqb-false, ltb-true, All-set, length-set}
use Rattle.art_schedules.proofs.Common.{get_or-set_same, get_or-set_other, Insert, Contents, value_at, put, Shape, Kind, ChildRow}
use Rattle.art_schedules.proofs.Common.{Leaf, row_words, rows_of, table_words, claims_of, base_of, info_at, capacity, row_word, info_word}
use Rattle.art_schedules.proofs.Common.{is_obsolete, obsolete_word, claims-few, two-words, first-some, Variant, Setting, byte_at}
use Rattle.art_schedules.proofs.Common.{unlock_obsolete, unlock_all, Part, ◌>>◌, store, grow, fill, next_kind, Reached, Means, slot_of, child_in}
use Rattle.art_schedules.proofs.Common.{child_on, IsTree, level_in, path_in, IsAtRest, LeadsTo, IsGrown, ChangesAt, HasRowInPlace, SameRow}
use Rattle.art_schedules.proofs.Common.{SameTreesAreOne, GrownRowsAreHung, WordsAreReadBack, VersionsSay, WordsAreSmall, HasGrown, IsApart, Comes}
use Rattle.art_schedules.proofs.Common.{unlocked_rows, keys_in_row, count_in_row, IsInside, IsNew, IsNewRow}
use Rattle.std.proofs.Common.{◌≢◌, slice_set, All, nat_lt, ◌==◌, slice_index, Some, None}
use Rattle.events.specs.declared.event.Reply.TheVariants as reply
use Rattle.art_schedules.specs.writes.Laws.{RowsAreFilled}
use Rattle.art_schedules.proofs.alone.AloneLemmas.{ends-bind, bind-comes, then-comes, store-comes}
use Rattle.art_schedules.proofs.alone.RowRunLemmas.{with_claim, claim-ends, claim-comes, unlock_obsolete-comes, unlock_all-comes}
use Rattle.art_schedules.proofs.alone.PlaceLemmas.{Sits, sits-part, sits-inside, sits-kind_at}
use Rattle.art_schedules.proofs.alone.SlotLemmas.{slot-is, form-same, row-keys, slot-same, keys-same, count-same, IsChildWord}
use Rattle.art_schedules.proofs.alone.LikeLemmas.{Nothing, sits}
use Rattle.art_schedules.proofs.alone.WayLemmas.{below-other, level-most}
use Rattle.art_schedules.proofs.inserts.NearLemmas.{Near, near-out, near-plain, near-live, near-behind, near-version, near-unlocked, Among, IsHeld}
use Rattle.art_schedules.proofs.inserts.NearLemmas.{unlocked-other, behind-plain}
use Rattle.art_schedules.proofs.inserts.OutcomeLemmas.{split, child-same, no-row, Claimed, settle-claimed, Outcome, refused}
use Rattle.art_schedules.proofs.inserts.HungLemmas.{word-changes}
use Rattle.art_schedules.proofs.inserts.SmallLemmas.{path_byte-small}
use Rattle.art_schedules.proofs.inserts.SettledLemmas.{settled-words-rest}
use Rattle.art_schedules.proofs.words.ByteLemmas.{bytes-small}

obsolete-small : (v : ℕ) → obsolete_word v < 18446744073709551616
obsolete-small v = omega arith

some-more : (i : ℕ) → (i ≡ 0 → ⊥) → 1 ≤ i
some-more i h = grind (arith, h)

module _ (trees : SameTreesAreOne) (hangs : GrownRowsAreHung) (written : RowsAreFilled) (read : WordsAreReadBack) (versions : VersionsSay)
    (sized : WordsAreSmall) (s : Shape)
    (variant : Variant) (n : ℕ) (words : List ℕ) (rest : IsAtRest s n words) (few : n < 4611686018427387904)
    (bounded : table_words s < 2305843009213693952)
    (m : Contents) (means : Means s words m)
    (key value : ℕ) (key_small : key < 4294967296) (value_small : value < 1073741824) where
  abbrev c : Setting
  c = record { shape = s; variant = variant; call = Insert key value }

  -- the part runs alone to a value and to an outcome; or the call is refused, and that is an
  -- outcome too
  pub record Grows (part : Part (Unit {0})) (now : List ℕ) : Type 0 where
    pub after : List ℕ
    pub comes : (Comes part now tt after × Outcome s n words rest m means key value reply.None after)
        ⊎ (Ends part now reply.Refused after × Outcome s n words rest m means key value reply.Refused after)

  module _ (r a : Row) (now : List ℕ) (r_held : IsHeld s n words rest r) (a_held : IsHeld s n words rest a)
      (near : Near s n words rest Nothing (Among s n words rest (r ∷ a ∷ [])) Nothing now)
      (y slot : ℕ) (above : LeadsTo s words key a.base a.kind y) (y_byte : y < 256) (at : slot_of words a.base a.kind y ≡ Some slot)
      (hanging : child_on s words a.base a.kind y ≡ ChildRow r.base r.kind)
      (leads : LeadsTo s words key r.base r.kind (byte_at c r.level)) (byte : byte_at c r.level < 256)
      (level : r.level ≡ level_in words r.base r.kind)
      (path : r.path ≡ path_in words r.base r.kind) (none : slot_of words r.base r.kind (byte_at c r.level) ≡ None)
      (all : count_in_row (Insert key value) words r.base r.kind (byte_at c r.level) ≡ capacity r.kind)
      (absent : value_at m key ≡ None) where
    abbrev x : ℕ
    x = byte_at c r.level

    abbrev larger : Kind
    larger = next_kind r.kind

    abbrev keys : List ℕ
    keys = keys_in_row words r.base r.kind x

    abbrev count : ℕ
    count = count_in_row (Insert key value) words r.base r.kind x

    abbrev number : ℕ
    number = slice_index now (claims_of larger)

    was : slice_index now (claims_of larger) ≡ slice_index words (claims_of larger)
    was = near-plain s n words rest (claims_of larger) near (no-row s n words rest (claims_of larger) (claims-few larger)) (λ o. o)

    full : nat_lt number (rows_of s larger) ≡ false → Grows (grow c (a ∷ []) slot r keys count) now
    unfolding grow
    full e = record {
      after = unlocked_rows (r ∷ a ∷ []) (with_claim now larger);
      comes = inr (
        ends-bind {A = ℕ} {B = Unit {0}} (claim-ends c (r ∷ a ∷ []) larger now e),
        refused s n words rest m means key value trees few larger (r ∷ a ∷ []) now (r_held, (a_held, tt)) near,
      );
    }

    module _ (low : number < rows_of s larger) where
      abbrev row : ℕ
      row = base_of s larger number

      row-sits : Sits s row larger
      row-sits = record { number = number; low = low; is = refl }

      row-apart : (b i j : ℕ) (k : Kind) → Reached s words b k → i < row_words k → j < row_words larger → b + i ≡ row + j → ⊥
      row-apart b i j k q li lj e =
          let its = rest.claimed b k q in
          let (kinds, numbers, bases, places) = sits-part s b row i j k larger
          (record { number = its.number; low = its.within; is = its.is })
          (record { number = number; low = low; is = refl }) li lj e in
          omega (arith, numbers, was, subst (λ q. its.number < slice_index words (claims_of q)) kinds its.claimed)

      is-slot : IsChildWord a.base a.kind slot
      is-slot = slot-is words a.base a.kind y slot y_byte at

      early : 1 ≤ is-slot.place
      early = omega (arith, first-some a.kind, is-slot.low)

      slot-elsewhere : (b j : ℕ) (k : Kind) → Reached s words b k → j < row_words k → b + j ≡ slot → (b ≡ a.base) × (j ≡ is-slot.place)
      slot-elsewhere b j k q lj e =
          let (kinds, numbers, bases, places) =
          sits-part s b a.base j is-slot.place k a.kind (sits s n words rest q) (sits s n words rest above.reached) lj
          is-slot.high (e ∙ is-slot.is) in
          (bases, places)

      -- the slot is none of the row's words
      slot-above : (j : ℕ) → j < row_words r.kind → r.base + j ≡ slot → ⊥
      slot-above j lj e = below-other s n words rest above.reached y_byte hanging (slot-elsewhere r.base j r.kind leads.reached lj e).0

      -- what was written in addition to the count of claims
      abbrev Extra : ℕ → Type 0
      Extra w = (w ≡ slot) ⊎ ((j : ℕ) × (1 ≤ j) × (j < row_words larger) × (w ≡ row + j))

      abbrev Out : ℕ → Type 0
      Out = Claimed s n words rest larger Extra

      not-written : (b : ℕ) (k : Kind) → Reached s words b k → (j : ℕ) → j < row_words k → (b + j ≡ slot → ⊥) → Out (b + j) → ⊥
      not-written b k q j high ne (inl is) = omega (arith, (sits-inside s b j k (sits s n words rest q) high).0, is, claims-few larger)
      not-written b k q j high ne (inr (inl is)) = ne is
      not-written b k q j high ne (inr (inr (i, one, li, is))) = row-apart b j i k q high li is

      base-plain : (b : ℕ) (k : Kind) → Reached s words b k → b + 0 ≡ slot → ⊥
      base-plain b k q e = omega (arith, (slot-elsewhere b 0 k q (omega (arith, two-words k)) e).1, early)

      -- one of the words is set
      set-changed : (v : List ℕ) (p q : ℕ) → Out p → (w : ℕ) → (b : Bool) → (w == p) ≡ b
          → (slice_index (slice_set v p q) w ≡ slice_index v w) ⊎ Out w
      set-changed v p q o w true e = inr (subst (λ i. Out i) (sym (eqb-true w p e)) o)
      set-changed v p q o w false e = inl (get_or-set_other v p w q 0 (eqb-false w p e))

      abbrev claimed : List ℕ
      claimed = with_claim now larger

      abbrev info : ℕ
      info = info_word larger r.level r.path

      abbrev begun : List ℕ
      begun = slice_set claimed (info_at row) info

      info-out : Out (info_at row)
      info-out = inr (inr (1, omega arith, two-words larger, refl))

      info-small : info < 18446744073709551616
      info-small =
          let long = (rest.tree.info r.base r.kind leads.reached).0 in
          sized.info larger r.level r.path (omega (arith, level, level-most words r.base r.kind))
          (ap (λ p. length p) path ∙ (long ∙ sym level))
          (subst (λ p. All (λ x. x < 256) p) (sym path)
          (bytes-small (path_in words r.base r.kind) (λ i. path_byte-small words r.base r.kind i)))

      row-small : row < 2305843009213693952
      row-small = omega (arith, bounded, (sits-inside s row 0 larger row-sits (omega (arith, two-words larger))).1)

      near1 : Near s n words rest Out (Among s n words rest (r ∷ a ∷ [])) Nothing claimed
      near1 = near-out s n words rest near (length-set now (claims_of larger) ((number + 1) % 18446744073709551616))
          (All-set (λ w. w < 18446744073709551616) now (claims_of larger) ((number + 1) % 18446744073709551616) (omega arith) near.small)
          (λ w. set-changed now (claims_of larger) ((number + 1) % 18446744073709551616) (inl refl) w (w == claims_of larger)
          refl) (λ w o. absurd o)

      near2 : Near s n words rest Out (Among s n words rest (r ∷ a ∷ [])) Nothing begun
      near2 = near-out s n words rest near1 (length-set claimed (info_at row) info)
          (All-set (λ w. w < 18446744073709551616) claimed (info_at row) info info-small near1.small)
          (λ w. set-changed claimed (info_at row) info info-out w (w == info_at row) refl) (λ w o. o)

      same : SameRow words begun r.base r.kind
      same j low2 high = near-behind s n words rest near2 leads.reached j low2 high (not-written r.base r.kind leads.reached j high
          (slot-above j high))

      row-ends : (k : ℕ) → 1 < k → ((j : ℕ) → j < k → row + j < table_words s) → row + k ≤ length begun
      row-ends k some h = let last = h (k - 1) (omega (arith, some)) in omega (arith, last, near2.long, some)

      fresh-zero : (w : ℕ) → row + 2 ≤ w → w < row + row_words larger → slice_index begun w ≡ 0
      fresh-zero w from to =
          get_or-set_other claimed (info_at row) w info 0 (λ is. omega (arith, is, from))
          ∙ (get_or-set_other now (claims_of larger) w ((number + 1) % 18446744073709551616) 0
          (λ is. omega (arith, is, from, claims-few larger, (sits-inside s row 0 larger row-sits (omega (arith, two-words larger))).0))
          ∙ (near-plain s n words rest w near plain (λ o. o) ∙ rest.fresh larger number (omega (arith, was)) low w (omega (arith, from))
          to))
        where
          plain : (k : Kind) → Sits s w k → ⊥
          plain k q = behind-plain s n words rest row (w - row) larger row-sits (omega (arith, from)) (omega (arith, from, to)) k
              (subst (λ i. Sits s i k) (back row w from) q)
            where
              back : (u v : ℕ) → u + 2 ≤ v → v ≡ u + (v - u)
              back u v h = omega (arith, h)

      rows-apart : IsApart r.base r.kind row larger
      rows-apart = go (split r.base row (row_words larger))
        where
          below : r.base < row → (row < r.base)
              ⊎ ((r.base + row_words r.kind ≤ row) ⊎ ((j : ℕ) × (j < row_words r.kind) × (row ≡ r.base + j)))
              → IsApart r.base r.kind row larger
          below lt (inl l) = absurd (omega (arith, l, lt))
          below lt (inr (inl l)) = inl l
          below lt (inr (inr (j, lj, e))) = absurd (row-apart r.base j 0 r.kind leads.reached lj (omega (arith, two-words larger))
              (omega (arith, e)))

          go : (r.base < row) ⊎ ((row + row_words larger ≤ r.base) ⊎ ((j : ℕ) × (j < row_words larger) × (r.base ≡ row + j)))
              → IsApart r.base r.kind row larger
          go (inl l) = below l (split row r.base (row_words r.kind))
          go (inr (inl l)) = inr l
          go (inr (inr (j, lj, e))) = absurd (row-apart r.base 0 j r.kind leads.reached (omega (arith, two-words r.kind)) lj
              (omega (arith, e)))

      run : (after : List ℕ)
          × Comes (fill r.kind c r row x (keys_in_row begun r.base r.kind x) (count_in_row (Insert key value) begun r.base r.kind x)) begun
          tt after
          × HasGrown s begun after r.base r.kind row larger x (Leaf key value)
      run = written c r row begun x key value refl value_small
          (row-ends (row_words larger) (two-words larger) (λ j h. (sits-inside s row j larger row-sits h).1)) rows-apart fresh-zero
          (form-same words begun r.base r.kind (row-keys words begun r.base r.kind same) (rest.tree.form r.base r.kind leads.reached)) byte
          (slot-same words begun r.base r.kind x byte (row-keys words begun r.base r.kind same) ∙ none)
          (count-same words begun r.base (Insert key value) r.kind x byte (row-keys words begun r.base r.kind same) ∙ all)

      abbrev filled : List ℕ
      filled = run.0

      has : HasGrown s begun filled r.base r.kind row larger x (Leaf key value)
      has = run.2

      fill-comes : Comes (fill r.kind c r row x keys count) begun tt filled
      fill-comes = subst (λ k. Comes (fill r.kind c r row x keys k) begun tt filled)
          (count-same words begun r.base (Insert key value) r.kind x byte (row-keys words begun r.base r.kind same))
          (subst (λ ks. Comes (fill r.kind c r row x ks (count_in_row (Insert key value) begun r.base r.kind x)) begun tt filled)
          (keys-same words begun r.base r.kind x byte (row-keys words begun r.base r.kind same)) run.1)

      abbrev hung : List ℕ
      hung = slice_set filled slot (row_word row)

      abbrev freed : List ℕ
      freed = slice_set hung r.base (obsolete_word r.kept)

      abbrev later : List ℕ
      later = unlocked_rows (a ∷ []) freed

      near3 : Near s n words rest Out (Among s n words rest (r ∷ a ∷ [])) Nothing filled
      near3 = near-out s n words rest near2 has.long (has.small near2.small (key_small, value_small))
          (λ w. go w (split w row (row_words larger))) (λ w o. o)
        where
          go : (w : ℕ) → (w < row) ⊎ ((row + row_words larger ≤ w) ⊎ ((j : ℕ) × (j < row_words larger) × (w ≡ row + j)))
              → (slice_index filled w ≡ slice_index begun w) ⊎ Out w
          go w (inl l) = inl (has.beside w (inl (omega (arith, l))))
          go w (inr (inl l)) = inl (has.beside w (inr l))
          go w (inr (inr (j, lj, e))) = by (j == 0) refl
            where
              by : (b : Bool) → (j == 0) ≡ b → (slice_index filled w ≡ slice_index begun w) ⊎ Out w
              by true z = inl (has.beside w (inl (omega (arith, e, eqb-true j 0 z))))
              by false z = inr (inr (inr (j, some-more j (eqb-false j 0 z), lj, e)))

      near4 : Near s n words rest Out (Among s n words rest (r ∷ a ∷ [])) Nothing hung
      near4 = near-out s n words rest near3 (length-set filled slot (row_word row))
          (All-set (λ w. w < 18446744073709551616) filled slot (row_word row) (omega (arith, row-small)) near3.small)
          (λ w. set-changed filled slot (row_word row) (inr (inl refl)) w (w == slot) refl) (λ w o. o)

      near5 : Near s n words rest Out (Among s n words rest (a ∷ [])) (λ w. w ≡ r.base) freed
      near5 = near-version s n words rest {held2 = Among s n words rest (a ∷ [])} {dead2 = λ w. w ≡ r.base} (obsolete_word r.kept)
          near4 leads.reached
          (obsolete-small r.kept)
          (λ h. absurd (h refl)) (λ h. (versions.obsolete r.kept).0 ∙ r_held.free) keep (λ w o. absurd o)
        where
          keep : (w : ℕ) → (w ≡ r.base) ⊎ Among s n words rest (a ∷ []) w → (w ≡ r.base → ⊥) → Among s n words rest (a ∷ []) w
          keep w (inl is) ne = absurd (ne is)
          keep w (inr h) ne = h

      near6 : Near s n words rest Out Nothing (λ w. w ≡ r.base) later
      near6 = near-unlocked s n words rest (a ∷ []) (a_held, tt) near5

      -- a word that is no row's base, and not the slot, is as the copy left it
      after-fill : (w : ℕ) → ((k : Kind) → Sits s w k → ⊥) → (w ≡ slot → ⊥) → slice_index later w ≡ slice_index filled w
      after-fill w plain ne =
          unlocked-other s n words rest (a ∷ []) freed (a_held, tt) w plain
          ∙ (get_or-set_other hung r.base w (obsolete_word r.kept) 0 (λ is. plain r.kind (subst (λ b. Sits s b r.kind) (sym is)
          (sits s n words rest leads.reached)))
          ∙ get_or-set_other filled slot w (row_word row) 0 ne)

      same-fresh : SameRow filled later row larger
      same-fresh j one high = after-fill (row + j) (behind-plain s n words rest row j larger row-sits one high)
          (λ e. row-apart a.base is-slot.place j a.kind above.reached is-slot.high high (sym is-slot.is ∙ sym e))

      slot-plain : (k : Kind) → Sits s slot k → ⊥
      slot-plain k q = behind-plain s n words rest a.base is-slot.place a.kind (sits s n words rest above.reached) early is-slot.high k
          (subst (λ w. Sits s w k) is-slot.is q)

      slot-inside : slot < length filled
      slot-inside = omega (
        arith,
        (sits-inside s a.base is-slot.place a.kind (sits s n words rest above.reached) is-slot.high).1,
        is-slot.is,
        near3.long,
      )

      slot-now : slice_index later slot ≡ row_word row
      slot-now =
          unlocked-other s n words rest (a ∷ []) freed (a_held, tt) slot slot-plain
          ∙ (get_or-set_other hung r.base slot (obsolete_word r.kept) 0
          (λ is. slot-plain r.kind (subst (λ b. Sits s b r.kind) (sym is) (sits s n words rest leads.reached)))
          ∙ get_or-set_same filled slot (row_word row) 0 slot-inside)

      more : slice_index later (claims_of larger) ≡ slice_index words (claims_of larger) + 1
      more =
          after-fill (claims_of larger) (no-row s n words rest (claims_of larger) (claims-few larger))
          (λ is. omega (
            arith,
            is,
            claims-few larger,
            (sits-inside s a.base is-slot.place a.kind
                (sits s n words rest above.reached) is-slot.high).0,
            is-slot.is,
          ))
          ∙ (has.beside (claims_of larger) (inl (omega (arith, low-claims)))
          ∙ (get_or-set_other claimed (info_at row) (claims_of larger) info 0 (λ is. omega (arith, is, low-claims))
          ∙ (get_or-set_same now (claims_of larger) ((number + 1) % 18446744073709551616) 0
          (omega (arith, low-claims, (sits-inside s row 0 larger row-sits (omega (arith, two-words larger))).1, near.long))
          ∙ omega (arith, was, rest.claims larger, few))))
        where
          low-claims : claims_of larger < row
          low-claims = omega (arith, claims-few larger, (sits-inside s row 0 larger row-sits (omega (arith, two-words larger))).0)

      new : IsNewRow s words later row larger
      new = (record { number = number; claimed = omega (arith, was, more); within = low; is = refl }, omega (arith, was))

      within : (w : ℕ) → Extra w → IsInside s words w ⊎ IsNew s words later w
      within w (inl is) = inl (a.base, a.kind, is-slot.place, above.reached, early, is-slot.high, is ∙ is-slot.is)
      within w (inr (j, one, lj, is)) = inr (row, larger, j, new, one, lj, is)

      info-now : slice_index later (info_at row) ≡ info_word larger (level_in words r.base r.kind) (path_in words r.base r.kind)
      info-now =
          same-fresh 1 (omega arith) (two-words larger) ∙ (has.beside (info_at row) (inl (omega arith))
          ∙ (get_or-set_same claimed (info_at row) info 0
          (omega (arith, (sits-inside s row 1 larger row-sits (two-words larger)).1, near1.long))
          ∙ (ap (λ l. info_word larger l r.path) level ∙ ap (λ p. info_word larger (level_in words r.base r.kind) p) path)))

      is-grown : IsGrown s words later key value r.base r.kind row larger x
      is-grown = record {
        new = λ k q. row-apart row 0 0 k q (omega (arith, two-words k)) (omega (arith, two-words larger)) refl;
        form = form-same filled later row larger (row-keys filled later row larger same-fresh) has.form;
        info = info-now;
        absent = ap (λ o. child_in s words o) none;
        leaf = child-same s filled later row larger x byte same-fresh ∙ has.put;
        rest = λ z zb ne. child-same s filled later row larger z zb same-fresh ∙ (has.others z zb ne
            ∙ child-same s words begun r.base r.kind z zb same);
      }

      changes : ChangesAt s words later a.base a.kind y (ChildRow row larger)
      changes = word-changes s n words rest later a.base slot (row_word row) y a.kind above.reached y_byte at
          (λ b k q j one high ne. near-behind s n words rest near6 q j one high (not-written b k q j high ne)) slot-now
          (rest.tree.form a.base a.kind above.reached) (ChildRow row larger)
          (read.child s (ChildRow row larger) (sits-kind_at s row larger row-sits))

      tree : IsTree s later × HasRowInPlace s words later r.base row larger × Means s later (put key value m)
      tree = hangs s words later m key value a.base a.kind y r.base r.kind x row larger rest.tree means above hanging leads
          is-grown (record {
            others = λ b k q ne nb. changes.others b k q ne;
            info = changes.info;
            form = changes.form;
            other_bytes = changes.other_bytes;
            here = changes.here;
          })

      old-or-new : (b : ℕ) (k : Kind) → (Reached s words b k × (b ≢ r.base)) ⊎ ((b ≡ row) × (k ≡ larger))
          → (Reached s words b k × (is_obsolete (slice_index later b) ≡ false)) ⊎ IsNewRow s words later b k
      old-or-new b k (inl (q, ne)) = inl (
        q,
        near-live s n words rest near6 q ne
            (λ o. not-written b k q 0 (omega (arith, two-words k)) (base-plain b k q) (subst (λ w. Out w) (omega arith) o)),
      )
      old-or-new b k (inr (is, kinds)) = inr (subst (λ b. IsNewRow s words later b k) (sym is)
          (subst (λ k. IsNewRow s words later row k) (sym kinds) new))

      outcome : Outcome s n words rest m means key value reply.None later
      outcome = record {
        legal = inr (ap value_reply (sym absent));
        rests = settled-words-rest s n words later rest (settle-claimed s n words rest larger later near6 more within) tree.0
            (λ b k q. old-or-new b k ((tree.1 b k).0 q));
        meant = tree.2;
      }

      grown : nat_lt number (rows_of s larger) ≡ true → Grows (grow c (a ∷ []) slot r keys count) now
      unfolding grow
      grown e = record {
        after = later;
        comes = inl (
          bind-comes {A = ℕ} {B = Unit {0}} {f = λ base. store (info_at base) info >> (fill r.kind c r base x keys count
              >> (store slot (row_word base) >> (unlock_obsolete r >> unlock_all (a ∷ []))))} (claim-comes c (r ∷ a ∷ []) larger now e)
              (then-comes {n = fill r.kind c r row x keys count >> (store slot (row_word row) >>
              (unlock_obsolete r >> unlock_all (a ∷ [])))}
              (store-comes (info_at row) info claimed)
              (then-comes {n = store slot (row_word row) >> (unlock_obsolete r >> unlock_all (a ∷ []))} fill-comes
              (then-comes {n = unlock_obsolete r >> unlock_all (a ∷ [])} (store-comes slot (row_word row) filled)
              (then-comes {n = unlock_all (a ∷ [])} (unlock_obsolete-comes r hung) (unlock_all-comes (a ∷ []) freed))))),
          outcome,
        );
      }

    -- A grown row is hung, and the rows are unlocked, or the call is refused.
    pub grows : Grows (grow c (a ∷ []) slot r keys count) now
    grows = go (nat_lt number (rows_of s larger)) refl
      where
        go : (b : Bool) → nat_lt number (rows_of s larger) ≡ b → Grows (grow c (a ∷ []) slot r keys count) now
        go true e = grown (ltb-true number (rows_of s larger) e) e
        go false e = full e
