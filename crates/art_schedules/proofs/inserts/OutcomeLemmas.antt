-- How words after an insert come to be settled, and what an insert comes to.
use Rattle.art_schedules.proofs.Common.{◌≡◌, ◌⊎◌, inl, inr, ℕ, ◌+◌, ◌-◌, ◌%◌, ◌<◌, ◌≤◌, List, length, Bool, true, false}
use Rattle.art_rows.specs.Rows.{Row}
use Rattle.art_schedules.proofs.Common.{refl, sym, ap, ◌∙◌, arith, eqb-true, eqb-false, cases_order, All-set, length-set, get_or-set_same}
use Rattle.art_schedules.proofs.Common.{get_or-set_other, Insert, Reply, Contents, IsLegalReply, after_reply, Shape, Kind, row_words, claims_of}
use Rattle.art_schedules.proofs.Common.{first_child, child_of, claims-few, two-words, Reached, Means, slot_of, child_in, child_on, IsAtRest}
use Rattle.art_schedules.proofs.Common.{SameRow, SameTreesAreOne, HasRows, IsInside, IsNew, IsReleased, IsAfterInsert, unlocked_rows}
use Rattle.std.proofs.Common.{Option, ◌==◌, slice_index, Some, None}
use Rattle.events.specs.declared.event.Reply.TheVariants as reply
use Rattle.art_schedules.proofs.alone.PlaceLemmas.{Sits, sits-inside}
use Rattle.art_schedules.proofs.alone.SlotLemmas.{slot-is, slot-same, row-keys}
use Rattle.art_schedules.proofs.alone.LikeLemmas.{Nothing, sits}
use Rattle.art_schedules.proofs.alone.RowRunLemmas.{with_claim}
use Rattle.art_schedules.proofs.inserts.NearLemmas.{Near, Version, near-out, near-plain, near-live, near-behind, near-unlocked, Among, AreHeld}
use Rattle.art_schedules.proofs.inserts.NearLemmas.{unlocked-other}
use Rattle.art_schedules.proofs.inserts.SettledLemmas.{settled-words-rest}

-- ---- words and rows

-- a word comes before this many words, after them, or among them
pub split : (w base len : ℕ) → (w < base) ⊎ ((base + len ≤ w) ⊎ ((j : ℕ) × (j < len) × (w ≡ base + j)))
split w base len = below (cases_order w base)
  where
    above : base ≤ w → (w ≡ base + len) ⊎ ((w < base + len) ⊎ (base + len < w)) → (w < base)
        ⊎ ((base + len ≤ w) ⊎ ((j : ℕ) × (j < len) × (w ≡ base + j)))
    above le (inl e) = inr (inl (omega (arith, e)))
    above le (inr (inl lt)) = inr (inr (w - base, omega (arith, lt, le), omega (arith, le)))
    above le (inr (inr gt)) = inr (inl (omega (arith, gt)))

    below : (w ≡ base) ⊎ ((w < base) ⊎ (base < w)) → (w < base) ⊎ ((base + len ≤ w) ⊎ ((j : ℕ) × (j < len) × (w ≡ base + j)))
    below (inl e) = above (omega (arith, e)) (cases_order w (base + len))
    below (inr (inl lt)) = inl lt
    below (inr (inr gt)) = above (omega (arith, gt)) (cases_order w (base + len))

-- what hangs on a byte of a row that has the same words, except its version
pub child-same : (s : Shape) (words later : List ℕ) (base : ℕ) (kind : Kind) (x : ℕ) → x < 256 → SameRow words later base kind
    → child_on s later base kind x ≡ child_on s words base kind x
child-same s words later base kind x byte same =
    ap (λ o. child_in s later o) (slot-same words later base kind x byte (row-keys words later base kind same))
    ∙ go (slot_of words base kind x) refl
  where
    early : (k : Kind) (j : ℕ) → 2 ≤ j → 1 ≤ j
    early k j h = omega (arith, h)

    go : (o : Option ℕ) → slot_of words base kind x ≡ o → child_in s later o ≡ child_in s words o
    go None e = refl
    go (Some slot) e =
        let at = slot-is words base kind x slot byte e in
        ap (λ w. child_of s w) (ap (λ n. slice_index later n) at.is
        ∙ (same at.place (early kind at.place (omega (arith, first kind, at.low))) at.high
        ∙ ap (λ n. slice_index words n) (sym at.is)))
      where
        first : (k : Kind) → 2 ≤ first_child k
        first k = grind arith

module _ (s : Shape) (n : ℕ) (words : List ℕ) (rest : IsAtRest s n words) where
  -- no row comes before word 5
  pub no-row : (w : ℕ) → w < 5 → (kind : Kind) → Sits s w kind → ⊥
  no-row w low kind x = omega (arith, low, (sits-inside s w 0 kind x (omega (arith, two-words kind))).0)

  inside-high : (w : ℕ) → IsInside s words w → 5 ≤ w
  inside-high w (b, k, j, r, low, high, is) = omega (arith, (sits-inside s b j k (sits s n words rest r) high).0, is)

  new-high : (later : List ℕ) (w : ℕ) → IsNew s words later w → 5 ≤ w
  new-high later w (b, k, j, (x, low), one, few, is) =
      omega (arith, (sits-inside s b j k (record { number = x.number; low = x.within; is = x.is }) few).0, is)

  -- the count of a kind's claims is written, and others
  abbrev pub Claimed : Kind → (ℕ → Type 0) → ℕ → Type 0
  Claimed kind extra w = (w ≡ claims_of kind) ⊎ extra w

  -- words inside of rows were written
  pub settle-plain : {extra dead : ℕ → Type 0} (later : List ℕ) → Near s n words rest extra Nothing dead later
      → ((w : ℕ) → extra w → IsInside s words w) → IsAfterInsert s words later
  settle-plain {extra} {dead} later near within = record {
    long = near.long;
    small = near.small;
    low = λ k. omega (arith, same k);
    high = λ k. omega (arith, same k);
    word = λ w high. go w (near.word w);
  }
    where
      same : (k : Kind) → slice_index later (claims_of k) ≡ slice_index words (claims_of k)
      same k = near-plain s n words rest (claims_of k) near (no-row (claims_of k) (claims-few k))
          (λ e. omega (arith, inside-high (claims_of k) (within (claims_of k) e), claims-few k))

      go : (w : ℕ) → (slice_index later w ≡ slice_index words w) ⊎ (Version s n words rest later Nothing dead w ⊎ extra w)
          → (slice_index later w ≡ slice_index words w) ⊎ (IsReleased s words later w ⊎ (IsInside s words w ⊎ IsNew s words later w))
      go w (inl e) = inl e
      go w (inr (inl v)) = inr (inl (v.kind, v.reached, v.free (λ h. h)))
      go w (inr (inr e)) = inr (inr (inl (within w e)))

  -- one more claim was made, and words inside of rows and of a row that was claimed were written
  pub settle-claimed : {extra dead : ℕ → Type 0} (kind : Kind) (later : List ℕ)
      → Near s n words rest (Claimed kind extra) Nothing dead later
      → slice_index later (claims_of kind) ≡ slice_index words (claims_of kind) + 1
      → ((w : ℕ) → extra w → IsInside s words w ⊎ IsNew s words later w) → IsAfterInsert s words later
  settle-claimed {extra} {dead} kind later near more within = record {
    long = near.long;
    small = near.small;
    low = λ k. (bounds k (claims_of k == claims_of kind) refl).0;
    high = λ k. (bounds k (claims_of k == claims_of kind) refl).1;
    word = λ w high. go w high (near.word w);
  }
    where
      late : (w : ℕ) → IsInside s words w ⊎ IsNew s words later w → 5 ≤ w
      late w (inl i) = inside-high w i
      late w (inr i) = new-high later w i

      refuse : (k : Kind) → (claims_of k ≡ claims_of kind → ⊥) → Claimed kind extra (claims_of k) → ⊥
      refuse k ne (inl is) = ne is
      refuse k ne (inr e) = omega (arith, late (claims_of k) (within (claims_of k) e), claims-few k)

      bounds : (k : Kind) (b : Bool) → (claims_of k == claims_of kind) ≡ b
          → (slice_index words (claims_of k) ≤ slice_index later (claims_of k))
          × (slice_index later (claims_of k) ≤ slice_index words (claims_of k) + 1)
      bounds k true e =
          let is : claims_of k ≡ claims_of kind = eqb-true (claims_of k) (claims_of kind) e in
          let count : slice_index later (claims_of k) ≡ slice_index words (claims_of k) + 1
          = ap (λ i. slice_index later i) is ∙ (more ∙ ap (λ i. slice_index words i + 1) (sym is)) in
          (omega (arith, count), omega (arith, count))
      bounds k false e =
          let count : slice_index later (claims_of k) ≡ slice_index words (claims_of k)
          = near-plain s n words rest (claims_of k) near (no-row (claims_of k) (claims-few k))
          (refuse k (eqb-false (claims_of k) (claims_of kind) e)) in
          (omega (arith, count), omega (arith, count))

      go : (w : ℕ) → 5 ≤ w → (slice_index later w ≡ slice_index words w)
          ⊎ (Version s n words rest later Nothing dead w ⊎ Claimed kind extra w)
          → (slice_index later w ≡ slice_index words w) ⊎ (IsReleased s words later w ⊎ (IsInside s words w ⊎ IsNew s words later w))
      go w high (inl e) = inl e
      go w high (inr (inl v)) = inr (inl (v.kind, v.reached, v.free (λ h. h)))
      go w high (inr (inr (inl is))) = absurd (omega (arith, high, is, claims-few kind))
      go w high (inr (inr (inr e))) = inr (inr (within w e))

  module _ (m : Contents) (means : Means s words m) (key value : ℕ) where
    -- An insert comes to this reply and these words: the reply is legal, and the words are at rest and mean the map after it.
    pub record Outcome (r : Reply) (later : List ℕ) : Type 0 where
      pub legal : IsLegalReply m (Insert key value) r
      pub rests : IsAtRest s (n + 1) later
      pub meant : Means s later (after_reply m (Insert key value) r)

    -- A claim found no row: the rows that were held are unlocked.
    pub refused : SameTreesAreOne → n < 4611686018427387904 → (kind : Kind) (rows : List Row) (now : List ℕ) → AreHeld s n words rest rows
        → Near s n words rest Nothing (Among s n words rest rows) Nothing now
        → Outcome reply.Refused (unlocked_rows rows (with_claim now kind))
    refused trees few kind rows now held near = record {
      legal = inl refl;
      rests = settled-words-rest s n words later rest (settle-claimed kind later near3 count (λ w e. absurd e)) hung.tree
          (λ b k r. inl (
            (hung.rows b k).0 r,
            near-live s n words rest near3 ((hung.rows b k).0 r) (λ h. h)
                (λ o. out-base b k ((hung.rows b k).0 r) o),
          ));
      meant = hung.means;
    }
      where
        later : List ℕ
        later = unlocked_rows rows (with_claim now kind)

        new : ℕ
        new = (slice_index now (claims_of kind) + 1) % 18446744073709551616

        set : (w : ℕ) (b : Bool) → (w == claims_of kind) ≡ b → (slice_index (with_claim now kind) w ≡ slice_index now w)
            ⊎ Claimed kind Nothing w
        set w true e = inr (inl (eqb-true w (claims_of kind) e))
        set w false e = inl (get_or-set_other now (claims_of kind) w new 0 (eqb-false w (claims_of kind) e))

        near2 : Near s n words rest (Claimed kind Nothing) (Among s n words rest rows) Nothing (with_claim now kind)
        near2 = near-out s n words rest near (length-set now (claims_of kind) new)
            (All-set (λ w. w < 18446744073709551616) now (claims_of kind) new (omega arith) near.small)
            (λ w. set w (w == claims_of kind) refl)
            (λ w o. absurd o)

        near3 : Near s n words rest (Claimed kind Nothing) Nothing Nothing later
        near3 = near-unlocked s n words rest rows held near2

        inside : claims_of kind < length now
        inside = omega (arith, claims-few kind, near.long)

        was : slice_index now (claims_of kind) ≡ slice_index words (claims_of kind)
        was = near-plain s n words rest (claims_of kind) near (no-row (claims_of kind) (claims-few kind)) (λ o. o)

        count : slice_index later (claims_of kind) ≡ slice_index words (claims_of kind) + 1
        count = unlocked-other s n words rest rows (with_claim now kind) held (claims_of kind) (no-row (claims_of kind) (claims-few kind))
            ∙ (get_or-set_same now (claims_of kind) new 0 inside ∙ omega (arith, was, rest.claims kind, few))

        out-base : (b : ℕ) (k : Kind) → Reached s words b k → Claimed kind Nothing b → ⊥
        out-base b k r (inl is) = no-row b (omega (arith, is, claims-few kind)) k (sits s n words rest r)
        out-base b k r (inr o) = o

        out-behind : (b j : ℕ) (k : Kind) → Reached s words b k → j < row_words k → Claimed kind Nothing (b + j) → ⊥
        out-behind b j k r high (inl is) = omega (arith, (sits-inside s b j k (sits s n words rest r) high).0, is, claims-few kind)
        out-behind b j k r high (inr o) = o

        hung : HasRows s words later m
        hung = trees s words later m rest.tree means
            (λ b k r. λ j low high. near-behind s n words rest near3 r j low high (out-behind b j k r high))
