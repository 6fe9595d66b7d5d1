-- What an attempt of a scan has read.
use Rattle.art_schedules.proofs.Common.{◌≡◌, ◌≢◌, ℕ, ◌+◌, ◌%◌, ◌<◌, ◌≤◌, List, [], ◌∷◌, ◌++◌, length, take, refl, ap, sym, subst, ◌∙◌, false, inl}
use Rattle.art_schedules.proofs.Common.{None, Option, Scan, Shape, Some, arith, cases_lt, inr, length-append, slice_index, take-length}
use Rattle.std.specs.Prelude.{◌⊎◌}
use Rattle.art_schedules.proofs.Common.{row_words, kind_at, is_locked, Load, Point, Asks, Setting, HeldRow, ScanAt, scan_start, scan_after}
use Rattle.art_schedules.proofs.Common.{scan_turn, optimistic, OfRows, IsAmong}
use Rattle.art_rows.specs.declared.access.Point.TheVariants as point
use Rattle.art_schedules.proofs.moments.TimeLemmas.{take-more, index-more, index-last}

module _ (s : Shape) (lo hi : ℕ) where
  abbrev pub c : Setting
  c = optimistic s (Scan lo hi)

  -- where an attempt is after these words
  abbrev pub fold : ScanAt → List ℕ → ScanAt
  fold st [] = st
  fold st (w ∷ ws) = fold (scan_after c lo hi st w) ws

  abbrev pub stage : List ℕ → ScanAt
  stage attempt = fold (scan_start c) attempt

  pub fold-more : (st : ScanAt) (ws : List ℕ) (w : ℕ) → fold st (ws ++ w ∷ []) ≡ scan_after c lo hi (fold st ws) w
  fold-more st [] w = refl
  fold-more st (v ∷ ws) w = fold-more (scan_after c lo hi st v) ws w

  -- the i-th access of the attempt is a load of the word
  pub record Loads (attempt : List ℕ) (i word : ℕ) (mark : Option Point) : Type 0 where
    pub made : i < length attempt
    pub turn : scan_turn c (stage (take i attempt)) ≡ Asks (Load word) mark

  -- the access found no locked version
  abbrev pub IsSettledWord : ℕ → ℕ → Type 0
  IsSettledWord word value = (kind_at s word ≡ None) ⊎ (is_locked value ≡ false)

  pub loads-more : (attempt : List ℕ) (w i word : ℕ) (mark : Option Point) → Loads attempt i word mark
      → Loads (attempt ++ w ∷ []) i word mark
  loads-more attempt w i word mark h = record {
    made = omega (arith, h.made, length-append attempt (w ∷ []));
    turn = ap (λ l. scan_turn c (stage l)) (take-more i attempt w (omega (arith, h.made))) ∙ h.turn;
  }

  -- the last word, or one before
  pub loads-cases : (attempt : List ℕ) (w i word : ℕ) (mark : Option Point) → Loads (attempt ++ w ∷ []) i word mark
      → (Loads attempt i word mark) ⊎ ((i ≡ length attempt) × (scan_turn c (stage attempt) ≡ Asks (Load word) mark))
  loads-cases attempt w i word mark h = elim (cases_lt i (length attempt)) [
    | inl less ↦ inl (record {
      made = less;
      turn = ap (λ l. scan_turn c (stage l))
          (sym (take-more i attempt w (omega (arith, less)))) ∙ h.turn;
    })
    | inr more ↦
        let is : i ≡ length attempt = omega (arith, more, h.made, length-append attempt (w ∷ [])) in
        inr (
          is,
          ap (λ l. scan_turn c (stage l)) (sym (ap (λ k. take k (attempt ++ w ∷ [])) is
              ∙ (take-more (length attempt) attempt w (omega arith) ∙ take-length attempt))) ∙ h.turn,
        )
  ]

  -- The row was entered at i: WAIT loaded its version, and ended there.
  pub record Entered (attempt : List ℕ) (n : HeldRow) (i : ℕ) : Type 0 where
    pub loads : Loads attempt i n.base None
    pub kept : slice_index attempt i ≡ n.kept
    pub free : n.kept % 4 ≡ 0
    pub row : kind_at s n.base ≡ Some n.kind

  pub entered-more : (attempt : List ℕ) (w : ℕ) (n : HeldRow) (i : ℕ) → Entered attempt n i → Entered (attempt ++ w ∷ []) n i
  entered-more attempt w n i h = record {
    loads = loads-more attempt w i n.base None h.loads;
    kept = index-more i attempt w h.loads.made ∙ h.kept;
    free = h.free;
    row = h.row;
  }

  -- the word is of one of these rows, which was entered no later
  pub record Covers (attempt : List ℕ) (rows : List HeldRow) (i word : ℕ) : Type 0 where
    pub row : HeldRow
    pub among : IsAmong row rows
    pub entry : ℕ
    pub entered : Entered attempt row entry
    pub no_later : entry ≤ i
    pub from : row.base ≤ word
    pub below : word < row.base + row_words row.kind

  -- all that was read is of these rows
  pub record Walking (attempt : List ℕ) (rows : List HeldRow) : Type 0 where
    pub entered : (n : HeldRow) → IsAmong n rows → (i : ℕ) × Entered attempt n i
    pub covers : (i word : ℕ) (mark : Option Point) → Loads attempt i word mark → IsSettledWord word (slice_index attempt i)
        → (mark ≢ Some point.Check) × Covers attempt rows i word

  -- the row is one of these
  abbrev pub InRows : List HeldRow → OfRows
  InRows rows base kind = (n : HeldRow) × IsAmong n rows × (n.base ≡ base) × (n.kind ≡ kind)

  pub covers-more : (attempt : List ℕ) (w : ℕ) (rows : List HeldRow) (i word : ℕ) → Covers attempt rows i word
      → Covers (attempt ++ w ∷ []) rows i word
  covers-more attempt w rows i word h = record {
    row = h.row;
    among = h.among;
    entry = h.entry;
    entered = entered-more attempt w h.row h.entry h.entered;
    no_later = h.no_later;
    from = h.from;
    below = h.below;
  }

  pub no-check : None ≢ Some point.Check
  no-check e = cc

  -- a word of a row that is among them is read
  pub walks-on : (attempt : List ℕ) (w : ℕ) (rows : List HeldRow) → Walking attempt rows → ((word : ℕ) (mark : Option Point)
      → scan_turn c (stage attempt) ≡ Asks (Load word) mark → IsSettledWord word w
      → (mark ≢ Some point.Check) × ((n : HeldRow) × IsAmong n rows × (n.base ≤ word) × (word < n.base + row_words n.kind)))
      → Walking (attempt ++ w ∷ []) rows
  walks-on attempt w rows h reads = record {
    entered = λ n a. let e = h.entered n a in (e.0, entered-more attempt w n e.0 e.1);
    covers = λ i word mark l settled. elim (loads-cases attempt w i word mark l) [
      | inl old ↦
          let k = h.covers i word mark old (subst (IsSettledWord word) (index-more i attempt w old.made) settled) in
          (k.0, covers-more attempt w rows i word k.1)
      | inr last ↦
          let r = reads word mark last.1 (subst (IsSettledWord word) (ap (slice_index (attempt ++ w ∷ [])) last.0 ∙ index-last
          attempt w) settled) in
          let n = r.1 in
          let e = h.entered n.0 n.1 in (
            r.0,
            record {
              row = n.0;
              among = n.1;
              entry = e.0;
              entered = entered-more attempt w n.0 e.0 e.1;
              no_later = omega (arith, last.0, e.1.loads.made);
              from = n.2;
              below = n.3;
            },
          )
    ];
  }
