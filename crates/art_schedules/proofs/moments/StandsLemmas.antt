-- What holds of an attempt of a scan at each of its stages.
use Rattle.art_schedules.proofs.Common.{◌≡◌, ◌≢◌, ℕ, ◌+◌, ◌%◌, ◌<◌, ◌≤◌, List, [], ◌∷◌, ◌++◌, length, take, refl, ap, sym, subst, ◌∙◌, Bool, true}
use Rattle.art_schedules.proofs.words.TableLemmas.{kind_at-base_of}
use Rattle.art_schedules.proofs.Common.{None, Option, Some, arith, false, if◌then◌else◌, inl, inr, length-append, map, slice_index}
use Rattle.std.specs.Prelude.{◌⊎◌}
use Rattle.art_schedules.proofs.Common.{false≢true, none-some, same_Some, Kind, FortyEight, Full, Shape, row_words, kind_at}
use Rattle.art_schedules.proofs.Common.{root_base, info_at, is_locked, is_obsolete, seven-words, Load, Point, Asks, Setting, bytes_of, has_row}
use Rattle.art_schedules.proofs.Common.{FirstKeys, Frame, HeldRow, Index, LoadChild, ScanStep, SecondKeys, loads-same}
use Rattle.art_control_states.specs.declared.stage.Entry.TheVariants.{Below}
use Rattle.art_control_states.specs.declared.stage.ScanStep.TheVariants.{Exchange, Keys, Lock}
use Rattle.art_schedules.proofs.Common.{Release, row_at, held, Walk, ScanAt, at, release_rows, resume_at, visit_list, entry_at, scan_start}
use Rattle.art_schedules.proofs.Common.{step_after, scan_turn, OfRows, Each, IsSlot, FitsFrame, IsAmong}
use Rattle.art_rows.specs.declared.access.Point.TheVariants as point
use Rattle.art_control_states.specs.declared.stage.Entry.TheVariants.{Root}
use Rattle.art_control_states.specs.declared.stage.ScanStep.TheVariants.{Wait, Info, Over}
use Rattle.art_schedules.proofs.versions.WordFacts.{free-version}
use Rattle.art_schedules.proofs.versions.KeyLemmas.{each-weaker}
use Rattle.art_schedules.proofs.moments.TimeLemmas.{index-more, index-last}
use Rattle.art_schedules.proofs.moments.AttemptLemmas.{stage, Loads, IsSettledWord, loads-more, loads-cases, Entered, entered-more, Covers}
use Rattle.art_schedules.proofs.moments.AttemptLemmas.{Walking, InRows, covers-more, walks-on, no-check}
use Rattle.art_schedules.proofs.moments.WalkLemmas.{resumed, listed}
use Rattle.art_schedules.proofs.versions.KnownLemmas.{among-front, among-last, found-row}

among-cases : (n m : HeldRow) (xs : List HeldRow) → IsAmong n (xs ++ m ∷ []) → IsAmong n xs ⊎ (n ≡ m)
among-cases n m [] (inl e) = inr e
among-cases n m [] (inr a) = absurd a
among-cases n m (x ∷ xs) (inl e) = inl (inl e)
among-cases n m (x ∷ xs) (inr a) = elim (among-cases n m xs a) [
  | inl b ↦ inl (inr b)
  | inr e ↦ inr e
]

module _ (s : Shape) (some : 1 ≤ s.rows256) (lo hi : ℕ) where
  abbrev c : Setting
  c = Rattle.art_schedules.proofs.moments.AttemptLemmas.c s lo hi

  abbrev Reading : List ℕ → List HeldRow → Type 0
  Reading a rows = Walking s lo hi a rows

  abbrev In : List HeldRow → OfRows
  In rows = InRows s lo hi rows

  abbrev Frames : List HeldRow → List Frame → Type 0
  Frames rows way = Each (FitsFrame (In rows)) way

  -- the rows are checked, one after another; these are left
  pub record Releasing (attempt : List ℕ) (left : List HeldRow) : Type 0 where
    pub rows : List HeldRow
    pub m : ℕ
    pub most : m ≤ length attempt
    pub entered : (n : HeldRow) → IsAmong n rows → (i : ℕ) × Entered s lo hi attempt n i × (i < m)
    pub within : (n : HeldRow) → IsAmong n left → IsAmong n rows
    pub reads : (i word : ℕ) (mark : Option Point) → Loads s lo hi attempt i word mark → IsSettledWord s lo hi word (slice_index attempt i)
        → ((i < m) × (mark ≢ Some point.Check) × Covers s lo hi attempt rows i word)
        ⊎ ((m ≤ i) × (mark ≡ Some point.Check) × (n : HeldRow) × IsAmong n rows × (word ≡ n.base) × (slice_index attempt i ≡ n.kept))
    pub checked : (n : HeldRow) → IsAmong n rows
        → IsAmong n left ⊎ ((j : ℕ) × (m ≤ j) × Loads s lo hi attempt j n.base (Some point.Check) × (slice_index attempt j ≡ n.kept))

  abbrev pub IsCurrent : List ℕ → ScanStep → Walk → Type 0
  IsCurrent a (Lock entry first) w = ⊥
  IsCurrent a (Exchange entry v) w = ⊥
  IsCurrent a (Wait Root) w = Reading a [] × (w.rows ≡ []) × (w.way ≡ [])
  IsCurrent a (Wait (Below base kind)) w = Reading a w.rows × Frames w.rows w.way × (kind_at s base ≡ Some kind)
  IsCurrent a (Info base kind kept) w = (prev : List ℕ) × (a ≡ prev ++ kept ∷ []) × Reading prev w.rows × Frames w.rows w.way
      × (kind_at s base ≡ Some kind)
      × (kept % 4 ≡ 0) × (scan_turn c (stage s lo hi prev) ≡ Asks (Load base) None)
  IsCurrent a (Keys n) w = Reading a w.rows × Frames w.rows w.way × In w.rows n.base n.kind
  IsCurrent a (FirstKeys n count) w = Reading a w.rows × Frames w.rows w.way × In w.rows n.base n.kind
  IsCurrent a (SecondKeys n count first) w = Reading a w.rows × Frames w.rows w.way × In w.rows n.base n.kind
  IsCurrent a (Index n j m) w = Reading a w.rows × Frames w.rows w.way × In w.rows n.base n.kind × (n.kind ≡ FortyEight) × (j < 32)
  IsCurrent a (LoadChild f slot) w = Reading a w.rows × Frames w.rows w.way × FitsFrame (In w.rows) f × IsSlot f.row.base f.row.kind slot
  IsCurrent a (Release n) w = Releasing a (n ∷ w.rows)
  IsCurrent a Over w = Releasing a []

  abbrev pub StandsAt : List ℕ → ScanAt → Type 0
  StandsAt a st = IsCurrent a st.step st.walk

  -- the walk is over
  closes : (a : List ℕ) (rows : List HeldRow) → Reading a rows → Releasing a rows
  closes a rows h = record {
    rows = rows;
    m = length a;
    most = omega arith;
    entered = λ n x. let e = h.entered n x in (e.0, e.1, e.1.loads.made);
    within = λ n x. x;
    reads = λ i word mark l settled. let r = h.covers i word mark l settled in inl (l.made, r.0, r.1);
    checked = λ n x. inl x;
  }

  pub released : (a : List ℕ) (left : List HeldRow) (pairs : List (ℕ × ℕ)) → Releasing a left → StandsAt a (release_rows left pairs)
  released a [] pairs h = h
  released a (n ∷ left) pairs h = h

  -- the walk goes on
  module _ (a : List ℕ) (rows : List HeldRow) (h : Reading a rows) where
    goes-child : (f : Frame) (slot : ℕ) (w : Walk) → w.rows ≡ rows → FitsFrame (In rows) f → IsSlot f.row.base f.row.kind slot
        → Each (FitsFrame (In rows)) w.way → StandsAt a (at (LoadChild f slot) w)
    goes-child f slot w r fits is way =
        subst (λ l. Reading a l × Frames l w.way × FitsFrame (In l) f × IsSlot f.row.base f.row.kind slot) (sym r) (h, way, fits, is)

    goes-index : (n : HeldRow) (j m : ℕ) (w : Walk) → j < 32 → w.rows ≡ rows → n.kind ≡ FortyEight → In rows n.base n.kind
        → Each (FitsFrame (In rows)) w.way
        → StandsAt a (at (Index n j m) w)
    goes-index n j m w less r is p way = subst (λ l. Reading a l × Frames l w.way × In l n.base n.kind × (n.kind ≡ FortyEight) × (j < 32))
        (sym r) (h, way, p, is, less)

    goes-keys : (n : HeldRow) (w : Walk) → w.rows ≡ rows → In rows n.base n.kind → Each (FitsFrame (In rows)) w.way
        → StandsAt a (at (Keys n) w)
    goes-keys n w r p way = subst (λ l. Reading a l × Frames l w.way × In l n.base n.kind) (sym r) (h, way, p)

    goes-over : (pairs : List (ℕ × ℕ)) → StandsAt a (release_rows rows pairs)
    goes-over pairs = released a rows pairs (closes a rows h)

    pub resumes : (w : Walk) → w.rows ≡ rows → Frames rows w.way → StandsAt a (resume_at c lo hi w)
    resumes w r way = resumed s lo hi rows (In rows) (StandsAt a) goes-child goes-index goes-keys goes-over w r way

    lists : (n : HeldRow) (w : Walk) (xs : List ℕ) → w.rows ≡ rows → In rows n.base n.kind → Frames rows w.way
        → StandsAt a (visit_list c lo hi n w xs)
    lists n w xs r p way = listed s lo hi rows (In rows) (StandsAt a) goes-child goes-index goes-keys goes-over n w xs r p way

  -- one word more, of a row that is among them
  pub reads-on : (a : List ℕ) (w : ℕ) (rows : List HeldRow) (base : ℕ) (kind : Kind) (x : ℕ) → Reading a rows → In rows base kind
      → scan_turn c (stage s lo hi a) ≡ Asks (Load x) None → base ≤ x → x < base + row_words kind → Reading (a ++ w ∷ []) rows
  reads-on a w rows base kind x h p turn low high = walks-on s lo hi a w rows h (λ word mark e settled.
      let same = loads-same (sym turn ∙ e) in (
        λ check. no-check s lo hi (same.1 ∙ check),
        (p.0, p.1, omega (arith, low, p.2, same.0), omega (arith, high, same.0, p.2, ap row_words p.3)),
      ))

  -- a locked version is read again
  waits-on : (a : List ℕ) (w : ℕ) (rows : List HeldRow) (base : ℕ) (kind : Kind) → Reading a rows → kind_at s base ≡ Some kind
      → is_locked w ≡ true
      → scan_turn c (stage s lo hi a) ≡ Asks (Load base) None → Reading (a ++ w ∷ []) rows
  waits-on a w rows base kind h row locked turn = walks-on s lo hi a w rows h (λ word mark e settled.
      absurd (elim settled [
        | inl none ↦ none-some kind (sym none ∙ (ap (kind_at s) (sym (loads-same (sym turn ∙ e)).0) ∙ row))
        | inr free ↦ false≢true (sym free ∙ locked)
      ]))

  -- a row more
  joins : (a : List ℕ) (rows : List HeldRow) (n : HeldRow) → Reading a rows → kind_at s n.base ≡ Some n.kind → n.kept % 4 ≡ 0
      → scan_turn c (stage s lo hi a) ≡ Asks (Load n.base) None → Reading (a ++ n.kept ∷ []) (rows ++ n ∷ [])
  joins a rows n h row free turn = record {
    entered = λ x among. elim (among-cases x n rows among) [
      | inl old ↦ let e = h.entered x old in (e.0, entered-more s lo hi a n.kept x e.0 e.1)
      | inr same ↦ (length a, subst (λ y. Entered s lo hi (a ++ n.kept ∷ []) y (length a)) (sym same) entered)
    ];
    covers = λ i word mark l settled. elim (loads-cases s lo hi a n.kept i word mark l) [
      | inl old ↦
          let k = h.covers i word mark old (subst (IsSettledWord s lo hi word) (index-more i a n.kept old.made) settled) in
          (k.0, wider i word (covers-more s lo hi a n.kept rows i word k.1))
      | inr last ↦
          let same = loads-same (sym turn ∙ last.1) in (
            λ check. no-check s lo hi (same.1 ∙ check),
            record {
              row = n;
              among = among-last n rows;
              entry = length a;
              entered = entered;
              no_later = omega (arith, last.0);
              from = omega (arith, same.0);
              below = omega (arith, same.0, seven-words n.kind);
            },
          )
    ];
  }
    where
      entered : Entered s lo hi (a ++ n.kept ∷ []) n (length a)
      entered = record {
        loads = record {
          made = omega (arith, length-append a (n.kept ∷ []));
          turn = ap (λ l. scan_turn c (stage s lo hi l)) (take-front a) ∙ turn;
        };
        kept = index-last a n.kept;
        free = free;
        row = row;
      }
        where
          take-front : (xs : List ℕ) → take (length xs) (xs ++ n.kept ∷ []) ≡ xs
          take-front [] = refl
          take-front (x ∷ xs) = ap (λ zs. x ∷ zs) (take-front xs)

      wider : (i word : ℕ) → Covers s lo hi (a ++ n.kept ∷ []) rows i word → Covers s lo hi (a ++ n.kept ∷ []) (rows ++ n ∷ []) i word
      wider i word k = record {
        row = k.row;
        among = among-front k.row rows (n ∷ []) k.among;
        entry = k.entry;
        entered = k.entered;
        no_later = k.no_later;
        from = k.from;
        below = k.below;
      }

  -- Each word leads to the next stage of the attempt, or starts the scan again.

  abbrev pub Next : List ℕ → ScanStep → Walk → ℕ → Type 0
  Next a step w word = StandsAt (a ++ word ∷ []) (step_after c lo hi step w word) ⊎ (step_after c lo hi step w word ≡ scan_start c)

  root-row : kind_at s (root_base s) ≡ Some Full
  root-row = kind_at-base_of s Full 0 some

  more-frames : (rows : List HeldRow) (n : HeldRow) (way : List Frame) → Frames rows way → Frames (rows ++ n ∷ []) way
  more-frames rows n way h = each-weaker (FitsFrame (In rows)) (FitsFrame (In (rows ++ n ∷ [])))
      (λ f x. ((x.0.0, among-front x.0.0 rows (n ∷ []) x.0.1, x.0.2, x.0.3), x.1)) way h

  no-frames : (P : OfRows) (way : List Frame) → way ≡ [] → Each (FitsFrame P) way
  no-frames P way e = subst (Each (FitsFrame P)) (sym e) tt

  pub waits-root : (a : List ℕ) (w : Walk) (word : ℕ) → scan_turn c (stage s lo hi a) ≡ Asks (Load (root_base s)) None
      → IsCurrent a (Wait Root) w
      → Next a (Wait Root) w word
  waits-root a w word turn h = go (is_locked word) (is_obsolete word) refl refl
    where
      root : HeldRow
      root = held (root_base s) Full 3 word

      go : (b d : Bool) → is_locked word ≡ b → is_obsolete word ≡ d
          → (StandsAt (a ++ word ∷ []) (if b then at (Wait Root) w else if d then scan_start c else entry_at c lo hi Root w word))
          ⊎ ((if b then at (Wait Root) w else if d then scan_start c else entry_at c lo hi Root w word) ≡ scan_start c)
      go true d e f = inl (waits-on a word [] (root_base s) Full h.0 root-row e turn, h.1, h.2)
      go false true e f = inr refl
      go false false e f =
          let free = free-version word e f in
          let more = joins a [] root h.0 root-row free turn in
          let in-it : In (root ∷ []) (root_base s) Full = (root, inl refl, refl, refl) in
          inl (subst (λ b. StandsAt (a ++ word ∷ [])
          (visit_list c lo hi root (if b then w else record { rows = w.rows ++ root ∷ []; pairs = w.pairs; way = w.way })
          (bytes_of lo hi (row_at root)))) (sym (ap (λ l. has_row (root_base s) (map row_at l)) h.1))
          (lists (a ++ word ∷ []) (root ∷ []) more root (record { rows = w.rows ++ root ∷ []; pairs = w.pairs; way = w.way })
          (bytes_of lo hi (row_at root))
          (ap (λ l. l ++ root ∷ []) h.1) in-it (no-frames (In (root ∷ [])) w.way h.2)))

  pub waits-below : (a : List ℕ) (w : Walk) (base : ℕ) (kind : Kind) (word : ℕ) → scan_turn c (stage s lo hi a) ≡ Asks (Load base) None
      → IsCurrent a (Wait (Below base kind)) w → Next a (Wait (Below base kind)) w word
  waits-below a w base kind word turn h = go (is_locked word) (is_obsolete word) refl refl
    where
      go : (b d : Bool) → is_locked word ≡ b → is_obsolete word ≡ d
          → (StandsAt (a ++ word ∷ []) (if b then at (Wait (Below base kind)) w else if d then scan_start c else at
          (Info base kind word) w))
          ⊎ ((if b then at (Wait (Below base kind)) w else if d then scan_start c else at (Info base kind word) w) ≡ scan_start c)
      go true d e f = inl (waits-on a word w.rows base kind h.0 h.2 e turn, h.1, h.2)
      go false true e f = inr refl
      go false false e f = inl (a, refl, h.0, h.1, h.2, free-version word e f, turn)

  pub visits : (a : List ℕ) (w : Walk) (base : ℕ) (kind : Kind) (kept word : ℕ)
      → scan_turn c (stage s lo hi a) ≡ Asks (Load (info_at base)) None
      → IsCurrent a (Info base kind kept) w → Next a (Info base kind kept) w word
  visits a w base kind kept word turn (prev, is, h, way, row, free, waited) = inl (go (has_row base (map row_at w.rows)) refl)
    where
      n : HeldRow
      n = held base kind word kept

      wider : Walk
      wider = record { rows = w.rows ++ n ∷ []; pairs = w.pairs; way = w.way }

      same-turn : scan_turn c (stage s lo hi (prev ++ kept ∷ [])) ≡ Asks (Load (info_at base)) None
      same-turn = ap (λ l. scan_turn c (stage s lo hi l)) (sym is) ∙ turn

      info-in : info_at base < base + row_words kind
      info-in = omega (arith, seven-words kind)

      go : (b : Bool) → has_row base (map row_at w.rows) ≡ b
          → StandsAt (a ++ word ∷ []) (visit_list c lo hi n (if b then w else wider) (bytes_of lo hi (row_at n)))
      go true e =
          let m = found-row base w.rows e in
          let kinds : m.0.kind ≡ kind = same_Some m.0.kind kind (sym (h.entered m.0 m.1).1.row ∙ (ap (kind_at s) m.2 ∙ row)) in
          let in-it : In w.rows base kind = (m.0, m.1, m.2, kinds) in
          let one = reads-on prev kept w.rows base kind base h in-it waited (omega arith) (omega (arith, seven-words kind)) in
          let two = reads-on (prev ++ kept ∷ []) word w.rows base kind (info_at base) one in-it same-turn (omega arith) info-in in
          lists (a ++ word ∷ []) w.rows (subst (λ l. Reading (l ++ word ∷ []) w.rows) (sym is) two) n w
          (bytes_of lo hi (row_at n)) refl in-it way
      go false e =
          let in-it : In (w.rows ++ n ∷ []) base kind = (n, among-last n w.rows, refl, refl) in
          let one = joins prev w.rows n h row free waited in
          let two = reads-on (prev ++ kept ∷ []) word (w.rows ++ n ∷ []) base kind (info_at base) one in-it same-turn
          (omega arith) info-in in
          lists (a ++ word ∷ []) (w.rows ++ n ∷ []) (subst (λ l. Reading (l ++ word ∷ []) (w.rows ++ n ∷ [])) (sym is) two) n wider
          (bytes_of lo hi (row_at n)) refl in-it (more-frames w.rows n w.way way)

  -- a row is checked, and its version is the one that was kept
  pub checks : (a : List ℕ) (n : HeldRow) (left : List HeldRow) → scan_turn c (stage s lo hi a) ≡ Asks (Load n.base) (Some point.Check)
      → Releasing a (n ∷ left)
      → Releasing (a ++ n.kept ∷ []) left
  checks a n left turn h = record {
    rows = h.rows;
    m = h.m;
    most = omega (arith, h.most, length-append a (n.kept ∷ []));
    entered = λ x among. let e = h.entered x among in (e.0, entered-more s lo hi a n.kept x e.0 e.1, e.2);
    within = λ x among. h.within x (inr among);
    reads = λ i word mark l settled. elim (loads-cases s lo hi a n.kept i word mark l) [
      | inl old ↦ elim (h.reads i word mark old (subst (IsSettledWord s lo hi word) (index-more i a n.kept old.made) settled)) [
        | inl r ↦ inl (r.0, r.1, covers-more s lo hi a n.kept h.rows i word r.2)
        | inr r ↦ inr (r.0, r.1, r.2, r.3, r.4, index-more i a n.kept old.made ∙ r.5)
      ]
      | inr last ↦
          let same = loads-same (sym turn ∙ last.1) in
          inr (
            omega (arith, last.0, h.most),
            sym same.1,
            n,
            h.within n (inl refl),
            sym same.0,
            ap (slice_index (a ++ n.kept ∷ [])) last.0 ∙ index-last a n.kept,
          )
    ];
    checked = λ x among. elim (h.checked x among) [
      | inl (inl is) ↦ inr (
        length a,
        h.most,
        record {
          made = omega (arith, length-append a (n.kept ∷ []));
          turn = ap (λ l. scan_turn c (stage s lo hi l)) (take-front a) ∙ (turn ∙ ap (λ y. Asks (Load y.base) (Some point.Check)) (sym is));
        },
        index-last a n.kept ∙ ap (λ y. y.kept) (sym is),
      )
      | inl (inr later) ↦ inl later
      | inr done ↦ inr (
        done.0,
        done.1,
        loads-more s lo hi a n.kept done.0 x.base (Some point.Check) done.2,
        index-more done.0 a n.kept
            done.2.made ∙ done.3,
      )
    ];
  }
    where
      take-front : (xs : List ℕ) → take (length xs) (xs ++ n.kept ∷ []) ≡ xs
      take-front [] = refl
      take-front (x ∷ xs) = ap (λ zs. x ∷ zs) (take-front xs)
