-- The attempt of a scan that answers: all rows that it read were checked at its end.
use Rattle.art_schedules.proofs.Common.{◌≡◌, ℕ, zero, suc, ◌+◌, ◌*◌, ◌/◌, ◌%◌, ◌<◌, ◌≤◌, List, [], ◌∷◌, ◌++◌, length, take, refl, ap, sym, subst}
use Rattle.art_schedules.proofs.Common.{Bool, None, Option, Some, append_assoc, arith, false, if◌then◌else◌, inl, inr, true, ◌==◌, ◌∙◌}
use Rattle.std.specs.Prelude.{◌⊎◌}
use Rattle.art_schedules.proofs.Common.{FortyEight, Four, Full, Kind, Reply, Sixteen, append-nil, cases_lt, length-append, take-length}
use Rattle.std.proofs.lemmas.Bool.{eqb-true}
use Rattle.art_schedules.proofs.Common.{Shape, Child, Empty, ChildRow, Leaf, row_words, kind_at, keys_at, more_keys_at, count_at, index_at}
use Rattle.art_schedules.proofs.Common.{Access, Answers, Asks, HeldRow, Point, Setting, answers-asks, child_of, row_child, with_leaf}
use Rattle.art_control_states.specs.declared.stage.Entry.TheVariants.{Below}
use Rattle.art_schedules.proofs.Common.{FirstKeys, Index, LoadChild, Release, ScanStep, SecondKeys, Walk, held, keys_one}
use Rattle.art_control_states.specs.declared.stage.ScanStep.TheVariants.{Exchange, Keys, Lock}
use Rattle.art_schedules.proofs.Common.{ScanAt, at, walked, frame_of, keys16, close_at, with_frame, child_after, scan_start, scan_after}
use Rattle.art_schedules.proofs.Common.{scan_turn, CallAt, OnScan, after_all, call_begun, call_after_words, OfRows, Each, FitsFrame}
use Rattle.art_rows.specs.declared.access.Point.TheVariants as point
use Rattle.art_control_states.specs.declared.stage.Entry.TheVariants.{Root}
use Rattle.art_control_states.specs.declared.stage.ScanStep.TheVariants.{Wait, Info, Over}
use Rattle.art_schedules.proofs.versions.KeyLemmas.{slot-behind}
use Rattle.art_schedules.proofs.moments.TimeLemmas.{take-more, index-more}
use Rattle.art_schedules.proofs.moments.AttemptLemmas.{stage, fold, fold-more, IsSettledWord, loads-more, loads-cases, entered-more, covers-more}
use Rattle.art_schedules.proofs.moments.AttemptLemmas.{Walking, InRows}
use Rattle.art_schedules.proofs.moments.StandsLemmas.{Releasing, IsCurrent, StandsAt, Next, waits-root, waits-below, visits, checks, reads-on}
use Rattle.art_schedules.proofs.moments.StandsLemmas.{resumes, released}

module _ (s : Shape) (some : 1 ≤ s.rows256) (lo hi : ℕ) where
  abbrev pub c : Setting
  c = Rattle.art_schedules.proofs.moments.AttemptLemmas.c s lo hi

  abbrev In : List HeldRow → OfRows
  In rows = InRows s lo hi rows

  abbrev Goes : List ℕ → ScanStep → Walk → ℕ → Type 0
  Goes a step w word = Next s some lo hi a step w word

  -- a row's keys, an index word, a child
  keys-go : (a : List ℕ) (base : ℕ) (kind : Kind) (info kept : ℕ) (w : Walk) (word : ℕ)
      → scan_turn c (stage s lo hi a) ≡ scan_turn c (at (Keys (held base kind info kept)) w)
      → IsCurrent s some lo hi a (Keys (held base kind info kept)) w
      → Goes a (Keys (held base kind info kept)) w word
  keys-go a base Four info kept w word turn h =
      let more = reads-on s some lo hi a word w.rows base Four (keys_at base) h.0 h.2 turn (omega arith) (omega arith) in
      inl (resumes s some lo hi (a ++ word ∷ []) w.rows more (with_frame w (frame_of (held base Four info kept) (keys_one word) 0 0)) refl
      ((h.2, omega arith), h.1))
  keys-go a base Sixteen info kept w word turn h =
      inl (reads-on s some lo hi a word w.rows base Sixteen (count_at Sixteen base) h.0 h.2 turn (omega arith) (omega arith), h.1, h.2)
  keys-go a base FortyEight info kept w word turn h =
      let more = reads-on s some lo hi a word w.rows base FortyEight (keys_at base) h.0 h.2 turn (omega arith) (omega arith) in
      inl (resumes s some lo hi (a ++ word ∷ []) w.rows more
      (with_frame w (frame_of (held base FortyEight info kept) (keys_one word) 0 0)) refl
      ((h.2, omega arith), h.1))
  keys-go a base Full info kept w word turn h =
      let more = reads-on s some lo hi a word w.rows base Full (keys_at base) h.0 h.2 turn (omega arith) (omega arith) in
      inl (resumes s some lo hi (a ++ word ∷ []) w.rows more (with_frame w (frame_of (held base Full info kept) (keys_one word) 0 0)) refl
      ((h.2, omega arith), h.1))

  some-more : (kind : Kind) → 4 ≤ row_words kind
  some-more Four = omega arith
  some-more Sixteen = omega arith
  some-more FortyEight = omega arith
  some-more Full = omega arith

  index-in : (base j : ℕ) (kind : Kind) → kind ≡ FortyEight → j < 32 → index_at base (8 * j) < base + row_words kind
  index-in base j kind e less = subst (λ k. index_at base (8 * j) < base + row_words k) (sym e) (omega (arith, less))

  child-go : (a : List ℕ) (w : Walk) (child : Child) → Walking s lo hi a w.rows → Each (FitsFrame (In w.rows)) w.way
      → ((base : ℕ) (kind : Kind) → child ≡ ChildRow base kind → kind_at s base ≡ Some kind)
      → StandsAt s some lo hi a (child_after c lo hi w child)
  child-go a w Empty h way row = resumes s some lo hi a w.rows h w refl way
  child-go a w (Leaf key value) h way row =
      resumes s some lo hi a w.rows h (record { rows = w.rows; pairs = (with_leaf lo hi key value (walked w)).pairs; way = w.way }) refl way
  child-go a w (ChildRow base kind) h way row = (h, way, row base kind refl)

  row-same : {b d : ℕ} {k l : Kind} → ChildRow b k ≡ ChildRow d l → (b ≡ d) × (k ≡ l)
  row-same e = (cc, cc)

  empty-row : {b : ℕ} {k : Kind} → Empty ≡ ChildRow b k → ⊥
  empty-row e = cc

  leaf-row : {x y b : ℕ} {k : Kind} → Leaf x y ≡ ChildRow b k → ⊥
  leaf-row e = cc

  pub child-is-row : (word base : ℕ) (kind : Kind) → child_of s word ≡ ChildRow base kind → kind_at s base ≡ Some kind
  child-is-row word base kind h = one (word % 4 == 1) h
    where
      two : (b : Bool) → (if b then Leaf (word / 4294967296) (word % 4294967296 / 4) else Empty) ≡ ChildRow base kind
          → kind_at s base ≡ Some kind
      two true e = absurd (leaf-row e)
      two false e = absurd (empty-row e)

      at-base : (o : Option Kind) → kind_at s (word / 4) ≡ o → row_child (word / 4) o ≡ ChildRow base kind → kind_at s base ≡ Some kind
      at-base None f e = absurd (empty-row e)
      at-base (Some k) f e = let same = row-same e in ap (kind_at s) (sym same.0) ∙ (f ∙ ap Some same.1)

      one : (b : Bool) → (if b then row_child (word / 4) (kind_at s (word / 4)) else
          (if word % 4 == 2 then Leaf (word / 4294967296) (word % 4294967296 / 4) else Empty)) ≡ ChildRow base kind
          → kind_at s base ≡ Some kind
      one true e = at-base (kind_at s (word / 4)) refl e
      one false e = two (word % 4 == 2) e

  over-goes : (a : List ℕ) (w : Walk) (word : ℕ) → scan_turn c (stage s lo hi a) ≡ scan_turn c (at Over w) → Releasing s some lo hi a []
      → Releasing s some lo hi (a ++ word ∷ []) []
  over-goes a w word turn h = record {
    rows = h.rows;
    m = h.m;
    most = omega (arith, h.most, length-append a (word ∷ []));
    entered = λ x among. let e = h.entered x among in (e.0, entered-more s lo hi a word x e.0 e.1, e.2);
    within = h.within;
    reads = λ i word' mark l settled. elim (loads-cases s lo hi a word i word' mark l) [
      | inl old ↦ elim (h.reads i word' mark old (subst (IsSettledWord s lo hi word') (index-more i a word old.made) settled)) [
        | inl r ↦ inl (r.0, r.1, covers-more s lo hi a word h.rows i word' r.2)
        | inr r ↦ inr (r.0, r.1, r.2, r.3, r.4, index-more i a word old.made ∙ r.5)
      ]
      | inr last ↦ absurd (answers-asks (sym turn ∙ last.1))
    ];
    checked = λ x among. elim (h.checked x among) [
      | inl none ↦ absurd none
      | inr done ↦ inr (
        done.0,
        done.1,
        loads-more s lo hi a word done.0 x.base (Some point.Check) done.2,
        index-more done.0 a word
            done.2.made ∙ done.3,
      )
    ];
  }

  goes : (a : List ℕ) (step : ScanStep) (w : Walk) (word : ℕ) → scan_turn c (stage s lo hi a) ≡ scan_turn c (at step w)
      → IsCurrent s some lo hi a step w
      → Goes a step w word
  goes a (Lock entry first) w word turn h = absurd h
  goes a (Exchange entry v) w word turn h = absurd h
  goes a (Wait Root) w word turn h = waits-root s some lo hi a w word turn h
  goes a (Wait (Below base kind)) w word turn h = waits-below s some lo hi a w base kind word turn h
  goes a (Info base kind kept) w word turn h = visits s some lo hi a w base kind kept word turn h
  goes a (Keys n) w word turn h = keys-go a n.base n.kind n.info n.kept w word turn h
  goes a (FirstKeys n count) w word turn h =
      inl (
        reads-on s some lo hi a word w.rows n.base n.kind (keys_at n.base) h.0 h.2 turn (omega arith)
            (omega (arith, some-more n.kind)),
        h.1,
        h.2,
      )
  goes a (SecondKeys n count first) w word turn h =
      let more = reads-on s some lo hi a word w.rows n.base n.kind (more_keys_at n.base) h.0 h.2 turn (omega arith)
      (omega (arith, some-more n.kind)) in
      inl (resumes s some lo hi (a ++ word ∷ []) w.rows more (with_frame w (frame_of n (keys16 count first word) 0 0)) refl
      ((h.2, omega arith), h.1))
  goes a (Index n j m) w word turn h =
      let more = reads-on s some lo hi a word w.rows n.base n.kind (index_at n.base (8 * j)) h.0 h.2 turn (omega arith)
      (index-in n.base j n.kind h.3 h.4) in
      inl (resumes s some lo hi (a ++ word ∷ []) w.rows more (with_frame w (frame_of n (keys_one word) j m)) refl ((h.2, omega arith), h.1))
  goes a (LoadChild f slot) w word turn h =
      let behind = slot-behind f.row.base f.row.kind slot h.3 in
      let more = reads-on s some lo hi a word w.rows f.row.base f.row.kind slot h.0 h.2.0 turn (omega (arith, behind.0)) behind.1 in
      inl (child-go (a ++ word ∷ []) (with_frame w f) (child_of s word) more (h.2, h.1) (λ base kind e. child-is-row word base kind e))
  goes a (Release n) w word turn h = go (word == n.kept) refl
    where
      go : (b : Bool) → (word == n.kept) ≡ b
          → (StandsAt s some lo hi (a ++ word ∷ []) (if b then close_at c w else scan_start c))
          ⊎ ((if b then close_at c w else scan_start c) ≡ scan_start c)
      go true e = inl (released s some lo hi (a ++ word ∷ []) w.rows w.pairs
          (subst (λ v. Releasing s some lo hi (a ++ v ∷ []) w.rows) (sym (eqb-true word n.kept e))
          (checks s some lo hi a n w.rows turn h)))
      go false e = inr refl
  goes a Over w word turn h = inl (over-goes a w word turn h)

  -- A scan's words are those of earlier attempts, and of one that has not started again.

  pub all-fold : (st : ScanAt) (ws : List ℕ) → after_all c (OnScan lo hi st) ws ≡ OnScan lo hi (fold s lo hi st ws)
  all-fold st [] = refl
  all-fold st (w ∷ ws) = all-fold (scan_after c lo hi st w) ws

  pub all-append : (x : CallAt) (ws vs : List ℕ) → after_all c x (ws ++ vs) ≡ after_all c (after_all c x ws) vs
  all-append x [] vs = refl
  all-append x (w ∷ ws) vs = all-append (Rattle.art_control_states.specs.Calls.call_after c x w) ws vs

  -- the rows are such after each of the attempt's words
  abbrev pub AllStand : List ℕ → Type 0
  AllStand attempt = (i : ℕ) → i ≤ length attempt → StandsAt s some lo hi (take i attempt) (stage s lo hi (take i attempt))

  pub at-end : (attempt : List ℕ) → AllStand attempt → StandsAt s some lo hi attempt (stage s lo hi attempt)
  at-end attempt h = subst (λ l. StandsAt s some lo hi l (stage s lo hi l)) (take-length attempt) (h (length attempt) (omega arith))

  one-more : (attempt : List ℕ) (w : ℕ) → AllStand attempt → StandsAt s some lo hi (attempt ++ w ∷ []) (stage s lo hi (attempt ++ w ∷ []))
      → AllStand (attempt ++ w ∷ [])
  one-more attempt w h now i most = elim (cases_lt (length attempt) i) [
    | inl last ↦
        let all : i ≡ length (attempt ++ w ∷ []) = omega (arith, last, most, length-append attempt (w ∷ [])) in
        subst (λ l. StandsAt s some lo hi l (stage s lo hi l))
        (sym (ap (λ k. take k (attempt ++ w ∷ [])) all ∙ take-length (attempt ++ w ∷ []))) now
    | inr old ↦ subst (λ l. StandsAt s some lo hi l (stage s lo hi l)) (sym (take-more i attempt w old)) (h i old)
  ]

  none-yet : AllStand []
  none-yet i most =
      subst (λ l. StandsAt s some lo hi l (stage s lo hi l)) (sym (take-nothing i))
      (record { entered = λ n a. absurd a; covers = λ i word mark l settled. absurd (omega (arith, l.made)) }, refl, refl)
    where
      take-nothing : (n : ℕ) → ◌≡◌ {A = List ℕ} (take n []) []
      take-nothing zero = refl
      take-nothing (suc n) = refl

  pub record Attempted (got : List ℕ) : Type 0 where
    pub earlier : List ℕ
    pub attempt : List ℕ
    pub all : got ≡ earlier ++ attempt
    pub begins : call_after_words c earlier ≡ OnScan lo hi (scan_start c)
    pub stands : AllStand attempt

  attempts : (earlier attempt rest : List ℕ) → call_after_words c earlier ≡ OnScan lo hi (scan_start c) → AllStand attempt
      → Attempted (earlier ++ (attempt ++ rest))
  attempts earlier attempt [] begins stands =
      record { earlier = earlier; attempt = attempt; all = ap (λ l. earlier ++ l) (append-nil attempt); begins = begins; stands = stands }
  attempts earlier attempt (w ∷ rest) begins stands =
      elim (goes attempt (stage s lo hi attempt).step (stage s lo hi attempt).walk w refl (at-end attempt stands)) [
        | inl on ↦ subst Attempted (ap (λ l. earlier ++ l) (append_assoc attempt (w ∷ []) rest))
            (attempts earlier (attempt ++ w ∷ []) rest begins
            (one-more attempt w stands (subst (StandsAt s some lo hi (attempt ++ w ∷ []))
            (sym (fold-more s lo hi (scan_start c) attempt w)) on)))
        | inr again ↦ subst Attempted (append_assoc earlier (attempt ++ w ∷ []) rest ∙ ap (λ l. earlier ++ l)
            (append_assoc attempt (w ∷ []) rest))
            (attempts (earlier ++ (attempt ++ w ∷ [])) [] rest
            (all-append (call_begun c) earlier (attempt ++ w ∷ []) ∙ (ap (λ x. after_all c x (attempt ++ w ∷ [])) begins
            ∙ (all-fold (scan_start c) (attempt ++ w ∷ [])
            ∙ ap (OnScan lo hi) (fold-more s lo hi (scan_start c) attempt w ∙ again)))) none-yet)
      ]

  pub attempted : (got : List ℕ) → Attempted got
  attempted got = attempts [] [] got refl none-yet

  -- one that answers has checked all its rows
  asks-no-reply : {a : Access} {m : Option Point} {r : Reply} → Asks a m ≡ Answers r → ⊥
  asks-no-reply e = cc

  pub answered : (attempt : List ℕ) (reply : Reply) → scan_turn c (stage s lo hi attempt) ≡ Answers reply
      → StandsAt s some lo hi attempt (stage s lo hi attempt) → Releasing s some lo hi attempt []
  answered attempt reply turn stands = go (stage s lo hi attempt).step (stage s lo hi attempt).walk turn stands
    where
      keys-ask : (kind : Kind) (n : HeldRow) → Rattle.art_control_states.specs.Scans.keys_turn kind n ≡ Answers reply → ⊥
      keys-ask Four n e = asks-no-reply e
      keys-ask Sixteen n e = asks-no-reply e
      keys-ask FortyEight n e = asks-no-reply e
      keys-ask Full n e = asks-no-reply e

      go : (step : ScanStep) (w : Walk) → scan_turn c (at step w) ≡ Answers reply → IsCurrent s some lo hi attempt step w
          → Releasing s some lo hi attempt []
      go (Lock entry first) w e h = absurd h
      go (Exchange entry v) w e h = absurd h
      go (Wait entry) w e h = absurd (asks-no-reply e)
      go (Info base kind kept) w e h = absurd (asks-no-reply e)
      go (Keys n) w e h = absurd (keys-ask n.kind n e)
      go (FirstKeys n count) w e h = absurd (asks-no-reply e)
      go (SecondKeys n count first) w e h = absurd (asks-no-reply e)
      go (Index n j m) w e h = absurd (asks-no-reply e)
      go (LoadChild f slot) w e h = absurd (asks-no-reply e)
      go (Release n) w e h = absurd (asks-no-reply e)
      go Over w e h = h
