-- A scan that runs alone on the words of its moment goes through the stages of the attempt that answers.
use Rattle.art_schedules.proofs.Common.{◌≡◌, ℕ, zero, suc, ◌+◌, ◌*◌, ◌<◌, ◌≤◌, List, [], ◌∷◌, ◌++◌, length, take, refl, ap, sym, ◌∙◌, Bool, true}
use Rattle.art_schedules.proofs.Common.{None, Option, Some, arith, false, false≢true, if◌then◌else◌, inl, inr, slice_index, ◌==◌}
use Rattle.std.proofs.lemmas.Bool.{eqb-true}
use Rattle.art_schedules.proofs.Common.{take-length, Call, Scan, Reply, Kind, Four, Sixteen, FortyEight, Full, Shape, row_words, kind_at, info_at}
use Rattle.art_schedules.proofs.Common.{keys_at, more_keys_at, index_at, count_at, is_locked, Optimistic, Load, Point, Asks, Answers, Setting}
use Rattle.art_schedules.proofs.Common.{FirstKeys, HeldRow, Index, LoadChild, Release, ScanStep, SecondKeys, Walk, act, held}
use Rattle.art_control_states.specs.declared.stage.ScanStep.TheVariants.{Exchange, Keys, Lock}
use Rattle.art_schedules.proofs.Common.{ScanAt, at, close_at, scan_start, scan_after, step_after, scan_turn, Plan}
use Rattle.art_schedules.proofs.trees.Bytes.{next_of}
use Rattle.art_rows.specs.declared.access.Point.TheVariants as point
use Rattle.art_control_states.specs.declared.stage.ScanStep.TheVariants.{Wait, Info, Over}
use Rattle.art_control_states.specs.Scans.{entry_base}
use Rattle.art_core.specs.Moments.{Reads, next_word, alone, AnswersAlone}
use Rattle.art_schedules.proofs.versions.KeyLemmas.{slot-behind}
use Rattle.art_schedules.proofs.moments.AttemptLemmas.{stage, fold-more, IsSettledWord, Walking, InRows}
use Rattle.art_schedules.proofs.moments.StandsLemmas.{IsCurrent, Releasing}
use Rattle.art_schedules.proofs.moments.ScanLemmas.{AllStand}
use Rattle.art_schedules.proofs.moments.ValidLemmas.{free-unlocked, turn-is, from-load}
use Rattle.art_schedules.proofs.moments.RowLemmas.{row-within}

module _ (s : Shape) (some : 1 ≤ s.rows256) (lo hi : ℕ) where
  abbrev c : Setting
  c = Rattle.art_schedules.proofs.moments.AttemptLemmas.c s lo hi

  -- What a word does at a stage: it is the word of a row that the scan loads, no locked version; or the scan stays, or starts again.
  data Does (step : ScanStep) (w : Walk) (v : ℕ) : Type 0 where
    Loads : (word : ℕ) → (mark : Option Point) → scan_turn c (at step w) ≡ Asks (Load word) mark
        → IsSettledWord s lo hi word v → Does step w v
    Stays : step_after c lo hi step w v ≡ at step w → Does step w v
    Restarts : step_after c lo hi step w v ≡ scan_start c → Does step w v

  its-row : (a : List ℕ) (rows : List HeldRow) (base : ℕ) (kind : Kind) → Walking s lo hi a rows → InRows s lo hi rows base kind
      → kind_at s base ≡ Some kind
  its-row a rows base kind h p = ap (kind_at s) (sym p.2) ∙ ((h.entered p.0 p.1).1.row ∙ ap Some p.3)

  some-more : (kind : Kind) → 7 ≤ row_words kind
  some-more Four = omega arith
  some-more Sixteen = omega arith
  some-more FortyEight = omega arith
  some-more Full = omega arith

  keys-do : (base : ℕ) (kind : Kind) (info kept : ℕ) (w : Walk) (v : ℕ) → kind_at s base ≡ Some kind
      → Does (Keys (held base kind info kept)) w v
  keys-do base Four info kept w v row = Loads (keys_at base) None refl
      (inl (row-within s base (keys_at base) Four row (omega arith) (omega arith)))
  keys-do base Sixteen info kept w v row =
      Loads (count_at Sixteen base) None refl (inl (row-within s base (count_at Sixteen base) Sixteen row (omega arith) (omega arith)))
  keys-do base FortyEight info kept w v row = Loads (keys_at base) None refl (inl (row-within s base (keys_at base) FortyEight row
      (omega arith) (omega arith)))
  keys-do base Full info kept w v row = Loads (keys_at base) None refl
      (inl (row-within s base (keys_at base) Full row (omega arith) (omega arith)))

  wait-does : (step : ScanStep) (w : Walk) (v word : ℕ) (other : ScanAt) → scan_turn c (at step w) ≡ Asks (Load word) None
      → step_after c lo hi step w v ≡ (if is_locked v then at step w else other) → Does step w v
  wait-does step w v word other turn after = go (is_locked v) refl
    where
      go : (b : Bool) → is_locked v ≡ b → Does step w v
      go true e = Stays (after ∙ ap (λ b. if b then at step w else other) e)
      go false e = Loads word None turn (inr e)

  check-does : (a : List ℕ) (n : HeldRow) (w : Walk) (v : ℕ) → Releasing s some lo hi a (n ∷ w.rows) → Does (Release n) w v
  check-does a n w v h = go (is_locked v) refl
    where
      free : is_locked n.kept ≡ false
      free = free-unlocked n.kept (h.entered n (h.within n (inl refl))).1.free

      other : is_locked v ≡ true → (b : Bool) → (v == n.kept) ≡ b → (if b then close_at c w else scan_start c) ≡ scan_start c
      other locked true e = absurd (false≢true (sym free ∙ (ap is_locked (sym (eqb-true v n.kept e)) ∙ locked)))
      other locked false e = refl

      go : (b : Bool) → is_locked v ≡ b → Does (Release n) w v
      go true e = Restarts (other e (v == n.kept) refl)
      go false e = Loads n.base (Some point.Check) refl (inr e)

  does : (a : List ℕ) (step : ScanStep) (w : Walk) (v : ℕ) → IsCurrent s some lo hi a step w → Does step w v
  does a (Lock entry first) w v h = absurd h
  does a (Exchange entry u) w v h = absurd h
  does a (Wait entry) w v h = wait-does (Wait entry) w v (entry_base c entry) _ refl refl
  does a (Info base kind kept) w v h =
      let (prev, is, reading, frames, row, free, waited) = h in
      Loads (info_at base) None refl (inl (row-within s base (info_at base) kind row (omega arith) (omega (arith, some-more kind))))
  does a (Keys n) w v h = keys-do n.base n.kind n.info n.kept w v (its-row a w.rows n.base n.kind h.0 h.2)
  does a (FirstKeys n count) w v h =
      Loads (keys_at n.base) None refl
      (inl (row-within s n.base (keys_at n.base) n.kind (its-row a w.rows n.base n.kind h.0 h.2) (omega arith)
      (omega (arith, some-more n.kind))))
  does a (SecondKeys n count first) w v h =
      Loads (more_keys_at n.base) None refl
      (inl (row-within s n.base (more_keys_at n.base) n.kind (its-row a w.rows n.base n.kind h.0 h.2) (omega arith)
      (omega (arith, some-more n.kind))))
  does a (Index n j m) w v h =
      Loads (index_at n.base (8 * j)) None refl
      (inl (row-within s n.base (index_at n.base (8 * j)) n.kind (its-row a w.rows n.base n.kind h.0 h.2) (omega arith)
      (index-in n.base j n.kind h.3 h.4)))
    where
      index-in : (base j : ℕ) (kind : Kind) → kind ≡ FortyEight → j < 32 → index_at base (8 * j) < base + row_words kind
      index-in base j kind e less = Rattle.std.proofs.Common.subst (λ k. index_at base (8 * j) < base + row_words k) (sym e)
          (omega (arith, less))
  does a (LoadChild f slot) w v h =
      let behind = slot-behind f.row.base f.row.kind slot h.3 in
      Loads slot None refl
      (inl (row-within s f.row.base slot f.row.kind (its-row a w.rows f.row.base f.row.kind h.0 h.2.0) (omega (arith, behind.0)) behind.1))
  does a (Release n) w v h = check-does a n w v h
  does a Over w v h = Stays refl

module _ (plan : Plan) (lo hi : ℕ) (v : plan.variant ≡ Optimistic) (some : 1 ≤ plan.shape.rows256) (attempt words : List ℕ)
    (stands : AllStand plan.shape some lo hi attempt)
    (holds : (i word : ℕ) → Reads plan (Scan lo hi) attempt i word → slice_index words word ≡ slice_index attempt i) where
  abbrev call : Call
  call = Scan lo hi

  abbrev set : Setting
  set = Rattle.art_schedules.proofs.moments.AttemptLemmas.c plan.shape lo hi

  abbrev stage-at : List ℕ → ScanAt
  stage-at ws = stage plan.shape lo hi ws

  abbrev alone-at : ℕ → ScanAt
  alone-at n = stage-at (alone n plan call words)

  -- some time it is where the attempt is after its first i words
  abbrev Comes : ℕ → Type 0
  Comes i = (n : ℕ) × (alone-at n ≡ stage-at (take i attempt))

  comes : (i : ℕ) → i ≤ length attempt → Comes i
  comes zero most = (zero, refl)
  comes (suc i) most = go (comes i (omega (arith, most))) (does plan.shape some lo hi (take i attempt) here.step here.walk got
      (stands i (omega (arith, most))))
    where
      here : ScanAt
      here = stage-at (take i attempt)

      got : ℕ
      got = slice_index attempt i

      next : stage-at (take (suc i) attempt) ≡ scan_after set lo hi here got
      next = ap stage-at (next_of i attempt (omega (arith, most))) ∙ fold-more plan.shape lo hi (scan_start set) (take i attempt) got

      go : Comes i → Does plan.shape some lo hi here.step here.walk got → Comes (suc i)
      go (n, is) (Stays e) = (n, is ∙ sym (next ∙ e))
      go (n, is) (Restarts e) = (zero, sym (next ∙ e))
      go (n, is) (Loads word mark turn settled) =
          let read = from-load plan lo hi v some attempt i word mark (record { made = omega (arith, most); turn = turn }) settled in
          let asks : act plan.shape plan.variant call (alone n plan call words) ≡ Asks (Load word) mark =
          turn-is plan lo hi v some (alone n plan call words) ∙ (ap (scan_turn set) is ∙ turn) in
          let one : alone (suc n) plan call words ≡ alone n plan call words ++ got ∷ [] =
          ap (λ t. alone n plan call words ++ next_word t words) asks ∙ ap (λ x. alone n plan call words ++ x ∷ []) (holds i word read) in (
            suc n,
            ap stage-at one ∙ (fold-more plan.shape lo hi (scan_start set) (alone n plan call words) got
                ∙ (ap (λ x. scan_after set lo hi x got) is ∙ sym next)),
          )

  pub answers-alone : (reply : Reply) → act plan.shape plan.variant call attempt ≡ Answers reply → AnswersAlone plan call words reply
  answers-alone reply answers =
      let h = comes (length attempt) (omega arith) in (
        h.0,
        turn-is plan lo hi v some (alone h.0 plan call words)
            ∙ (ap (scan_turn set) (h.1 ∙ ap stage-at (take-length attempt)) ∙ (sym (turn-is plan lo hi v some attempt) ∙ answers)),
      )
