-- A call at work, after its claim and before its first release, while it steps.
use Rattle.art_schedules.proofs.Common.{◌≡◌, ◌≢◌, ◌⊎◌, inl, inr, ℕ, ◌+◌, ◌-◌, ◌<◌, ◌≤◌, List, [], ◌∷◌, length, Bool, false, refl, sym, ap, ◌∙◌}
use Rattle.art_schedules.proofs.alone.AloneLemmas.{load-same}
use Rattle.art_schedules.proofs.trees.Changes.{way_byte}
use Rattle.art_schedules.proofs.words.TableLemmas.{row_begins, rows_apart}
use Rattle.art_schedules.proofs.writes.StoreLemmas.{stored-long, stored-at}
use Rattle.art_schedules.proofs.Common.{subst, arith, slice_set, Option, Some, None, same_Some, none-some, Call, Contents, Shape, Kind, Four}
use Rattle.art_schedules.proofs.Common.{row_words, base_of, table_words, kind_at, is_obsolete, key_bytes, info_word, row_word, some-words}
use Rattle.art_schedules.proofs.Common.{Variant, Access, Load, Store, Point, Asks, Setting, key_of, next_kind, new_leaf}
use Rattle.art_schedules.proofs.Common.{stores-same, load-store, HeldRow, Hold, Growing, Pair, PairWord, Value, Refused, Work, Stage, Write}
use Rattle.art_schedules.proofs.Common.{StorePair, Hang, Unlock, Obsolete, setting, row_at, byte_in, old_child, new_child, turn_at, stage_after}
use Rattle.art_schedules.proofs.Common.{work_at, pair_after, no_value, OnKey, call_turn, call_after, Process, Plan, State, Reached, Means}
use Rattle.art_schedules.proofs.Common.{IsAtRest, SameRow, LeadsTo, ChildrenAreRead, lock_of}
use Rattle.art_schedules.proofs.Common.{locks_of, all_of, rows_of_hold, Named, Each, Knows, KnowsKey, holds, fills, IsAmong, IsAfterVersion}
use Rattle.art_schedules.proofs.Common.{AreDistinct, IsAtStage, IsOpen, filled_by, is_busy, stage_of}
use Rattle.art_schedules.proofs.versions.ChangeLemmas.{index-other}
use Rattle.art_schedules.proofs.versions.MoveLemmas.{settled-row, true-false}
use Rattle.art_schedules.proofs.Common.{IsGoneBy, ComesInBy, EffectsFollow, KeptTreesFollow, Solo, further, loads, stores, IsHeldWord}
use Rattle.art_schedules.proofs.Common.{TouchesOwn, LoadsHeld, StoresOwn, ClaimsRow, ReleasesHeld, Replies, may_release, RowsOf, IsRelease}
use Rattle.art_schedules.proofs.Common.{IsDoneBy, PairHangs, GrownHangs, IsWorkDone, WorkIsDone, upper_of, upper_row, BeginsWork, hold_at}
use Rattle.art_schedules.proofs.Common.{growing_at, FillsAt, HasNew, IsGoing, IsHanging, AtWork, Going, Hanging, HasFilledFresh, Makes, IsMarked}
use Rattle.art_schedules.proofs.Common.{WorkerStep, IsInTree, IsSame}
use Rattle.std.proofs.Common.{slice_index}
use Rattle.std.specs.Prelude.{take}
use Rattle.art_control_states.specs.declared.stage.PairWord.TheVariants as pair_word
use Rattle.art_control_states.specs.declared.stage.Work.TheVariants as work
use Rattle.art_schedules.proofs.versions.LowLemmas.{first-item}
use Rattle.art_schedules.proofs.calm.CalmLemmas.{claimed-row}
use Rattle.art_schedules.proofs.calm.UseLemmas.{without-store, with-written, with-filled}
use Rattle.art_schedules.proofs.calm.VersionLemmas.{free-busy}
use Rattle.art_schedules.proofs.changes.RowLemmas.{steady-row}
use Rattle.art_schedules.specs.work.Own.{IsFilledWord}
use Rattle.art_schedules.proofs.work.EndLemmas.{end-releases}
use Rattle.art_schedules.proofs.work.GoingLemmas.{alike-set}
use Rattle.art_schedules.proofs.work.OwnLemmas.{IsAllowed, allowed, rows-known}
use Rattle.art_schedules.proofs.work.TouchLemmas.{work-own}
use Rattle.art_schedules.proofs.work.WorkLemmas.{AtWork as InWork, at-work, holds-work, next-work, writes, pairs, put_loads, put_stores}
use Rattle.art_schedules.proofs.work.WorkLemmas.{put_leaf, put_keys, put_more, put_count, grow_info, grow_loads, grow_stores, spread_index}
use Rattle.art_schedules.proofs.work.WorkLemmas.{spread_loads, spread_stores, grow_leaf, grow_keys, grow_count, hangs as hang_stage}
use Rattle.art_schedules.specs.effects.AtWork.{FillsFresh}
use Rattle.art_schedules.specs.effects.Outcomes.{Works}
use Rattle.art_schedules.proofs.effects.BeginLemmas.{no-scan}
use Rattle.art_schedules.proofs.effects.AroundLemmas.{Around, OwnAccess, own-access}
use Rattle.art_schedules.proofs.effects.KeptLemmas.{begins-kept, inside-kept, unreached-kept, fits-kept}
use Rattle.art_schedules.proofs.effects.MarkLemmas.{unmarked, place-unmarked, obsolete-unlock}
use Rattle.art_schedules.proofs.effects.OtherLemmas.{each-with, each-of}
use Rattle.art_schedules.proofs.effects.ReleaseLemmas.{kept-by-words, kept-filled}
use Rattle.art_schedules.proofs.effects.StageLemmas.{place-work, work-place, grow-fills, grow-hold, grow-next, writes-fill, writes-next}
use Rattle.art_schedules.proofs.effects.WorkBeginLemmas.{work-in}
use Rattle.art_schedules.proofs.effects.HangLemmas.{slot-inside, write-hangs, put-hangs, pair-hangs, grown-hangs}

no-items : {row : Named} → ◌≡◌ {A = List Named} [] (row ∷ []) → ⊥
no-items e = cc

refused-value : {h : Hold} {o : Option ℕ} → Unlock h (Some (Value o)) ≡ Unlock h (Some Refused) → ⊥
refused-value e = cc

-- a word of a row that is held
word-same : (words later : List ℕ) (rows : List HeldRow) → Each (IsSame words later) rows → (row : HeldRow)
    → IsAmong row (locks_of rows) → (word : ℕ)
    → IsAfterVersion row.base row.kind word → slice_index later word ≡ slice_index words word
word-same words later [] same row among word behind = absurd among
word-same words later (x ∷ rows) same row (inl e) word behind =
    let base : row.base ≡ x.base = ap (λ (h : HeldRow). h.base) e in
    let size : row_words row.kind ≡ row_words x.kind = ap (λ (h : HeldRow). row_words h.kind) e in
    let is : word ≡ x.base + (word - x.base) = omega (arith, base, behind.0) in
    ap (slice_index later) is
    ∙ (same.0 (word - x.base) (omega (arith, base, behind.0)) (omega (arith, base, size, behind.0, behind.1))
    ∙ ap (slice_index words) (sym is))
word-same words later (x ∷ rows) same row (inr among) word behind = word-same words later rows same.1 row among word behind

-- what the fresh row's stage comes to
pair-next : (h : Hold) (p : Pair) (base : ℕ) (word : PairWord) → FillsAt h (work.Pair p) base Four (pair_after h p base word)
pair-next h p base pair_word.Info = (refl, inl (pair_word.Keys, refl))
pair-next h p base pair_word.Keys = (refl, inl (pair_word.Lesser, refl))
pair-next h p base pair_word.Lesser = (refl, inl (pair_word.Greater, refl))
pair-next h p base pair_word.Greater = (refl, inr refl)

pair-place : (h : Hold) (p : Pair) (base : ℕ) (word : PairWord) → hold_at (pair_after h p base word) ≡ Some h
pair-place h p base pair_word.Info = refl
pair-place h p base pair_word.Keys = refl
pair-place h p base pair_word.Lesser = refl
pair-place h p base pair_word.Greater = refl

fills-next : (c : Setting) (h : Hold) (work : Work) (b : ℕ) (l : Kind) (stage : Stage) (w : ℕ) → FillsAt h work b l stage
    → FillsAt h work b l (stage_after c stage w) ⊎ (hold_at (stage_after c stage w) ≡ None)
fills-next c h (work.Write slot word old) b l stage w none = absurd none
fills-next c h (work.Pair p) b l stage w (is, inl (word, e)) = inl
    (subst (λ z. FillsAt h (work.Pair p) b l (stage_after c z w)) (sym e)
    (subst (λ z. FillsAt h (work.Pair p) b z (pair_after h p b word)) (sym is) (pair-next h p b word)))
fills-next c h (work.Pair p) b l stage w (is, inr e) = inr (ap (λ z. hold_at (stage_after c z w)) e)
fills-next c h (work.Put keys) b l stage w none = absurd none
fills-next c h (work.Grow slot keys) b l stage w (is, growing) =
    elim (grow-next c stage w (record { hold = h; slot = slot; keys = keys; base = b }) growing) [
      | inl later ↦ inl (is, later)
      | inr hang ↦ inr (ap (λ z. hold_at (stage_after c z w)) hang.1)
    ]

-- the row that is filled at its stage
fills-new : (h : Hold) (work : Work) (b : ℕ) (l : Kind) (stage : Stage) → FillsAt h work b l stage → (d : ℕ) (i : Kind)
    → fills (OnKey stage) ≡ (d, i) ∷ []
    → ◌≡◌ {A = Named} (d, i) (b, l)
fills-new h (work.Write slot word old) b l stage none d i f = absurd none
fills-new h (work.Pair p) b l stage (is, inl (word, e)) d i f =
    first-item (sym f ∙ (ap (λ z. fills (OnKey z)) e ∙ ap (λ z. (b, z) ∷ []) (sym is)))
fills-new h (work.Pair p) b l stage (is, inr e) d i f = absurd (no-items (sym (ap (λ z. fills (OnKey z)) e) ∙ f))
fills-new h (work.Put keys) b l stage none d i f = absurd none
fills-new h (work.Grow slot keys) b l stage (is, growing) d i f =
    elim (grow-fills stage (record { hold = h; slot = slot; keys = keys; base = b }) growing) [
      | inl own ↦ first-item (sym f ∙ (own ∙ ap (λ z. (b, z) ∷ []) (sym is)))
      | inr hang ↦ absurd (no-items (sym (ap (λ z. fills (OnKey z)) hang) ∙ f))
    ]

-- a release is no stage of all rows
release-none : (h : Hold) (at : Stage) → IsRelease h at → hold_at at ≡ None
release-none h at (inl e) = ap hold_at e.1
release-none h at (inr e) = ap hold_at e

may-not : {h : Hold} {b : Bool} {stage : Stage} → InWork h b stage → may_release (OnKey stage) ≡ false
may-not (writes slot word reply) = refl
may-not (pairs p base word) = refl
may-not (put_loads keys left) = refl
may-not (put_stores keys left word) = refl
may-not (put_leaf keys) = refl
may-not (put_keys keys) = refl
may-not (put_more keys) = refl
may-not (put_count keys) = refl
may-not (grow_info g e) = refl
may-not (grow_loads g place left e) = refl
may-not (grow_stores g place left word e) = refl
may-not (spread_index g j left e) = refl
may-not (spread_loads s entry left e) = refl
may-not (spread_stores s entry left word e) = refl
may-not (grow_leaf g e) = refl
may-not (grow_keys g j left e) = refl
may-not (grow_count g e) = refl
may-not (hang_stage g e) = refl

module _ (read : ChildrenAreRead) (trees : KeptTreesFollow) (effects : EffectsFollow) (done : WorkIsDone) (plan : Plan)
    (p : ℕ) (s t : State)
    (calm after : List ℕ) (x : Around plan p s t calm after) (k : ℕ) (rest : IsAtRest plan.shape k calm) (m : Contents)
    (means : Means plan.shape calm m)
    (call : Call) (q : Process) (o : IsOpen s p call q) (stage : Stage) (at : stage_of plan.variant plan.shape call q ≡ OnKey stage)
    (fresh : Option Named)
    (g : IsGoing (setting plan.shape plan.variant call) s.words calm fresh stage) where
  abbrev variant : Variant
  variant = plan.variant

  abbrev shape : Shape
  shape = plan.shape

  abbrev c : Setting
  c = setting shape variant call

  abbrev Kept : Type 0
  Kept = Makes variant shape s p calm after m None

  abbrev rows : List HeldRow
  rows = rows_of_hold g.hold

  placed : (b : Bool) × InWork g.hold b stage
  placed = place-work stage g.hold g.place

  is-holds : holds c (OnKey stage) ≡ locks_of rows
  is-holds = holds-work c placed.1

  knows : KnowsKey (RowsOf shape) c stage
  knows = subst (Knows (RowsOf shape) c) at (rows-known variant shape x.count s p call q x.before o)

  held-reached : (row : HeldRow) → IsAmong row (holds c (OnKey stage)) → Reached shape calm row.base row.kind
  held-reached = work-in c s.words calm stage fresh (Going g)

  held-row : (row : HeldRow) → IsAmong row (holds c (OnKey stage)) → kind_at shape row.base ≡ Some row.kind
  held-row row among = settled-row variant shape s row.base row.kind (x.calm_before.reached row.base row.kind (held-reached row among))

  asks-now : (a : Access) (mark : Option Point) → turn_at c stage ≡ Asks a mark → call_turn c (stage_of variant shape call q) ≡ Asks a mark
  asks-now a mark turn = ap (call_turn c) at ∙ turn

  -- what an access makes, where it got w
  record Moved (w : ℕ) : Type 0 where
    pub made : Kept
    pub words : List ℕ
    pub long : length words ≡ table_words shape
    pub solo : Solo c (OnKey (work_at c g.hold g.work)) g.first (OnKey (stage_after c stage w)) words
    pub calms : Each (IsSame calm after) rows
    pub same : Each (IsSame words t.words) rows
    pub new : (b : ℕ) (l : Kind) → FillsFresh c s.words calm g.words g.hold g.work stage b l → HasFilledFresh c t.words after b l
        × SameRow words after b l
    pub wrote : (word value : ℕ) (mark : Option Point) → turn_at c stage ≡ Asks (Store word value) mark → word < length g.words
        → slice_index words word ≡ value
    pub process : Process
    pub is_open : IsOpen t p call process
    pub stage_at : stage_of variant shape call process ≡ OnKey (stage_after c stage w)

  -- a fresh row is apart from each that is held
  new-apart : (b : ℕ) (l : Kind) → FillsFresh c s.words calm g.words g.hold g.work stage b l → (row : HeldRow)
      → IsAmong row (holds c (OnKey stage)) → (word : ℕ)
      → b ≤ word → word < b + row_words l → row.base ≤ word → word < row.base + row_words row.kind → ⊥
  new-apart b l new row among word low high low2 high2 = new.unreached row.kind
      (subst (λ z. Reached shape calm z row.kind)
      (rows_apart shape row.base b row.kind l word (held-row row among) (claimed-row shape s.words b l new.claimed) low2 high2 low high).0
      (held-reached row among))

  ready-then : (made : Kept) (b : ℕ) (l : Kind) → FillsFresh c s.words calm g.words g.hold g.work stage b l
      → slice_index after b ≡ slice_index calm b
      → is_obsolete (slice_index t.words b) ≡ false → HasFilledFresh c t.words after b l
  ready-then made b l new same live_now = record {
    claimed = record {
      number = new.claimed.number;
      claimed = omega (arith, new.claimed.claimed, x.steady.claims l);
      within = new.claimed.within;
      is = new.claimed.is;
    };
    unreached = unreached-kept shape made.goes.claims calm after _ (IsGoneBy None) (ComesInBy None) made.goes.follows b new.unreached
        (λ i none. none);
    live = ap is_obsolete same ∙ new.live;
    live_now = live_now;
  }

  late : (row : HeldRow) → IsInTree c.shape calm row → 5 ≤ row.base
  late row inside = row_begins shape row.base row.kind (settled-row variant shape s row.base row.kind (x.calm_before.reached row.base
      row.kind inside.reached))

  -- where no word of a row of calm changes
  module _ (stays : (word : ℕ) → 5 ≤ word → slice_index after word ≡ slice_index calm word) where
    made-stays : Kept
    made-stays = kept-by-words read trees effects plan p s t calm after x k rest m means stays

    calms-stay : Each (IsSame calm after) rows
    calms-stay = each-with (IsInTree c.shape calm) (IsSame calm after) rows (λ row among inside j low high. stays (row.base + j) (omega
        (arith, late row inside))) g.rows

    new-stays : (words : List ℕ) (b : ℕ) (l : Kind) → FillsFresh c s.words calm g.words g.hold g.work stage b l → SameRow g.words words b l
        → slice_index t.words b ≡ slice_index s.words b → HasFilledFresh c t.words after b l × SameRow words after b l
    new-stays words b l new same version =
        let low5 = row_begins shape b l (claimed-row shape s.words b l new.claimed) in (
          ready-then made-stays b l new (stays b low5) (ap is_obsolete version ∙ new.live_now),
          λ j low high. stays (b + j) (omega (arith, low5)) ∙ (new.same j low high ∙ sym (same j low high)),
        )

  -- ---- a load

  loaded : (word : ℕ) (mark : Option Point) → turn_at c stage ≡ Asks (Load word) mark → IsHeldWord c (OnKey stage) word
      → Moved (slice_index s.words word)
  loaded word mark turn held =
      let asks = asks-now (Load word) mark turn in
      let own : OwnAccess plan p s t call q (Load word) = own-access plan p s t x.move call q o (Load word) mark asks in
      let real : t.words ≡ s.words = own.words ∙ load-same word s.words in
      let stays = without-store variant shape x.count s x.before p t calm after x.changes call q o
      (λ w value mk e. load-store (sym asks ∙ e)) in
      let told = word-same g.words s.words rows g.same held.row (subst (IsAmong held.row) is-holds held.among) word held.behind in
      record {
        made = made-stays stays;
        words = g.words;
        long = g.long;
        solo = subst (λ n. Solo c (OnKey (work_at c g.hold g.work)) g.first (OnKey (stage_after c stage n)) g.words) (sym told)
            (further g.solo (loads word mark turn));
        calms = calms-stay stays;
        same = each-with (IsSame g.words s.words) (IsSame g.words t.words) rows
            (λ row among same j low high. ap (λ ws. slice_index ws (row.base + j)) real ∙ same j low high) g.same;
        new = λ b l new. new-stays stays g.words b l new (λ j low high. refl) (ap (λ ws. slice_index ws b) real);
        wrote = λ w value mk e inside. absurd (load-store (sym turn ∙ e));
        process = own.process;
        is_open = own.is_open;
        stage_at = own.at ∙ ap (λ z. call_after c z (slice_index s.words word)) at;
      }

  -- ---- a store

  module _ (word value : ℕ) (mark : Option Point) (turn : turn_at c stage ≡ Asks (Store word value) mark) where
    asks : call_turn c (stage_of variant shape call q) ≡ Asks (Store word value) mark
    asks = asks-now (Store word value) mark turn

    own : OwnAccess plan p s t call q (Store word value)
    own = own-access plan p s t x.move call q o (Store word value) mark asks

    abbrev now : List ℕ
    now = slice_set g.words word value

    as-long : length s.words ≡ length g.words
    as-long = x.before.long ∙ sym g.long

    same-now : Each (IsSame now t.words) rows
    same-now = each-with (IsSame g.words s.words) (IsSame now t.words) rows
        (λ row among same j low high. ap (λ ws. slice_index ws (row.base + j)) own.words
        ∙ alike-set g.words s.words (row.base + j) word value as-long (same j low high)) g.same

    stored : (made : Kept) → Each (IsSame calm after) rows
        → ((b : ℕ) (l : Kind) → FillsFresh c s.words calm g.words g.hold g.work stage b l → HasFilledFresh c t.words after b l
        × SameRow now after b l) → Moved 0
    stored made calms new = record {
      made = made;
      words = now;
      long = stored-long g.words word value ∙ g.long;
      solo = further g.solo (stores word value mark turn);
      calms = calms;
      same = same-now;
      new = new;
      wrote = λ w v mk e inside.
          let one = stores-same (sym turn ∙ e) in
          ap (slice_index now) (sym one.0) ∙ (stored-at g.words word value (omega (arith, one.0, inside)) ∙ one.1);
      process = own.process;
      is_open = own.is_open;
      stage_at = own.at ∙ ap (λ z. call_after c z 0) at;
    }

    stored-held : IsHeldWord c (OnKey stage) word → Moved 0
    stored-held held =
        let stays = with-written variant shape x.count s x.before p t calm after x.changes call q o word value mark asks held.row
        (subst (IsAmong held.row) (sym (ap (holds c) at)) held.among) held.behind in
        stored (made-stays stays) (calms-stay stays)
        (λ b l new. new-stays stays now b l new (λ j low high. index-other g.words word value (b + j)
        (λ e. new-apart b l new held.row held.among word (omega (arith, e)) (omega (arith, e, high))
        (omega (arith, held.behind.0)) held.behind.1))
        (ap (λ ws. slice_index ws b) own.words
        ∙ index-other s.words word value b
        (λ e. new-apart b l new held.row held.among word (omega (arith, e)) (omega (arith, e, some-words l))
        (omega (arith, held.behind.0)) held.behind.1)))

    stored-filled : (b : ℕ) (l : Kind) → FillsFresh c s.words calm g.words g.hold g.work stage b l → fills (OnKey stage) ≡ (b, l) ∷ []
        → IsAfterVersion b l word
        → Moved 0
    stored-filled b l new f behind = stored made calms others-new
      where
        filled : filled_by variant shape call q ≡ (b, l) ∷ []
        filled = ap fills at ∙ f

        row : kind_at shape b ≡ Some l
        row = claimed-row shape s.words b l new.claimed

        low5 : 5 ≤ b
        low5 = row_begins shape b l row

        others : (other : ℕ) → 5 ≤ other → other ≢ word → slice_index after other ≡ slice_index calm other
        others = with-filled variant shape x.count s x.before p t calm after x.changes call q o word value mark asks b l filled behind

        made : Kept
        made = kept-filled read trees effects plan p s t calm after x k rest m means b l new.claimed row new.unreached new.live word
            behind others low5

        calms : Each (IsSame calm after) rows
        calms = each-with (IsInTree c.shape calm) (IsSame calm after) rows
            (λ y among inside j low high. others (y.base + j) (omega (arith, late y inside))
            (λ e. new-apart b l new (lock_of y) (subst (IsAmong (lock_of y)) (sym is-holds) among) word (omega (arith, behind.0)) behind.1
            (omega (arith, e))
            (omega (arith, e, high)))) g.rows

        version : slice_index t.words b ≡ slice_index calm b
        version = ap (λ ws. slice_index ws b) own.words
            ∙ (index-other s.words word value b (λ e. omega (arith, e, behind.0))
            ∙ sym (x.calm_before.filled p call q o b l filled b (omega arith) (omega (arith, some-words l))))

        free : is_busy (slice_index t.words b) ≡ false
        free = ap is_busy version ∙ free-busy (slice_index calm b) (x.calm_before.unlocked b l row) new.live

        filled-same : SameRow now after b l
        filled-same j low high =
            steady-row t.words after b l (x.calm_after_step.free b l row free) j low high
            ∙ (ap (λ ws. slice_index ws (b + j)) own.words
            ∙ alike-set g.words s.words (b + j) word value as-long
            (sym (steady-row s.words calm b l (x.calm_before.filled p call q o b l filled) j low high) ∙ new.same j low high))

        others-new : (d : ℕ) (i : Kind) → FillsFresh c s.words calm g.words g.hold g.work stage d i → HasFilledFresh c t.words after d i
            × SameRow now after d i
        others-new d i other =
            let same : ◌≡◌ {A = Named} (b, l) (d, i) = fills-new g.hold g.work d i stage other.at b l f in
            subst (λ (z : Named). HasFilledFresh c t.words after z.0 z.1 × SameRow now after z.0 z.1) same
            (ready-then made b l new (others b low5 (λ e. omega (arith, e, behind.0))) (ap is_obsolete version ∙ new.live), filled-same)

    stored-fresh : (row : Option Named) → HasNew c s.words calm g.words g.hold g.work stage row → IsFilledWord (OnKey stage) word → Moved 0
    stored-fresh None none own-word = absurd (no-items (sym (writes-fill stage none.1) ∙ own-word.filled))
    stored-fresh (Some row) new own-word =
        let same : ◌≡◌ {A = Named} (own-word.base, own-word.kind) row =
        fills-new g.hold g.work row.0 row.1 stage new.at own-word.base own-word.kind own-word.filled in
        stored-filled row.0 row.1 new (own-word.filled ∙ ap (λ z. z ∷ []) same)
        (subst (λ (z : Named). IsAfterVersion z.0 z.1 word) same own-word.behind)

  -- ---- after it

  module _ (w : ℕ) (mv : Moved w) where
    abbrev next : Stage
    next = stage_after c stage w

    begins : BeginsWork c after g.hold g.work
    begins = begins-kept c mv.made.goes.claims calm after _ (IsGoneBy None) (ComesInBy None) mv.made.goes.follows g.hold g.work mv.calms
        (each-of (λ row. IsGoneBy None row.base → ⊥) rows (λ row among none. none)) g.begins

    rows-then : Each (IsInTree c.shape after) rows
    rows-then = each-with (IsInTree c.shape calm) (IsInTree c.shape after) rows
        (λ row among inside. inside-kept c mv.made.goes.claims calm after _ (IsGoneBy None) (ComesInBy None) mv.made.goes.follows row
        inside (λ none. none)) g.rows

    was-then : Each (IsSame g.first after) rows
    was-then = go rows g.was mv.calms
      where
        go : (hs : List HeldRow) → Each (IsSame g.first calm) hs → Each (IsSame calm after) hs → Each (IsSame g.first after) hs
        go [] a b = tt
        go (h ∷ hs) a b = (λ j low high. b.0 j low high ∙ a.0 j low high, go hs a.1 b.1)

    is-at : IsAtStage variant shape t p call (OnKey next)
    is-at = record { process = mv.process; is_open = mv.is_open; at = mv.stage_at }

    new-next : (row : Option Named) → hold_at next ≡ Some g.hold → HasNew c s.words calm g.words g.hold g.work stage row
        → HasNew c t.words after mv.words g.hold g.work next row
    new-next None place new = elim (writes-next c stage w new.1) [
      | inl still ↦ (new.0, still)
      | inr none ↦ absurd (none-some g.hold (sym none ∙ place))
    ]
    new-next (Some row) place new = elim (fills-next c g.hold g.work row.0 row.1 stage w new.at) [
      | inl filling ↦
          let kept = mv.new row.0 row.1 new in
          record {
            at = filling;
            claimed = kept.0.claimed;
            unreached = kept.0.unreached;
            live = kept.0.live;
            live_now = kept.0.live_now;
            same = kept.1;
          }
      | inr none ↦ absurd (none-some g.hold (sym none ∙ place))
    ]

    -- the call works on, and has made no row obsolete
    works-on : AtWork c t.words after fresh next → WorkerStep plan s p t calm after m call stage fresh None
    works-on later = (
      Works next fresh is-at later (inl refl) mv.made,
      (refl, subst (λ z. IsMarked z later) (sym (place-unmarked stage g.hold g.place)) (unmarked c t.words after fresh next later)),
    )

    goes-on : hold_at next ≡ Some g.hold → WorkerStep plan s p t calm after m call stage fresh None
    goes-on place = works-on
        (Going (record {
          hold = g.hold;
          work = g.work;
          begins = begins;
          rows = rows-then;
          place = place;
          knows = g.knows;
          first = g.first;
          words = mv.words;
          first_long = g.first_long;
          long = mv.long;
          solo = mv.solo;
          was = was-then;
          same = mv.same;
          new = new-next fresh place g.new;
        }))

    -- ---- the first release

    module _ (release : IsRelease g.hold next) where
      before : Each (IsSame calm g.first) rows
      before = each-with (IsSame g.first calm) (IsSame calm g.first) rows (λ row among same j low high. sym (same j low high)) g.was

      is-done : IsWorkDone c g.hold g.work g.first next mv.words
      is-done = done c g.hold g.work g.first mv.words next x.full (no-scan c calm g.hold g.work g.begins) x.root
          (omega (arith, g.first_long)) g.knows
          (fits-kept c g.hold g.work calm g.first g.begins.byte
          (way_byte shape calm (key_of call) (upper_row g.hold).base (upper_row g.hold).kind g.begins.byte g.begins.leads)
          before g.begins.finds
          g.begins.words)
          mv.solo release

      apart : (a : HeldRow) → g.hold.above ≡ Some a → g.hold.row.base ≢ a.base
      apart a e = (subst AreDistinct (ap (holds c) at ∙ is-holds) (x.before.distinct p call q o)).0 (lock_of a)
          (subst (λ z. IsAmong (lock_of a) (locks_of (all_of z))) (sym e) (inl refl))

      no-place : (h : Hold) → hold_at next ≡ Some h → ⊥
      no-place h place = none-some h (sym (release-none g.hold next release) ∙ place)

      abbrev rests : IsAtRest shape mv.made.goes.claims after
      rests = mv.made.goes.follows.rests

      hangs : (work : Work) (row : Option Named) → BeginsWork c after g.hold work → IsWorkDone c g.hold work g.first next mv.words
          → HasNew c s.words calm g.words g.hold work stage row
          → ((b : ℕ) (l : Kind) → FillsFresh c s.words calm g.words g.hold work stage b l
          → HasFilledFresh c t.words after b l × SameRow mv.words after b l) → IsHanging c t.words after row next
      hangs (work.Write slot word old) None b is new kept =
          let leads = subst (λ z. LeadsTo shape after (key_of call) (upper_of g.hold.row z).base
          (upper_of g.hold.row z).kind b.byte) b.finds.0 b.leads in
          write-hangs c mv.made.goes.claims t.words after g.first mv.words rests g.hold next g.first_long rows-then was-then mv.same
          b.finds.0 b.byte slot word old
          b.call leads b.finds.1 b.finds.2 is.2.0 is.2.1
      hangs (work.Write slot word old) (Some row) b is new kept = absurd new.at
      hangs (work.Put keys) None b is new kept =
          let leads = subst (λ z. LeadsTo shape after (key_of call) (upper_of g.hold.row z).base
          (upper_of g.hold.row z).kind b.byte) b.finds.0 b.leads in
          put-hangs c mv.made.goes.claims t.words after g.first mv.words rests g.hold next g.first_long rows-then was-then mv.same
          b.finds.0 b.byte leads b.finds.1
          b.words.0 b.words.1.absent is.2.0 is.2.1
      hangs (work.Put keys) (Some row) b is new kept = absurd new.at
      hangs (work.Pair pair) None b is new kept = absurd (true-false refl new.0)
      hangs (work.Pair pair) (Some row) b is new kept = at-pair new.at
        where
          up : HeldRow
          up = upper_row g.hold

          small : b.byte < 256
          small = way_byte shape after (key_of call) up.base up.kind b.byte b.leads

          inside : pair.slot < length g.words
          inside =
              let place = slot-inside c mv.made.goes.claims t.words after g.first mv.words rests g.hold next g.first_long rows-then
              was-then mv.same
              up.base up.kind b.byte
              pair.slot b.leads.reached small b.finds.0 in
              omega (arith, place.2, g.first_long, g.long)

          at-pair : (row.1 ≡ Four) × (((word : _) × (stage ≡ StorePair g.hold pair row.0 word)) ⊎ (stage ≡ Write g.hold pair.slot
              (row_word row.0) None))
              → IsHanging c t.words after (Some row) next
          at-pair (kind, inl (word, e)) =
              absurd (no-place g.hold (ap (λ z. hold_at (stage_after c z w)) e ∙ pair-place g.hold pair row.0 word))
          at-pair (kind, inr e) = at-done is.2
            where
              goes : next ≡ Unlock g.hold (Some no_value)
              goes = ap (λ z. stage_after c z w) e

              wrote : slice_index mv.words pair.slot ≡ row_word row.0
              wrote = mv.wrote pair.slot (row_word row.0) None (ap (turn_at c) e) inside

              at-done : IsDoneBy c g.hold (work.Pair pair) is.0 g.first next mv.words → IsHanging c t.words after (Some row) next
              at-done (inl refusal) = absurd (refused-value (sym goes ∙ refusal.is))
              at-done (inr (room, unlock, hung)) =
                  let same : base_of shape Four is.0 ≡ row.0 = omega (arith, hung.hangs, wrote) in
                  let both = kept row.0 row.1 new in
                  subst (λ z. IsHanging c t.words after (Some (row.0, z)) next) (sym kind)
                  (pair-hangs c mv.made.goes.claims t.words after g.first mv.words rests g.hold next g.first_long rows-then was-then mv.same
                  pair b.byte row.0 b.leads
                  b.finds.0 b.finds.1 b.words.0 b.words.1 b.words.3 (subst (HasFilledFresh c t.words after row.0) kind both.0)
                  (subst (SameRow mv.words after row.0) kind both.1) apart goes
                  (subst (λ z. PairHangs shape g.first mv.words z pair.slot pair.level
                  (take pair.level (key_bytes (key_of call))) (old_child pair)
                  (new_child c pair)) same hung))
      hangs (work.Grow slot keys) None b is new kept = absurd (true-false refl new.0)
      hangs (work.Grow slot keys) (Some row) b is new kept = at-grow new.at
        where
          up : HeldRow
          up = upper_row g.hold

          small : b.byte < 256
          small = way_byte shape after (key_of call) up.base up.kind b.byte b.leads

          inside : slot < length g.words
          inside =
              let place = slot-inside c mv.made.goes.claims t.words after g.first mv.words rests g.hold next g.first_long rows-then
              was-then mv.same
              up.base up.kind b.byte
              slot b.leads.reached small b.finds.1 in
              omega (arith, place.2, g.first_long, g.long)

          grown : Growing
          grown = record { hold = g.hold; slot = slot; keys = keys; base = row.0 }

          at-hang : row.1 ≡ next_kind g.hold.row.kind → stage ≡ Hang grown → IsHanging c t.words after (Some row) next
          at-hang kind e = at-done is.2
            where
              goes : next ≡ Obsolete g.hold
              goes = ap (λ z. stage_after c z w) e

              wrote : slice_index mv.words slot ≡ row_word row.0
              wrote = mv.wrote slot (row_word row.0) None (ap (turn_at c) e) inside

              at-done : IsDoneBy c g.hold (work.Grow slot keys) is.0 g.first next mv.words
                  → IsHanging c t.words after (Some row) next
              at-done (inl refusal) = absurd (obsolete-unlock (sym goes ∙ refusal.is))
              at-done (inr (room, gone, hung)) =
                  let same : base_of shape (next_kind g.hold.row.kind) is.0 ≡ row.0 = omega (arith, hung.hangs, wrote) in
                  let both = kept row.0 row.1 new in
                  grown-hangs c mv.made.goes.claims t.words after g.first mv.words rests g.hold next g.first_long rows-then was-then
                  mv.same slot b.byte row.0 row.1
                  b.leads b.finds.0 b.finds.1 b.finds.2 b.finds.3 b.words.0 b.words.1.absent b.words.3 kind both.0 both.1 apart goes
                  (subst (λ z. GrownHangs shape g.first mv.words g.hold.row.base g.hold.row.kind z slot
                  (info_word (next_kind g.hold.row.kind) (row_at g.hold.row).level
                  (row_at g.hold.row).path) (byte_in c g.hold.row)
                  (new_leaf call)) same hung)

          at-grow : (row.1 ≡ next_kind g.hold.row.kind) × (growing_at stage ≡ Some grown) → IsHanging c t.words after (Some row) next
          at-grow (kind, growing) = elim (grow-next c stage w grown growing) [
            | inl later ↦ absurd (no-place g.hold (grow-hold next grown later))
            | inr hang ↦ at-hang kind (hang.1 ∙ ap Hang (same_Some hang.0 grown (sym (ap growing_at hang.1) ∙ growing)))
          ]

      releases-first : WorkerStep plan s p t calm after m call stage fresh None
      releases-first = works-on (Hanging (hangs g.work fresh begins is-done g.new mv.new))

    behind : WorkerStep plan s p t calm after m call stage fresh None
    behind = elim (next-work g.hold c placed.1 knows w) [
      | inl work ↦ goes-on (work-place work)
      | inr end ↦ releases-first (end-releases g.hold placed.0 next end)
    ]

  pub going-step : WorkerStep plan s p t calm after m call stage fresh None
  going-step = go (work-own variant x.full shape call x.root stage (at-work placed.1).0 knows)
    where
      allows : IsAllowed c stage (turn_at c stage)
      allows = allowed (RowsOf shape) c stage (at-work placed.1).0 knows

      go : TouchesOwn c (OnKey stage) → WorkerStep plan s p t calm after m call stage fresh None
      go (LoadsHeld word mark turn held) = behind (slice_index s.words word) (loaded word mark turn held)
      go (StoresOwn word value mark turn (inl held)) = behind 0 (stored-held word value mark turn held)
      go (StoresOwn word value mark turn (inr own-word)) = behind 0 (stored-fresh word value mark turn fresh g.new own-word)
      go (ClaimsRow kind mark turn claims) = absurd (true-false (subst (IsAllowed c stage) turn allows) (at-work placed.1).1)
      go (ReleasesHeld row value mark turn among may) = absurd (true-false may (may-not placed.1))
      go (Replies reply turn) = absurd (true-false (subst (IsAllowed c stage) turn allows) (at-work placed.1).2)
