-- A step of the call's own, in a run.
use Rattle.art_schedules.proofs.Common.{◌≡◌, ◌≢◌, ◌⊎◌, inl, inr, ℕ, ◌+◌, ◌<◌, ◌≤◌, List, [], ◌∷◌, ◌++◌, Bool, true, false, refl, sym, ap, ◌∙◌}
use Rattle.art_schedules.proofs.serial.OrderlyLemmas.{set-here}
use Rattle.art_schedules.proofs.words.TableLemmas.{rows_apart, row_begins, row_ends}
use Rattle.art_schedules.proofs.words.VersionLemmas.{obsolete_released}
use Rattle.art_schedules.proofs.writes.StoreLemmas.{stored-at}
use Rattle.art_schedules.proofs.Common.{subst, arith, eq-eqb, ne_eqb, slice_get, Option, Some, None, cases_eq, cases_lt, set-get_or, same_Some}
use Rattle.art_schedules.proofs.Common.{Call, Reply, Contents, Shape, Kind, Four, Sixteen, FortyEight, Full, row_words, kind_at, claims_of}
use Rattle.art_schedules.proofs.Common.{is_locked, is_obsolete, locked_word, released_word, some-words, claims-few}
use Rattle.art_schedules.proofs.Common.{Optimistic, Access, Load, Store, Swap, Point, Asks, Answers, is_tree_call, Setting, is_insert}
use Rattle.art_schedules.proofs.Common.{is_scan, act, word_of, asks-same, load-store, exchange-store, HeldRow, Hold, Taking, Work, Stage, Wait}
use Rattle.art_schedules.proofs.Common.{Between, Info, Find, FindKeys, FindMore, FindCount, Slot, Check, CheckLast, Take, Unlock, Over, setting}
use Rattle.art_schedules.proofs.Common.{turn_at, find_turn, stage_after, taken_at, release_at, OnKey, call_turn, call_after, call_begun, got_by}
use Rattle.art_schedules.proofs.Common.{words_after, told, Process, Plan, State, opened_on, step, moved, after_move, move_of, move_from, IsRun}
use Rattle.art_schedules.proofs.Common.{Reached, Means, is-moved, IsAtRest, SameRow, WaysLeadToValues, LeavesAreSmall}
use Rattle.art_schedules.proofs.Common.{IsOutside, IsAmong, Each, IsKept, Knows, KnowsKey, holds, rows_kept, FitsStage}
use Rattle.art_schedules.proofs.Common.{IsAtStage, IsOpen, IsSettled, all_of, held_at_stage, held_by, lock_of, stage_of}
use Rattle.art_schedules.proofs.versions.ChangeLemmas.{index-other}
use Rattle.art_schedules.proofs.versions.KnownLemmas.{knows-more}
use Rattle.art_schedules.proofs.Common.{CalmStep, IsCalm, KeepsTree, RowsOf, calm_of, is_busy}
use Rattle.art_schedules.proofs.versions.MoveLemmas.{settled-row}
use Rattle.art_schedules.proofs.versions.StepLemmas.{after-more, next-turn}
use Rattle.art_schedules.proofs.versions.WordFacts.{version-free}
use Rattle.art_schedules.proofs.Common.{BeginsWork, KnowsStage, IsReachedHere, KnowsWay, IsCurrent, AllStand, hold_taken, IsPast, IsHeldReached}
use Rattle.art_schedules.proofs.Common.{Agrees, Gets, Goes, GoesOn, StepsOn, OwnStepsGoOn, OwnFindingsStay}
use Rattle.std.proofs.Common.{◌==◌, slice_index, slice_set, if◌then◌else◌}
use Rattle.std.proofs.lemmas.Grind.{same_number_lists}
use Rattle.art_rows.specs.declared.access.Point.TheVariants as point
use Rattle.art_core.specs.Core.{Makes}
use Rattle.art_schedules.specs.versions.Holding.{FitsTaking}
use Rattle.art_schedules.proofs.calm.InductionLemmas.{run-begins, last-step, step-of-run}
use Rattle.art_schedules.proofs.calm.RunLemmas.{step-at, calm-at}
use Rattle.art_schedules.proofs.calm.UseLemmas.{without-store, with-released}
use Rattle.art_schedules.proofs.calm.VersionLemmas.{free-busy, free-parts, released-free, not-behind, unmarked-free}
use Rattle.art_schedules.specs.optimistic.Knows.{KnowsReply, KnowsTaking}
use Rattle.art_schedules.specs.optimistic.Goes.{Works}
use Rattle.art_schedules.proofs.optimistic.InfoLemmas.{calm-agrees}
use Rattle.art_schedules.proofs.optimistic.OwnLemmas.{ways-go-on, findings-stay}

-- ---- the access of a step

-- The process makes the access that its stage asks for, and is at the stage after it.
record Made (shape : Shape) (s : State) (p : ℕ) (t : State) (call : Call) (stage : Stage) (a : Access) : Type 0 where
  at : IsAtStage Optimistic shape t p call (OnKey (stage_after (setting shape Optimistic call) stage (got_by a s.words)))
  words : t.words ≡ words_after a s.words

makes : (plan : Plan) (s t : State) (p : ℕ) (call : Call) (stage : Stage) (a : Access) (mark : Option Point) → plan.variant ≡ Optimistic
    → step plan s p ≡ Some t → IsAtStage Optimistic plan.shape s p call (OnKey stage)
    → turn_at (setting plan.shape Optimistic call) stage ≡ Asks a mark
    → Made plan.shape s p t call stage a
makes plan s t p call stage a mark v e at turn = record {
  at = record { process = later; is_open = record { own = own; is_open = at.is_open.is_open }; at = there };
  words = ap
      (λ u. u.words) now;
}
  where
    c : Setting
    c = setting plan.shape Optimistic call

    asks : act plan.shape plan.variant call at.process.got ≡ Asks a mark
    asks = ap (λ x. act plan.shape x call at.process.got) v
        ∙ (next-turn Optimistic plan.shape call at.process ∙ (ap (call_turn c) at.at ∙ turn))

    its-process : (is-moved plan s p t e).process ≡ at.process
    its-process = same_Some _ at.process (sym (is-moved plan s p t e).here ∙ at.is_open.own)

    its-move : (is-moved plan s p t e).move ≡ Makes a
    its-move = same_Some _ (Makes a) (sym (is-moved plan s p t e).is_next
        ∙ (ap (λ x. move_from plan p x x.call) its-process
        ∙ (ap (move_from plan p at.process) at.is_open.is_open ∙ ap (λ x. Some (move_of x)) asks)))

    now : t ≡ moved s p at.process (Makes a)
    now = (is-moved plan s p t e).is ∙ (ap (λ x. moved s p x (is-moved plan s p t e).move) its-process ∙ ap (moved s p at.process) its-move)

    later : Process
    later = after_move p (Makes a) (slice_index s.words (word_of a)) at.process

    own : slice_get t.processes p ≡ Some later
    own = ap (λ u. slice_get u.processes p) now ∙ set-here s.processes p at.process later at.is_open.own

    there : stage_of Optimistic plan.shape call later ≡ OnKey (stage_after c stage (got_by a s.words))
    there = after-more c (call_begun c) at.process.got (told a (slice_index s.words (word_of a))) ∙ ap
        (λ x. call_after c x (got_by a s.words)) at.at

-- ---- which access it is

data Asking (c : Setting) (stage : Stage) : Type 0 where
  AsksLoad : (word : ℕ) → (mark : Option Point) → turn_at c stage ≡ Asks (Load word) mark → Asking c stage
  AsksTake : (x : Taking) → stage ≡ Take x → Asking c stage
  GivesRow : (h : Hold) → stage ≡ Unlock h None → h.above ≡ None → Asking c stage

asking : (shape : Shape) (call : Call) (calm words : List ℕ) (i : Bool) (stage : Stage)
    → KnowsStage i (setting shape Optimistic call) calm words stage
    → Asking (setting shape Optimistic call) stage
asking shape call calm words i (Wait t) k = AsksLoad _ _ refl
asking shape call calm words i (Between d was) k = AsksLoad _ _ refl
asking shape call calm words i (Info d was) k = AsksLoad _ _ refl
asking shape call calm words i (Find p) k = find p.row.kind refl
  where
    find : (kind : Kind) → p.row.kind ≡ kind → Asking (setting shape Optimistic call) (Find p)
    find Four e = AsksLoad _ _ (ap (λ x. find_turn x (setting shape Optimistic call) p.row) e)
    find Sixteen e = AsksLoad _ _ (ap (λ x. find_turn x (setting shape Optimistic call) p.row) e)
    find FortyEight e = AsksLoad _ _ (ap (λ x. find_turn x (setting shape Optimistic call) p.row) e)
    find Full e = AsksLoad _ _ (ap (λ x. find_turn x (setting shape Optimistic call) p.row) e)
asking shape call calm words i (FindKeys p count) k = AsksLoad _ _ refl
asking shape call calm words i (FindMore p count first) k = AsksLoad _ _ refl
asking shape call calm words i (FindCount p index) k = AsksLoad _ _ refl
asking shape call calm words i (Slot p slot) k = AsksLoad _ _ refl
asking shape call calm words i (Check p f) k = AsksLoad _ _ refl
asking shape call calm words i (Take x) k = AsksTake x refl
asking shape call calm words i (Unlock h None) k = GivesRow h refl k
asking shape call calm words i (Unlock h (Some outcome)) k = absurd k
asking shape call calm words i stage k = absurd k

-- ---- a step of a run

module _ (plan : Plan) (start : Contents) (first schedule : List ℕ) (p : ℕ) (s t : State)
    (run : IsRun plan start first (schedule ++ p ∷ []) t)
    (v : plan.variant ≡ Optimistic) (e : Rattle.art_core.specs.Runs.Gives plan (opened_on plan first) schedule s) where
  abbrev shape : Shape
  shape = plan.shape

  abbrev calm : List ℕ
  calm = calm_of plan first schedule

  abbrev after : List ℕ
  after = calm_of plan first (schedule ++ p ∷ [])

  past : IsRun plan start first schedule s
  past = run-begins plan start first schedule (p ∷ []) s t run e

  moves : step plan s p ≡ Some t
  moves = last-step plan (opened_on plan first) s t schedule p e run.gives

  made : Rattle.art_schedules.proofs.calm.InductionLemmas.IsStep Optimistic plan s p t
  made = step-of-run Optimistic (inr refl) plan start first schedule p s t past v moves

  change : CalmStep Optimistic shape s p t calm after
  change = subst (λ x. CalmStep x shape s p t calm after) v (step-at plan start first schedule p s t run (inr v) e)

  was-calm : IsCalm Optimistic shape first s calm
  was-calm = subst (λ x. IsCalm x shape first s calm) v (calm-at plan start first schedule s past (inr v))

  is-calm : IsCalm Optimistic shape first t after
  is-calm = subst (λ x. IsCalm x shape first t after) v (calm-at plan start first (schedule ++ p ∷ []) t run (inr v))

  agrees : Agrees shape s.words calm
  agrees = calm-agrees plan start first schedule s past v

  -- where the call stores nothing, and no word before the rows changes, calm is the same
  calm-same : (call : Call) (q : Process) → IsOpen s p call q
      → ((word value : ℕ) (mark : Option Point)
      → call_turn (setting shape Optimistic call) (stage_of Optimistic shape call q) ≡ Asks (Store word value) mark → ⊥)
      → ((word : ℕ) → word < 5 → slice_index t.words word ≡ slice_index s.words word) → after ≡ calm
  calm-same call q its none low = same_number_lists after calm (is-calm.long ∙ sym was-calm.long) (λ k less. elim (cases_lt k 5) [
    | inl small ↦ is-calm.low k small ∙ (low k small ∙ sym (was-calm.low k small))
    | inr high ↦ without-store Optimistic shape made.count s made.before p t calm after change call q its none k high
  ])

  keeps : (n : ℕ) → IsAtRest shape n calm → after ≡ calm → KeepsTree shape calm after
  keeps n rest is = subst (KeepsTree shape calm) (sym is) (record {
    long = refl;
    small = rest.small;
    claims = λ kind. omega arith;
    same = λ base kind reached j low high. refl;
    unlocked = rest.unlocked;
    live = rest.live;
    fresh = rest.fresh;
  })

  module _ (call : Call) (stage : Stage) (at : IsAtStage Optimistic shape s p call (OnKey stage)) where
    abbrev c : Setting
    c = setting shape Optimistic call

    settled : KnowsKey (IsSettled Optimistic shape s) c stage
    settled = subst (λ x. Knows (IsSettled Optimistic shape s) c x) at.at (made.before.knows p call at.process at.is_open)

    rows : KnowsKey (RowsOf shape) c stage
    rows = knows-more (IsSettled Optimistic shape s) (RowsOf shape) c (λ b k x. settled-row Optimistic shape s b k x) (OnKey stage) settled

    its-turn : (a : Access) (mark : Option Point) → turn_at c stage ≡ Asks a mark
        → call_turn c (stage_of Optimistic shape call at.process) ≡ Asks a mark
    its-turn a mark turn = ap (call_turn c) at.at ∙ turn

    gets : (a : Access) (mark : Option Point) → turn_at c stage ≡ Asks a mark → Gets c s.words stage (got_by a s.words)
    gets a mark turn b l other = ap (λ x. got_by x s.words) (asks-same (sym turn ∙ other))

    -- a load changes nothing
    record Unchanged (a : Access) : Type 0 where
      made_access : Made shape s p t call stage a
      words : t.words ≡ s.words
      calm_is : after ≡ calm

    loads : (word : ℕ) (mark : Option Point) → turn_at c stage ≡ Asks (Load word) mark → Unchanged (Load word)
    loads word mark turn = record {
      made_access = x;
      words = same;
      calm_is = calm-same call at.process at.is_open (λ w u l f. load-store (sym (its-turn (Load word) mark turn) ∙ f))
          (λ w small. ap (λ l. slice_index l w) same);
    }
      where
        x : Made shape s p t call stage (Load word)
        x = makes plan s t p call stage (Load word) mark v moves at turn

        same : t.words ≡ s.words
        same = x.words ∙ set-get_or s.words word 0

    abbrev steps-on : (a : Access) → Made shape s p t call stage a → KeepsTree shape calm after → StepsOn plan first schedule p t call
    steps-on a x k = record { next = stage_after c stage (got_by a s.words); at = x.at; keeps = k }

    -- ---- where the call has found nothing yet

    module _ (tree : is_tree_call call ≡ true) (key-call : is_scan call ≡ false) (n : ℕ) (m : Contents) (rest : IsAtRest shape n calm)
        (means : Means shape calm m) (k : KnowsWay c calm s.words None stage) (ways : WaysLeadToValues) (leaves : LeavesAreSmall) where
      abbrev To : Stage → Type 0
      To next = Goes c after t.words m next

      abbrev Result : Type 0
      Result = (x : StepsOn plan first schedule p t call) × To x.next

      pure : (a : Access) (mark : Option Point) → turn_at c stage ≡ Asks a mark
          → Goes c calm s.words m (stage_after c stage (got_by a s.words))
      pure a mark turn = ways-go-on ways leaves shape call n calm s.words m stage (got_by a s.words) tree key-call rest means agrees rows k
          (gets a mark turn)

      same-goes : (a : Access) → Made shape s p t call stage a → t.words ≡ s.words → after ≡ calm
          → Goes c calm s.words m (stage_after c stage (got_by a s.words))
          → Result
      same-goes a x w is g = (
        steps-on a x (keeps n rest is),
        subst (λ l. Goes c after l m (stage_after c stage (got_by a s.words))) (sym w)
            (subst (λ l. Goes c l s.words m (stage_after c stage (got_by a s.words))) (sym is) g),
      )

      loaded : (word : ℕ) (mark : Option Point) → turn_at c stage ≡ Asks (Load word) mark → Result
      loaded word mark turn =
          let u = loads word mark turn in
          same-goes (Load word) u.made_access u.words u.calm_is (pure (Load word) mark turn)

      -- a row is taken
      module _ (x : Taking) (is : stage ≡ Take x) where
        turn : turn_at c stage ≡ Asks (Swap x.row.base x.row.kept (locked_word x.row.kept))
            (Some (Rattle.art_rows.specs.Rows.lock_point shape x.row.base))
        turn = ap (turn_at c) is

        abbrev value : ℕ
        value = slice_index s.words x.row.base

        did : Made shape s p t call stage (Swap x.row.base x.row.kept (locked_word x.row.kept))
        did = makes plan s t p call stage _ _ v moves at turn

        words-if : Bool → List ℕ
        words-if b = slice_set s.words x.row.base (if b then locked_word x.row.kept else value)

        kept-rows : Each (IsKept false (IsSettled Optimistic shape s)) (x.row ∷ (all_of x.held ++ all_of x.below))
        kept-rows = subst (λ y. Each (IsKept false (IsSettled Optimistic shape s)) (rows_kept false (is_insert call) y)) is settled.kept

        past-rows : Each (IsPast s.words) (x.row ∷ (all_of x.held ++ all_of x.below))
        past-rows = subst (λ y. Each (IsPast s.words) (rows_kept false (is_insert call) y)) is k.kept

        own-rows : Each (IsHeldReached shape calm s.words) (all_of x.held)
        own-rows = subst (λ y. Each (IsHeldReached shape calm s.words) (held_at_stage false (is_insert call) y)) is k.rows

        knows-taking : KnowsTaking c calm s.words x
        knows-taking = subst (λ y. KnowsStage (is_insert call) c calm s.words y) is k.way

        fits : FitsTaking x.row x.held x.below x.work
        fits = (subst (λ y. FitsStage false (is_insert call) c y) is settled.fits).1

        row-at : kind_at shape x.row.base ≡ Some x.row.kind
        row-at = settled-row Optimistic shape s x.row.base x.row.kind kept-rows.0.1

        high : 5 ≤ x.row.base
        high = row_begins shape x.row.base x.row.kind row-at

        other-word : (word : ℕ) → word ≢ x.row.base → slice_index t.words word ≡ slice_index s.words word
        other-word word d = ap (λ l. slice_index l word) did.words ∙ index-other s.words x.row.base _ word d

        calm-is : after ≡ calm
        calm-is = calm-same call at.process at.is_open (λ w u l f. exchange-store (sym (its-turn _ _ turn) ∙ f))
            (λ w small. other-word w (λ f. omega (arith, f, small, high)))

        -- the row's version was not the kept one
        unchanged : (value == x.row.kept) ≡ false → t.words ≡ s.words
        unfolding words-if
        unchanged f = did.words ∙ (ap words-if f ∙ set-get_or s.words x.row.base 0)

        -- the row's version was the kept one
        module _ (st : value ≡ x.row.kept) where
          locked : slice_index t.words x.row.base ≡ locked_word x.row.kept
          unfolding words-if
          locked =
              ap (λ l. slice_index l x.row.base) (did.words ∙ ap words-if (eq-eqb value x.row.kept st))
              ∙ stored-at s.words x.row.base (locked_word x.row.kept)
              (omega (arith, row_ends shape x.row.base x.row.kind row-at, made.before.long, some-words x.row.kind))

          free : is_busy x.row.kept ≡ false
          free = unmarked-free x.row.kept kept-rows.0.0

          row-own : IsHeldReached shape calm s.words x.row
          row-own = (
            (λ j low less. sym (agrees.free x.row.base x.row.kind row-at (ap is_busy st ∙ free) (x.row.base + j) (omega arith)
                (omega (arith, less)))),
            knows-taking.0 st,
          )

          own-moves : (h : HeldRow) → kind_at shape h.base ≡ Some h.kind → IsHeldReached shape calm s.words h
              → IsHeldReached shape after t.words h
          own-moves h there own = (
            (λ j low less.
                other-word (h.base + j) (λ f. not-behind shape x.row.base h.base (h.base + j) x.row.kind h.kind row-at there (
                  omega (arith, low),
                  omega
                      (arith, less),
                ) (sym f))
                ∙ (own.0 j low less ∙ ap (λ l. slice_index l (h.base + j)) (sym calm-is))),
            subst (λ l. Reached shape l h.base h.kind) (sym calm-is) own.1,
          )

          held-own : (held under : Option HeldRow) → Each (IsKept false (IsSettled Optimistic shape s)) (x.row ∷ (all_of held ++ all_of under))
              → Each (IsHeldReached shape calm s.words) (all_of held) → Each (IsHeldReached shape after t.words) (all_of held)
          held-own None under kept own = tt
          held-own (Some a) under kept own = (own-moves a (settled-row Optimistic shape s a.base a.kind kept.1.0.1) own.0, tt)

          back : (b : HeldRow) → IsKept false (IsSettled Optimistic shape s) b → IsCurrent t.words b → IsCurrent s.words b
          back b kept stb = elim (cases_eq b.base x.row.base) [
            | inl f ↦
                let one : locked_word x.row.kept ≡ b.kept = sym locked ∙ (ap (slice_index t.words) (sym f) ∙ stb) in
                absurd (omega (arith, one, kept.0, kept-rows.0.0))
            | inr d ↦ sym (other-word b.base d) ∙ stb
          ]

          more : x.row.kept ≤ slice_index t.words x.row.base
          more = omega (arith, locked, st, made.before.versions x.row.base x.row.kind row-at, made.few)

          past-then : (b : HeldRow) → IsPast s.words b → IsPast t.words b
          past-then b was = elim (cases_eq b.base x.row.base) [
            | inl f ↦
                let one = ap (slice_index s.words) f in
                let two = ap (slice_index t.words) f in
                omega (arith, was, one, two, st, more)
            | inr d ↦ omega (arith, was, other-word b.base d)
          ]

          taken : (held under : Option HeldRow) (w : Work) → Each (IsReachedHere c calm s.words) (all_of under) → (AllStand s.words x.row under
              → BeginsWork c calm (hold_taken x.row held under) w)
              → Each (IsKept false (IsSettled Optimistic shape s)) (x.row ∷ (all_of held ++ all_of under))
              → Each (IsPast s.words) (x.row ∷ (all_of held ++ all_of under))
              → Each (IsHeldReached shape calm s.words) (all_of held) → FitsTaking x.row held under w → To (taken_at c held under w x.row)
          taken held None w reach know kept were own fit = Works (record { row = x.row; above = held }) w refl
              (subst (λ l. BeginsWork c l (record { row = x.row; above = held }) w) (sym calm-is) (know st))
              (own-moves x.row row-at row-own, held-own held None kept own)
          taken None (Some b) w reach know kept were own fit = GoesOn (record {
            way = (
              (λ stb. subst (λ l. Reached shape l b.base b.kind) (sym calm-is) (reach.0 (back b kept.1.0 stb))),
              tt,
              (λ stb. subst (λ l. BeginsWork c l (record { row = b; above = Some x.row }) w) (sym calm-is)
                  (know (st, back b kept.1.0 stb))),
            );
            kept = (past-then b were.1.0, (past-then x.row were.0, tt));
            rows = (own-moves x.row row-at row-own, tt);
          })
          taken (Some a) (Some b) w reach know kept were own fit = absurd fit

          succeeds : Result
          succeeds = (
            steps-on _ did (keeps n rest calm-is),
            subst (λ y. To (stage_after c y value)) (sym is)
                (subst (λ b. To (if b then taken_at c x.held x.below x.work x.row else release_at false x.held None))
                (sym (eq-eqb value x.row.kept st))
                (taken x.held x.below x.work knows-taking.1 knows-taking.2 kept-rows past-rows own-rows fits)),
          )

        takes : Result
        takes = elim (cases_eq value x.row.kept) [
          | inl st ↦ succeeds st
          | inr d ↦ same-goes _ did (unchanged (ne_eqb value x.row.kept d)) calm-is (pure _ _ turn)
        ]

      -- a row that was taken is given back
      module _ (h : Hold) (is : stage ≡ Unlock h None) (none : h.above ≡ None) where
        let-go : turn_at c stage ≡ Asks (Store h.row.base (released_word h.row.kept)) (Some point.Unlock)
        let-go = ap (turn_at c) is

        did-go : Made shape s p t call stage (Store h.row.base (released_word h.row.kept))
        did-go = makes plan s t p call stage _ _ v moves at let-go

        kept-row : IsKept false (IsSettled Optimistic shape s) h.row
        kept-row = (subst (λ y. Each (IsKept false (IsSettled Optimistic shape s)) (rows_kept false (is_insert call) y)) is settled.kept).0

        own-row : IsHeldReached shape calm s.words h.row
        own-row = (subst (λ y. Each (IsHeldReached shape calm s.words) (held_at_stage false (is_insert call) y)) is k.rows).0

        here : kind_at shape h.row.base ≡ Some h.row.kind
        here = settled-row Optimistic shape s h.row.base h.row.kind kept-row.1

        version : slice_index t.words h.row.base ≡ released_word h.row.kept
        version = ap (λ l. slice_index l h.row.base) did-go.words
            ∙ stored-at s.words h.row.base (released_word h.row.kept)
            (omega (arith, row_ends shape h.row.base h.row.kind here, made.before.long, some-words h.row.kind))

        no-lock : is_locked (released_word h.row.kept) ≡ false
        no-lock = released-free h.row.kept (version-free false h.row.kept kept-row.0)

        alive : is_obsolete (released_word h.row.kept) ≡ false
        alive = obsolete_released h.row.kept ∙ (free-parts h.row.kept (unmarked-free h.row.kept kept-row.0)).1

        calm-row : (word : ℕ) → h.row.base ≤ word → word < h.row.base + row_words h.row.kind
            → slice_index after word ≡ slice_index t.words word
        calm-row word low less =
            is-calm.free h.row.base h.row.kind here (ap is_busy version ∙ free-busy (released_word h.row.kept) no-lock alive) word low less

        row-same : SameRow calm after h.row.base h.row.kind
        row-same j low less =
            calm-row (h.row.base + j) (omega arith) (omega (arith, less))
            ∙ (ap (λ l. slice_index l (h.row.base + j)) did-go.words
            ∙ (index-other s.words h.row.base (released_word h.row.kept) (h.row.base + j) (λ f. omega (arith, f, low))
            ∙ own-row.0 j low less))

        among : IsAmong (lock_of h.row) (held_by Optimistic shape call at.process)
        among = subst (λ y. IsAmong (lock_of h.row) (holds c y)) (sym at.at)
            (subst (λ y. IsAmong (lock_of h.row) (holds c (OnKey y))) (sym is) (inl refl))

        others : (b : ℕ) (kind : Kind) (j : ℕ) → kind_at shape b ≡ Some kind → b ≢ h.row.base → j < row_words kind
            → slice_index after (b + j) ≡ slice_index calm (b + j)
        others b kind j there d less =
            with-released Optimistic shape made.count s made.before p t calm after change call at.process at.is_open h.row.base
            (released_word h.row.kept) (Some point.Unlock)
            (its-turn _ _ let-go) (lock_of h.row) among refl (b + j) (omega (arith, row_begins shape b kind there))
            (outside (b + j) (omega arith)
            (omega (arith, less)))
          where
            outside : (word : ℕ) → b ≤ word → word < b + row_words kind → IsOutside h.row.base h.row.kind word
            outside word low high = elim (cases_lt word h.row.base) [
              | inl f ↦ inl f
              | inr f ↦ elim (cases_lt word (h.row.base + row_words h.row.kind)) [
                | inl g ↦ absurd (d (rows_apart shape b h.row.base kind h.row.kind word there here low high (omega (arith, f)) g).0)
                | inr g ↦ inr (omega (arith, g))
              ]
            ]

        reached-at : (b : ℕ) (kind : Kind) → Reached shape calm b kind → kind_at shape b ≡ Some kind
        reached-at b kind reached = settled-row Optimistic shape s b kind (was-calm.reached b kind reached)

        low-same : (word : ℕ) → word < 5 → slice_index after word ≡ slice_index calm word
        low-same word small =
            is-calm.low word small ∙ (ap (λ l. slice_index l word) did-go.words
            ∙ (index-other s.words h.row.base (released_word h.row.kept) word
            (λ f. omega (arith, f, small, row_begins shape h.row.base h.row.kind here))
            ∙ sym (was-calm.low word small)))

        same-tree : (b : ℕ) (kind : Kind) → Reached shape calm b kind → SameRow calm after b kind
        same-tree b kind reached = elim (cases_eq b h.row.base) [
          | inl f ↦
              let kinds = same_Some h.row.kind kind (sym here ∙ (ap (kind_at shape) (sym f) ∙ reached-at b kind reached)) in
              subst (λ y. SameRow calm after y kind) (sym f) (subst (λ y. SameRow calm after h.row.base y) kinds row-same)
          | inr d ↦ λ j low less. others b kind j (reached-at b kind reached) d less
        ]

        live : (b : ℕ) (kind : Kind) → Reached shape calm b kind → is_obsolete (slice_index after b) ≡ false
        live b kind reached = elim (cases_eq b h.row.base) [
          | inl f ↦ ap (λ w. is_obsolete (slice_index after w)) f
              ∙ (ap is_obsolete (calm-row h.row.base (omega arith) (omega (arith, some-words h.row.kind)) ∙ version) ∙ alive)
          | inr d ↦
              let zero-more : b + 0 ≡ b = omega arith in
              let same = others b kind 0 (reached-at b kind reached) d (omega (arith, some-words kind)) in
              ap (λ w. is_obsolete (slice_index after w)) (sym zero-more)
              ∙ (ap is_obsolete same ∙ (ap (λ w. is_obsolete (slice_index calm w)) zero-more ∙ rest.live b kind reached))
        ]

        gives-back : Result
        gives-back = (
          steps-on _ did-go (record {
            long = is-calm.long ∙ sym was-calm.long;
            small = is-calm.small;
            claims = λ kind. omega (arith, low-same (claims_of kind) (claims-few kind));
            same = same-tree;
            unlocked = is-calm.unlocked;
            live = live;
            fresh = is-calm.fresh;
          }),
          subst (λ y. To (stage_after c y 0)) (sym is) (subst (λ a. To (release_at false a None)) (sym none) (GoesOn
              (record { way = tt; kept = tt; rows = tt }))),
        )

      goes : Result
      goes = go (asking shape call calm s.words (is_insert call) stage k.way)
        where
          go : Asking c stage → Result
          go (AsksLoad word mark turn) = loaded word mark turn
          go (AsksTake x is) = takes x is
          go (GivesRow h is none) = gives-back h is none

pub own-steps-go-on : WaysLeadToValues → LeavesAreSmall → OwnStepsGoOn
own-steps-go-on ways leaves plan start words schedule p s t h v call stage at tree key-call n m rest means k =
    goes plan start words schedule p s t h.behind v h.before.gives call stage at tree key-call n m rest means k ways leaves

pub own-findings-stay : OwnFindingsStay
own-findings-stay plan start words schedule p s t h v call stage at a mark turn n rest r k = go stage refl
  where
    c : Setting
    c = setting plan.shape Optimistic call

    Both : List ℕ → List ℕ → Stage → Type 0
    Both calm now next = KnowsWay c calm now (Some r) next ⊎ KnowsWay c calm now None next

    Result : Type 0
    Result = (x : StepsOn plan words schedule p t call) × Both (calm_of plan words (schedule ++ p ∷ [])) t.words x.next

    loaded : (word : ℕ) (m : Option Point) → turn_at c stage ≡ Asks (Load word) m → Result
    loaded word m f =
        let u = loads plan start words schedule p s t h.behind v h.before.gives call stage at word m f in
        let x = findings-stay plan.shape call (calm_of plan words schedule) s.words stage (slice_index s.words word) r k
        (gets plan start words schedule p s t h.behind v h.before.gives call stage at (Load word) m f) in (
          steps-on plan start words schedule p s t h.behind v h.before.gives call stage at (Load word) u.made_access
              (keeps plan start words schedule p s t h.behind v h.before.gives n rest u.calm_is),
          subst (λ l. Both (calm_of plan words (schedule ++ p ∷ [])) l (stage_after c stage (slice_index s.words word))) (sym u.words)
              (subst (λ l. Both l s.words (stage_after c stage (slice_index s.words word))) (sym u.calm_is) x),
        )

    answers : {r : Reply} {a : Access} {m : Option Point} → Answers r ≡ Asks a m → ⊥
    answers f = cc

    none : (x : Stage) → stage ≡ x → (KnowsReply r (is_insert call) c s.words x → ⊥) → Result
    none x is f = absurd (f (subst (λ y. KnowsReply r (is_insert call) c s.words y) is k.way))

    go : (x : Stage) → stage ≡ x → Result
    go (Info d was) is = loaded _ _ (ap (turn_at c) is)
    go (CheckLast h) is = loaded _ _ (ap (turn_at c) is)
    go (Over outcome) is = absurd (answers (sym (ap (turn_at c) is) ∙ turn))
    go x is = none x is (λ f. absurd f)
