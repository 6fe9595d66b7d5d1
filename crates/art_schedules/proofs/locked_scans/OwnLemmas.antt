-- A step of a scan, in a run.
use Rattle.art_schedules.proofs.Common.{◌≡◌, ◌≢◌, inl, inr, ℕ, ◌+◌, ◌<◌, ◌≤◌, List, [], ◌∷◌, ◌++◌, length, refl, sym, ap, ◌∙◌, subst, Bool, true}
use Rattle.art_schedules.proofs.alone.AloneLemmas.{load-same}
use Rattle.art_schedules.proofs.words.TableLemmas.{rows_apart}
use Rattle.art_schedules.proofs.words.VersionLemmas.{taken-locked}
use Rattle.art_schedules.proofs.writes.StoreLemmas.{stored-at}
use Rattle.art_schedules.proofs.Common.{false, eqb-true, arith, Option, Some, None, false≢true, Call, Scan, Reply, Contents, Shape, Kind, Four}
use Rattle.art_schedules.proofs.Common.{Sixteen, FortyEight, Full, kind_at, row_words, is_locked, is_obsolete, locked_word, released_word}
use Rattle.art_schedules.proofs.Common.{some-words, Coupled, Access, Load, Store, Swap, Point, Asks, word_of, Setting, load-store}
use Rattle.art_schedules.proofs.Common.{load-add, store-word, asks-answers, load-word, load-exchange, exchange-store, exchange-word}
use Rattle.art_schedules.proofs.Common.{exchanges-same, HeldRow, Entry, ScanStep, FirstKeys, SecondKeys, Index, LoadChild, Release, setting, Walk}
use Rattle.art_schedules.proofs.Common.{ScanAt, at, scan_turn, scan_after, step_after, entry_base, entry_at, keys_turn, release_rows, CallAt}
use Rattle.art_schedules.proofs.Common.{OnScan, call_turn, call_after, call_begun, told, words_after, Plan, State, SameRow}
use Rattle.art_schedules.proofs.Common.{Each, Knows, holds, fills, IsKept, lock_of, locks_of, IsAmong, IsWith, Reads, Writes, Ends}
use Rattle.art_schedules.proofs.Common.{AccessDoes, Answered, Claims, IsAtStage, IsSettled, Releases, Takes, filled_by, held_by}
use Rattle.art_schedules.proofs.versions.KnownLemmas.{among-each}
use Rattle.art_schedules.proofs.Common.{KeepsTree, calm_of, is_busy}
use Rattle.art_schedules.proofs.versions.KnownLemmas.{each-among, held-is-kept}
use Rattle.art_schedules.proofs.versions.MoveLemmas.{no-items, settled-row}
use Rattle.art_schedules.proofs.versions.WithLemmas.{with-here}
use Rattle.art_schedules.proofs.versions.WordFacts.{version-free}
use Rattle.art_schedules.proofs.Common.{TouchesOwn, LoadsHeld, StoresOwn, ClaimsRow, ReleasesHeld, Replies, IsHeldWord, ReadsHeld, is_lock}
use Rattle.art_schedules.proofs.Common.{RowsOf, TakesLive, IsCoupledStep, IsOfRows, Alone, SameOn, IsOver, unwaited, HasWalked, ScanGoes}
use Rattle.art_schedules.proofs.Common.{ScanStays, rows_of_scan, FoundScansStay, IsHeldLive}
use Rattle.std.proofs.Common.{◌==◌, slice_index, if◌then◌else◌}
use Rattle.events.specs.declared.event.Reply.TheVariants as reply
use Rattle.art_rows.specs.declared.access.Point.TheVariants as point
use Rattle.art_rows.proofs.TurnLemmas.{exchange-add}
use Rattle.art_control_states.specs.declared.stage.ScanStep.TheVariants.{Lock, Exchange, Wait, Info, Keys, Over}
use Rattle.art_schedules.specs.versions.Effects.{Fills}
use Rattle.art_schedules.proofs.versions.ScanLemmas.{coupled-scan-does}
use Rattle.art_schedules.proofs.versions.WithLemmas.{with-more, with-split}
use Rattle.art_schedules.proofs.calm.VersionLemmas.{free-busy}
use Rattle.art_schedules.proofs.changes.RowLemmas.{steady-row}
use Rattle.art_schedules.proofs.work.OwnLemmas.{rows-known}
use Rattle.art_schedules.proofs.work.LockedLemmas.{locked-own}
use Rattle.art_schedules.proofs.work.WalkLemmas.{reads-held}
use Rattle.art_schedules.proofs.coupled.MadeLemmas.{Facts, facts, IsMade, made}
use Rattle.art_schedules.proofs.coupled.RowLemmas.{kept-row, own-same, keeps-without, keeps-released}
use Rattle.art_schedules.proofs.coupled.StayLemmas.{own-still}
use Rattle.art_schedules.specs.locked_scans.Walking.{HasPairsFound}
use Rattle.art_schedules.specs.locked_scans.Laws.{ScansGoOn}
use Rattle.art_schedules.proofs.locked_scans.AloneLemmas.{failed-keeps, alone-more, alone-outside, follows}
use Rattle.art_schedules.proofs.locked_scans.PlainLemmas.{IsRead, plain-unwaited, entered, reads-plain}
use Rattle.art_schedules.proofs.locked_scans.RunLemmas.{rows-own, carry, calm-on}
use Rattle.art_schedules.proofs.coupled.MoveLemmas.{row-inside}

module _ (shape : Shape) (low high : ℕ) where
  abbrev c : Setting
  c = setting shape Coupled (Scan low high)

  abbrev begun : CallAt
  begun = call_begun c

  abbrev Walked : List ℕ → List ℕ → ScanAt → Type 0
  Walked calm words x = HasWalked shape low high calm words x

  abbrev rows : ScanAt → List HeldRow
  rows x = rows_of_scan shape low high x

  -- what a scan has walked, by the rows that it holds
  build : (calm words now : List ℕ) (x : ScanAt) (all : List HeldRow) → rows x ≡ all → unwaited x ≡ x
      → Alone c all begun calm (OnScan low high x) now
      → length words ≡ length now → SameOn all now words → Each (IsHeldLive calm words) all → Walked calm words x
  build calm words now x all e plain alone long same own = record {
    now = now;
    alone = subst (λ hs. Alone c hs begun calm (OnScan low high (unwaited x)) now) (sym e)
        (subst (λ y. Alone c all begun calm (OnScan low high y) now) (sym plain) alone);
    long = long;
    same = subst (λ hs. SameOn hs now words) (sym e) same;
    own = subst (Each (IsHeldLive calm words)) (sym e) own;
  }

  -- a stage at which a row is read
  keys-load : (kind : Kind) (n : HeldRow) → (word : ℕ) × (mark : Option Point) × (keys_turn kind n ≡ Asks (Load word) mark)
  keys-load Four n = (_, _, refl)
  keys-load Sixteen n = (_, _, refl)
  keys-load FortyEight n = (_, _, refl)
  keys-load Full n = (_, _, refl)

  reads-load : (step : ScanStep) (w : Walk) → IsRead step → (word : ℕ) × (mark : Option Point)
      × (scan_turn c (at step w) ≡ Asks (Load word) mark)
  reads-load (Info base kind kept) w k = (_, _, refl)
  reads-load (Keys n) w k = keys-load n.kind n
  reads-load (FirstKeys n count) w k = (_, _, refl)
  reads-load (SecondKeys n count first) w k = (_, _, refl)
  reads-load (Index n j m) w k = (_, _, refl)
  reads-load (LoadChild f slot) w k = (_, _, refl)
  reads-load step w k = absurd k

  reads-free : (step : ScanStep) (w : Walk) → IsRead step → is_lock (OnScan low high (at step w)) ≡ false
  reads-free (Info base kind kept) w k = refl
  reads-free (Keys n) w k = refl
  reads-free (FirstKeys n count) w k = refl
  reads-free (SecondKeys n count first) w k = refl
  reads-free (Index n j m) w k = refl
  reads-free (LoadChild f slot) w k = refl
  reads-free step w k = absurd k

  reads-unwaited : (step : ScanStep) (w : Walk) → IsRead step → unwaited (at step w) ≡ at step w
  reads-unwaited (Info base kind kept) w k = refl
  reads-unwaited (Keys n) w k = refl
  reads-unwaited (FirstKeys n count) w k = refl
  reads-unwaited (SecondKeys n count first) w k = refl
  reads-unwaited (Index n j m) w k = refl
  reads-unwaited (LoadChild f slot) w k = refl
  reads-unwaited step w k = absurd k

module _ (plan : Plan) (start : Contents) (words schedule : List ℕ) (p : ℕ) (s t : State) (claims : ℕ) (m : Contents) (low high : ℕ)
    (h : IsCoupledStep plan start words schedule p s t claims m) where
  abbrev shape : Shape
  shape = plan.shape

  abbrev calm : List ℕ
  calm = calm_of plan words schedule

  abbrev after : List ℕ
  after = calm_of plan words (schedule ++ p ∷ [])

  abbrev its : Setting
  its = setting plan.shape Coupled (Scan low high)

  abbrev call : Call
  call = Scan low high

  f : Facts shape s t p words calm after
  f = facts plan start words schedule p s t claims m h

  abbrev Settled : ℕ → Kind → Type 0
  Settled = IsSettled Coupled shape s

  module _ (step : ScanStep) (w : Walk) (here : IsAtStage Coupled shape s p (Scan low high) (OnScan low high (at step w))) where
    abbrev x : ScanAt
    x = at step w

    abbrev mine : List HeldRow
    mine = rows_of_scan shape low high x

    knows : Knows Settled its (OnScan low high x)
    knows = subst (Knows Settled its) here.at (f.sound.knows p call here.process here.is_open)

    does : AccessDoes Settled its (OnScan low high x)
    does = coupled-scan-does shape call Settled (λ b k e. settled-row Coupled shape s b k e) f.sound.root low high x knows

    -- the rows that it holds
    among-here : (y : HeldRow) → IsAmong y mine → IsAmong y (held_by Coupled shape call here.process)
    among-here y a = subst (λ z. IsAmong y (holds its z)) (sym here.at) a

    row-of : (y : HeldRow) → IsAmong y mine → kind_at shape y.base ≡ Some y.kind
    row-of y a = settled-row Coupled shape s y.base y.kind (kept-row shape s t p words calm after f p call here.process here.is_open
        y (among-here y a))

    locked-of : (y : HeldRow) → IsAmong y mine → is_locked (slice_index s.words y.base) ≡ true
    locked-of y a =
        let kept = held-is-kept Settled its (OnScan low high x) knows y a in
        ap is_locked (f.sound.locked p call here.process here.is_open y (among-here y a))
        ∙ taken-locked y.kept (version-free true y.kept kept.0)

    no-filling : (b : ℕ) (k : Kind) → filled_by Coupled shape call here.process ≡ (b, k) ∷ [] → ⊥
    no-filling b k e = no-items (sym (ap fills here.at) ∙ e)

    module _ (a : Access) (mark : Option Point) (turn : scan_turn its x ≡ Asks a mark) where
      abbrev got : ℕ
      got = told a (slice_index s.words (word_of a))

      abbrev next : ScanAt
      next = scan_after its low high x got

      access : IsMade shape s t p call here.process a
      access = made plan p s t call here.process a mark h.coupled h.run.made here.is_open (ap (call_turn its) here.at ∙ turn)

      pub behind-at : IsAtStage Coupled shape t p (Scan low high) (OnScan low high next)
      behind-at = record { process = access.process; is_open = access.is_open; at = access.at ∙ ap (λ z. call_after its z got) here.at }

      -- calm has the same words of the rows that it holds after the step
      pub next-on : SameOn (rows_of_scan shape low high next) calm after
      next-on = subst (λ z. SameOn (holds its z) calm after) behind-at.at
          (calm-on shape s t p words calm after f p call behind-at.process behind-at.is_open)

      -- what it has walked on the calm of before it has walked on that of after it
      carried : HasWalked shape low high calm t.words next → HasWalked shape low high after t.words next
      carried k = carry shape low high calm after t.words t.words next (f.then.long ∙ sym f.before.long) refl next-on (λ word of. refl) k

      words-same : ((word value : ℕ) (l : Option Point) → Asks a mark ≡ Asks (Store word value) l → (y : HeldRow) × IsAmong y mine
          × (word ≡ y.base))
          → (base : ℕ) (kind : Kind) → kind_at shape base ≡ Some kind → SameRow s.words t.words base kind
      words-same stores = own-same shape s t p words calm after f call here.process here.is_open no-filling
          (λ word value l e.
          let y = stores word value l (sym turn ∙ (sym (ap (call_turn its) here.at) ∙ e)) in
          (y.0, among-here y.0 y.1, y.2))

      keeps : ((word value : ℕ) (l : Option Point) → Asks a mark ≡ Asks (Store word value) l → ⊥) → KeepsTree shape calm after
      keeps none = keeps-without shape s t p words calm after f call here.process here.is_open claims h.rests f.then.small
          (λ word value l e. none word value l (sym turn ∙ (sym (ap (call_turn its) here.at) ∙ e)))

      goes : ((word value : ℕ) (l : Option Point) → Asks a mark ≡ Asks (Store word value) l → ⊥)
          → HasWalked shape low high calm t.words next
          → ScanGoes shape low high t p calm after
      goes none k = record { next = next; at = behind-at; keeps = keeps none; walked = carried k }

      -- ---- a word of a row that it holds is read

      module _ (word : ℕ) (load : a ≡ Load word) (read : IsRead step) (some : 1 ≤ shape.rows256) where
        turns : scan_turn its x ≡ Asks (Load word) mark
        turns = turn ∙ ap (λ b. Asks b mark) load

        pub held-word : IsHeldWord its (OnScan low high x) word
        held-word = go (locked-own shape call some (OnScan low high x)
            (subst (Knows (RowsOf shape) its) here.at (rows-known Coupled shape f.count s p call here.process f.sound here.is_open))
            (subst ReadsHeld here.at (reads-held shape call here.process.got)) (reads-free shape low high step w read))
          where
            go : TouchesOwn its (OnScan low high x) → IsHeldWord its (OnScan low high x) word
            go (LoadsHeld other l e own) = subst (IsHeldWord its (OnScan low high x)) (load-word (sym e ∙ turns)) own
            go (StoresOwn other v l e own) = absurd (load-store (sym turns ∙ e))
            go (ClaimsRow k l e may) = absurd (load-add (sym turns ∙ e))
            go (ReleasesHeld row v l e among may) = absurd (load-store (sym turns ∙ e))
            go (Replies r e) = absurd (asks-answers (sym turns ∙ e))

        -- it holds the same rows after the step
        held-same : rows_of_scan shape low high next ≡ mine
        held-same = go does
          where
            go : AccessDoes Settled its (OnScan low high x) → rows_of_scan shape low high next ≡ mine
            go (Reads other l e has) =
                let is : other ≡ word = load-word (sym e ∙ turns) in
                let value : slice_index s.words other ≡ got = ap (slice_index s.words) is
                ∙ sym (ap (λ b. told b (slice_index s.words (word_of b))) load) in
                subst (λ v. holds its (call_after its (OnScan low high x) v) ≡ holds its (OnScan low high x)) value
                (has (slice_index s.words other) (f.sound.children other)).1
            go (Writes y other v l e among kept behind good has) = absurd (load-store (sym turns ∙ e))
            go (Fills b k other v l e filled behind sits good has) = absurd (load-store (sym turns ∙ e))
            go (Ends b k other v l e filled behind sits good has) = absurd (load-store (sym turns ∙ e))
            go (Releases y rest v l e with none says kept has) = absurd (load-store (sym turns ∙ e))
            go (Takes y all l e with none kept on off) = absurd (load-exchange (sym turns ∙ e))
            go (Claims k l e none less past) = absurd (load-add (sym turns ∙ e))
            go (Answered r e none) = absurd (asks-answers (sym turns ∙ e))

        reads : HasWalked shape low high calm s.words x → ScanGoes shape low high t p calm after
        reads k =
            let of : IsOfRows mine (word_of a) =
            subst (IsOfRows mine) (sym (ap word_of load))
            (held-word.row, held-word.among, omega (arith, held-word.behind.0), held-word.behind.1) in
            let alone = subst (λ y. Alone its mine (call_begun its) calm (OnScan low high y) k.now)
            (reads-unwaited shape low high step w read) k.alone in
            let y = follows its (call_begun its) calm mine s.words a mark alone k.long k.same turn of in
            let same : t.words ≡ s.words = access.words ∙ (ap (λ b. words_after b s.words) load ∙ load-same word s.words) in
            goes (λ other v l e. load-store (ap (λ b. Asks b mark) (sym load) ∙ e))
            (build shape low high calm t.words (words_after a k.now) next mine held-same
            (plain-unwaited next (reads-plain shape low high step w got read))
            y.0 (ap length access.words ∙ y.2) (subst (SameOn mine (words_after a k.now)) (sym access.words) y.1)
            (subst (λ ws. Each (IsHeldLive calm ws) mine) (sym same) k.own))

  -- ---- waiting at a lock

  module _ (entry : Entry) (w : Walk) where
    -- what has been walked stays when the lock is tried again
    waits : (words : List ℕ) (first later : Bool) → HasWalked shape low high calm words (at (Lock entry first) w)
        → HasWalked shape low high calm words (at (Lock entry later) w)
    waits words first later k = record { now = k.now; alone = k.alone; long = k.long; same = k.same; own = k.own }

    swaps : (words : List ℕ) (first : Bool) (v : ℕ) → HasWalked shape low high calm words (at (Lock entry first) w)
        → HasWalked shape low high calm words (at (Exchange entry v) w)
    swaps words first v k = record { now = k.now; alone = k.alone; long = k.long; same = k.same; own = k.own }

    again : (words : List ℕ) (v : ℕ) → HasWalked shape low high calm words (at (Exchange entry v) w)
        → HasWalked shape low high calm words (at (Lock entry false) w)
    again words v k = record { now = k.now; alone = k.alone; long = k.long; same = k.same; own = k.own }

    locks-go : (first : Bool) (mark : Option Point) → scan_turn its (at (Lock entry first) w) ≡ Asks (Load (entry_base its entry)) mark
        → IsAtStage Coupled shape s p (Scan low high) (OnScan low high (at (Lock entry first) w))
        → HasWalked shape low high calm s.words (at (Lock entry first) w)
        → ScanGoes shape low high t p calm after
    locks-go first mark turn here k =
        let a = Load (entry_base its entry) in
        let made = access (Lock entry first) w here a mark turn in
        goes (Lock entry first) w here a mark turn (λ other v l e. load-store e)
        (subst (λ ws. HasWalked shape low high calm ws
        (step_after its low high (Lock entry first) w (slice_index s.words (entry_base its entry))))
        (sym (made.words ∙ load-same (entry_base its entry) s.words)) (go (is_locked (slice_index s.words (entry_base its entry)))))
      where
        go : (b : Bool) → HasWalked shape low high calm s.words
            (if b then at (Lock entry false) w else at (Exchange entry (slice_index s.words (entry_base its entry))) w)
        go true = waits s.words first false k
        go false = swaps s.words first _ k

    -- ---- a row is taken

    module _ (v : ℕ) (here : IsAtStage Coupled shape s p (Scan low high) (OnScan low high (at (Exchange entry v) w)))
        (k : HasWalked shape low high calm s.words (at (Exchange entry v) w))
        (live : TakesLive shape s p) where
      abbrev base : ℕ
      base = entry_base its entry

      abbrev swap : Access
      swap = Swap base v (locked_word v)

      abbrev old : List HeldRow
      old = rows_of_scan shape low high (at (Exchange entry v) w)

      swapped : IsMade shape s t p call here.process swap
      swapped = access (Exchange entry v) w here swap None refl

      fails : (slice_index s.words base == v) ≡ false → HasWalked shape low high calm t.words
          (if slice_index s.words base == v then entry_at its low high entry w v else at (Lock entry false) w)
      fails e = subst (λ b. HasWalked shape low high calm t.words (if b then entry_at its low high entry w v else at
          (Lock entry false) w)) (sym e)
          (subst (λ ws. HasWalked shape low high calm ws (at (Lock entry false) w))
          (sym (swapped.words ∙ failed-keeps base v (locked_word v) s.words e))
          (again s.words v k))

      module _ (got : (slice_index s.words base == v) ≡ true) where
        is : slice_index s.words base ≡ v
        is = eqb-true (slice_index s.words base) v got

        -- the stage after it
        abbrev last : ScanAt
        last = entry_at its low high entry w v

        to-last : (if slice_index s.words base == v then last else at (Lock entry false) w) ≡ last
        to-last = ap (λ b. if b then last else at (Lock entry false) w) got

        module _ (y : HeldRow) (all : List HeldRow) (based : y.base ≡ base) (version : y.kept ≡ v) (with : IsWith y old all)
            (kept : IsKept true Settled y) where
          row : kind_at shape y.base ≡ Some y.kind
          row = settled-row Coupled shape s y.base y.kind kept.1

          at-version : slice_index s.words y.base ≡ y.kept
          at-version = ap (slice_index s.words) based ∙ (is ∙ sym version)

          not-locked : is_locked v ≡ false
          not-locked = ap is_locked (sym version) ∙ kept.0

          alive : is_obsolete y.kept ≡ false
          alive = live y (record {
            call = call;
            process = here.process;
            is_open = here.is_open;
            mark = None;
            turn = ap (call_turn its) here.at
                ∙ (ap (λ b. Asks (Swap b v (locked_word v)) None) (sym based)
                ∙ ap (λ u. Asks (Swap y.base u (locked_word u)) None) (sym version));
          }) at-version

          free : is_busy (slice_index s.words y.base) ≡ false
          free = ap is_busy at-version ∙ free-busy y.kept kept.0 alive

          -- no row that it holds is this one
          apart : (z : HeldRow) → IsAmong z old → z.base ≢ y.base
          apart z a e =
              false≢true (sym kept.0 ∙ (ap is_locked (sym at-version) ∙ (ap (λ b. is_locked (slice_index s.words b)) (sym e)
              ∙ locked-of (Exchange entry v) w here z a)))

          outside : (word : ℕ) → y.base ≤ word → word < y.base + row_words y.kind → IsOfRows old word → ⊥
          outside word from to (z, a, low-end, high-end) =
              apart z a (rows_apart shape z.base y.base z.kind y.kind word (row-of (Exchange entry v) w here z a) row low-end
              high-end from to).0

          -- alone on calm the row has the words of the run
          same-now : SameOn all k.now s.words
          same-now word (z, a, from, to) = elim (with-split y old all z with a) [
            | inl e ↦
                let low-end : y.base ≤ word = subst (λ u. u.base ≤ word) e from in
                let high-end : word < y.base + row_words y.kind = subst (λ u. word < u.base + row_words u.kind) e to in
                sym (alone-outside its (call_begun its) calm old word (outside word low-end high-end) k.alone
                ∙ f.before.free y.base y.kind row free word low-end high-end)
            | inr b ↦ k.same word (z, b, from, to)
          ]

          of-all : IsOfRows all base
          of-all = (y, with-here y old all with, omega (arith, based), omega (arith, based, some-words y.kind))

          more : Alone its all (call_begun its) calm (OnScan low high (at (Lock entry true) w)) k.now
          more = alone-more its (call_begun its) calm old all (λ word o. (o.0, with-more y old all o.0 with o.1, o.2, o.3)) k.alone

          loaded : Alone its all (call_begun its) calm (OnScan low high (at (Exchange entry v) w)) (words_after (Load base) k.now)
              × SameOn all (words_after (Load base) k.now) s.words × (length s.words ≡ length (words_after (Load base) k.now))
          loaded =
              let z = follows its (call_begun its) calm all s.words (Load base) _ more k.long same-now refl of-all in (
                subst (λ u. Alone its all (call_begun its) calm (OnScan low high u) (words_after (Load base) k.now))
                    (ap (λ u. if is_locked u then at (Lock entry false) w else at (Exchange entry u) w) is
                    ∙ ap (λ b. if b then at (Lock entry false) w else at (Exchange entry v) w) not-locked) z.0,
                subst (SameOn all (words_after (Load base) k.now)) (load-same base s.words) z.1,
                sym (ap length (load-same base s.words)) ∙ z.2,
              )

          own-then : Each (IsHeldLive calm t.words) all
          own-then = each-among (IsHeldLive calm t.words) all (λ z a. elim (with-split y old all z with a) [
            | inl e ↦ subst (IsHeldLive calm t.words) (sym e) (record {
              same = λ j low-end high-end. stay y row j low-end high-end
                  ∙ sym (steady-row s.words calm y.base y.kind (f.before.free y.base y.kind row free) j low-end high-end);
              live = alive;
            })
            | inr b ↦ own-still calm s.words calm t.words z (λ j low-end high-end. refl) (stay z (row-of (Exchange entry v) w here z b))
                (among-each (IsHeldLive calm s.words) z old b k.own)
          ])
            where
              stay : (z : HeldRow) → kind_at shape z.base ≡ Some z.kind → SameRow s.words t.words z.base z.kind
              stay z e = words-same (Exchange entry v) w here swap None refl (λ word value l f. absurd (exchange-store f)) z.base z.kind e

          taken : rows_of_scan shape low high last ≡ all → HasWalked shape low high calm t.words last
          taken holding =
              let z = follows its (call_begun its) calm all s.words swap None loaded.0 loaded.2 loaded.1 refl of-all in
              build shape low high calm t.words (words_after swap (words_after (Load base) k.now)) last all holding
              (plain-unwaited last (entered shape low high entry w v))
              (subst (λ u. Alone its all (call_begun its) calm (OnScan low high u)
              (words_after swap (words_after (Load base) k.now))) to-last z.0)
              (ap length swapped.words ∙ z.2) (subst (SameOn all (words_after swap (words_after (Load base) k.now)))
              (sym swapped.words) z.1) own-then

        takes : HasWalked shape low high calm t.words (if slice_index s.words base == v then last else at (Lock entry false) w)
        takes = subst (HasWalked shape low high calm t.words) (sym to-last) (go (does (Exchange entry v) w here))
          where
            turn : call_turn its (OnScan low high (at (Exchange entry v) w)) ≡ Asks swap None
            turn = refl

            go : AccessDoes Settled its (OnScan low high (at (Exchange entry v) w)) → HasWalked shape low high calm t.words last
            go (Reads other l e has) = absurd (load-exchange (sym e ∙ turn))
            go (Writes y other u l e among kept behind good has) = absurd (exchange-store (sym turn ∙ e))
            go (Fills b k other u l e filled behind sits good has) = absurd (exchange-store (sym turn ∙ e))
            go (Ends b k other u l e filled behind sits good has) = absurd (exchange-store (sym turn ∙ e))
            go (Releases y rest u l e with none says kept has) = absurd (exchange-store (sym turn ∙ e))
            go (Claims k l e none less past) = absurd (exchange-add (sym turn ∙ e))
            go (Answered r e none) = absurd (asks-answers (sym turn ∙ e))
            go (Takes y all l e with none kept on off) =
                let based : y.base ≡ base = sym (exchange-word (sym turn ∙ e)) in
                let version : y.kept ≡ v = sym (exchanges-same (sym turn ∙ e)).1 in
                taken y all based version with kept
                (sym (ap (λ z. rows_of_scan shape low high z) to-last)
                ∙ (ap (λ u. holds its (call_after its (OnScan low high (at (Exchange entry v) w)) u)) (is ∙ sym version)
                ∙ (on (λ z a. apart y all based version with kept z a)).1))

      exchanges : ScanGoes shape low high t p calm after
      exchanges = goes (Exchange entry v) w here swap None refl (λ other u l e. exchange-store e) (go (slice_index s.words base == v) refl)
        where
          go : (b : Bool) → (slice_index s.words base == v) ≡ b → HasWalked shape low high calm t.words
              (if slice_index s.words base == v then entry_at its low high entry w v else at (Lock entry false) w)
          go true e = takes e
          go false e = fails e

  -- ---- the steps

  some-rows : 1 ≤ shape.rows256
  some-rows = h.run.before.within.shape.root

  reads-go : (step : ScanStep) (w : Walk) → IsRead step → IsAtStage Coupled shape s p (Scan low high) (OnScan low high (at step w))
      → HasWalked shape low high calm s.words (at step w)
      → ScanGoes shape low high t p calm after
  reads-go step w read here k =
      let l = reads-load shape low high step w read in
      reads step w here (Load l.0) l.1 l.2 l.0 refl read some-rows k

  pub step-goes : (step : ScanStep) (w : Walk) → TakesLive shape s p
      → IsAtStage Coupled shape s p (Scan low high) (OnScan low high (at step w)) → (IsOver step → ⊥)
      → HasWalked shape low high calm s.words (at step w) → ScanGoes shape low high t p calm after
  step-goes (Lock entry true) w live here unended k = locks-go entry w true _ refl here k
  step-goes (Lock entry false) w live here unended k = locks-go entry w false _ refl here k
  step-goes (Exchange entry v) w live here unended k = exchanges entry w v here k live
  step-goes (Wait entry) w live here unended k = absurd (knows (Wait entry) w here).fits
  step-goes (Info base kind kept) w live here unended k = reads-go (Info base kind kept) w tt here k
  step-goes (Keys n) w live here unended k = reads-go (Keys n) w tt here k
  step-goes (FirstKeys n count) w live here unended k = reads-go (FirstKeys n count) w tt here k
  step-goes (SecondKeys n count first) w live here unended k = reads-go (SecondKeys n count first) w tt here k
  step-goes (Index n j i) w live here unended k = reads-go (Index n j i) w tt here k
  step-goes (LoadChild g slot) w live here unended k = reads-go (LoadChild g slot) w tt here k
  step-goes (Release n) w live here unended k = absurd (unended tt)
  step-goes Over w live here unended k = absurd (unended tt)

  -- ---- rows are released

  is-walked : (hs : List HeldRow) (pairs : List (ℕ × ℕ)) → IsOver (release_rows hs pairs).step
  is-walked [] pairs = tt
  is-walked (y ∷ hs) pairs = tt

  same-pairs : (hs : List HeldRow) (pairs : List (ℕ × ℕ)) → (release_rows hs pairs).walk.pairs ≡ pairs
  same-pairs [] pairs = refl
  same-pairs (y ∷ hs) pairs = refl

  left-rows : (hs : List HeldRow) (pairs : List (ℕ × ℕ)) → rows_of_scan shape low high (release_rows hs pairs) ≡ locks_of hs
  left-rows [] pairs = refl
  left-rows (y ∷ hs) pairs = refl

  pub releases : (n : HeldRow) (w : Walk) (r : Reply) → IsAtStage Coupled shape s p (Scan low high) (OnScan low high (at (Release n) w))
      → HasPairsFound shape low high calm s.words r (at (Release n) w) → ScanStays shape low high t p calm after r
  releases n w r here k = record {
    next = release_rows w.rows w.pairs;
    at = behind-at (Release n) w here (Store n.base (released_word n.kept)) (Some point.Unlock) refl;
    keeps = keeps-released shape s t p words calm after f call here.process here.is_open claims h.rests f.then.small (lock_of n) held-here
        k.own.0
        (stay (lock_of n) row) wrote (Some point.Unlock) (ap (call_turn its) here.at);
    found = record {
      walked = is-walked w.rows w.pairs;
      is = k.is ∙ ap reply.Pairs (sym (same-pairs w.rows w.pairs));
      own = subst (Each (IsHeldLive after t.words)) (sym (left-rows w.rows w.pairs))
          (rows-own calm after s.words t.words (locks_of w.rows) (λ y a. (
            on-calm y a,
            stay y (row-of (Release n) w here y (inr a)),
          )) k.own.1);
    };
  }
    where
      held-here : IsAmong (lock_of n) (held_by Coupled shape call here.process)
      held-here = among-here (Release n) w here (lock_of n) (inl refl)

      row : kind_at shape n.base ≡ Some n.kind
      row = row-of (Release n) w here (lock_of n) (inl refl)

      stay : (y : HeldRow) → kind_at shape y.base ≡ Some y.kind → SameRow s.words t.words y.base y.kind
      stay y e = words-same (Release n) w here (Store n.base (released_word n.kept)) (Some point.Unlock) refl
          (λ word value l g. (lock_of n, inl refl, store-word (sym g))) y.base y.kind e

      wrote : slice_index t.words n.base ≡ released_word n.kept
      wrote = ap (λ ws. slice_index ws n.base)
          (access (Release n) w here (Store n.base (released_word n.kept)) (Some point.Unlock) refl).words
          ∙ stored-at s.words n.base (released_word n.kept) (omega (arith, row-inside shape n.base n.kind row, f.sound.long))

      on-calm : (y : HeldRow) → IsAmong y (locks_of w.rows) → SameRow calm after y.base y.kind
      on-calm y a j from to =
          next-on (Release n) w here (Store n.base (released_word n.kept)) (Some point.Unlock) refl (y.base + j)
          (y, subst (IsAmong y) (sym (left-rows w.rows w.pairs)) a, omega arith, omega (arith, to))

pub scans-go-on : ScansGoOn
scans-go-on plan start words schedule p s t claims m low high x h live here unended k =
    step-goes plan start words schedule p s t claims m low high h x.step x.walk live here unended k

pub found-scans-stay : FoundScansStay
found-scans-stay plan start words schedule p s t claims m low high x r a mark h here k turn = go x.step x.walk here k k.walked turn
  where
    go : (step : ScanStep) (w : Walk) → IsAtStage Coupled plan.shape s p (Scan low high) (OnScan low high (at step w))
        → HasPairsFound plan.shape low high (calm_of plan words schedule) s.words r (at step w) → IsOver step
        → scan_turn (setting plan.shape Coupled (Scan low high)) (at step w) ≡ Asks a mark
        → ScanStays plan.shape low high t p (calm_of plan words schedule) (calm_of plan words (schedule ++ p ∷ [])) r
    go (Release n) w here k walked turn = releases plan start words schedule p s t claims m low high h n w r here k
    go Over w here k walked turn = absurd (asks-answers (sym turn))
    go step w here k walked turn = absurd walked
