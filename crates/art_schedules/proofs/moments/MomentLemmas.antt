-- If an answered scan was validated, its words are those of one moment; so are those that an
-- answered get read of its last row.
use Rattle.art_schedules.proofs.Common.{◌≡◌, ℕ, zero, suc, ◌+◌, ◌-◌, ◌^◌, ◌<◌, ◌≤◌, List, [], ◌∷◌, ◌++◌, length, take, refl, ap, sym, subst, ◌∙◌}
use Rattle.art_schedules.proofs.words.TableLemmas.{rows_apart}
use Rattle.art_schedules.proofs.Common.{inl, inr, arith, false, slice_get, slice_index, Some, cases_lt, length-append, same_Some, none-some}
use Rattle.art_schedules.proofs.Common.{take-length, Call, Get, Scan, Reply, Contents, Kind, row_words, is_locked, some-words}
use Rattle.art_schedules.proofs.Common.{Optimistic, Load, Asks, Answers, act, asks-same, scan_start, scan_turn, call_turn, call_after_words, Process}
use Rattle.art_schedules.proofs.Common.{Plan, State, opened_on, begun, run_on, At, IsRun, HasGot, BeginsAttempt, Enters, run-steps, Knows}
use Rattle.art_schedules.proofs.Common.{optimistic, IsSettled, IsSound, IsSteady, SameWords, GotAt, IsValidated, IsCheckedGet}
use Rattle.std.proofs.lemmas.List.{length-take}
use Rattle.art_rows.proofs.TurnLemmas.{answers-of}
use Rattle.art_core.specs.Core.{known_reply}
use Rattle.art_core.specs.Claims.{ScanHasMoment}
use Rattle.art_core.specs.Meaning.{row_in}
use Rattle.art_core.specs.Moments.{Reads, Checks, IsOfEnteredRow, StandsFrom, HasMoment}
use Rattle.art_schedules.proofs.versions.MoveLemmas.{settled-row}
use Rattle.art_schedules.proofs.versions.StepLemmas.{one-step, next-turn}
use Rattle.art_schedules.proofs.versions.RunLemmas.{StartsSound, start-sound, steady-refl, steady-trans}
use Rattle.art_schedules.proofs.versions.SettledLemmas.{loads-known}
use Rattle.art_schedules.specs.moments.LastRows.{HasMomentOfLastRow, GetsHaveOneMoment}
use Rattle.art_schedules.proofs.moments.TimeLemmas.{at-before, was-got, ordered}
use Rattle.art_schedules.proofs.moments.AttemptLemmas.{stage}
use Rattle.art_schedules.proofs.moments.ScanLemmas.{all-fold, AllStand}
use Rattle.art_schedules.proofs.moments.ValidLemmas.{validated}
use Rattle.art_schedules.proofs.moments.AloneLemmas.{answers-alone}
use Rattle.art_schedules.proofs.moments.SeekLemmas.{stage as get-stage, entering}
use Rattle.art_schedules.proofs.moments.GetLemmas.{Checking, checked, to-load}
use Rattle.art_schedules.proofs.moments.RowLemmas.{part-same, taken-within}

pub take-behind : (xs ys : List ℕ) (i : ℕ) → take (length xs + i) (xs ++ ys) ≡ xs ++ take i ys
take-behind [] ys i = ap (λ k. take k ys) (omega arith)
take-behind (x ∷ xs) ys i = ap (λ k. take k (x ∷ (xs ++ ys))) (plus (length xs)) ∙ ap (λ zs. x ∷ zs) (take-behind xs ys i)
  where
    plus : (n : ℕ) → suc n + i ≡ suc (n + i)
    plus n = omega arith

pub index-behind : (xs ys : List ℕ) (i : ℕ) → slice_index (xs ++ ys) (length xs + i) ≡ slice_index ys i
index-behind [] ys i = ap (slice_index ys) (omega arith)
index-behind (x ∷ xs) ys i = ap (slice_index (x ∷ (xs ++ ys))) (plus (length xs)) ∙ index-behind xs ys i
  where
    plus : (n : ℕ) → suc n + i ≡ suc (n + i)
    plus n = omega arith

module _ (plan : Plan) (start : Contents) (words schedule : List ℕ) (s : State) (run : IsRun plan start words schedule s)
    (v : plan.variant ≡ Optimistic) where
  abbrev first : State
  first = opened_on plan words

  pub begun-sound : StartsSound Optimistic plan words
  begun-sound = start-sound Optimistic (inr refl) plan start words v run.within.shape.root run.starts

  few : begun-sound.steps + length schedule < 2 ^ 62
  few = omega (arith, begun-sound.few, run-steps plan schedule first s run.gives, run.few_steps)

  pub sound-time : (t : ℕ) → t ≤ length schedule → (a : State) → At plan first schedule t a
      → IsSound Optimistic plan.shape (begun-sound.steps + t) a
  sound-time zero l a h = subst (λ n. IsSound Optimistic plan.shape n a) (omega arith)
      (subst (IsSound Optimistic plan.shape begun-sound.steps) (same_Some first a h) begun-sound.sound)
  sound-time (suc t) l a h =
      let b = at-before plan first schedule t a (omega (arith, l)) h in
      subst (λ n. IsSound Optimistic plan.shape n a) (omega arith)
      (one-step Optimistic (inr refl) plan v run.within.shape.root (begun-sound.steps + t) (omega (arith, few, l)) b.state
      (sound-time t (omega (arith, l)) b.state b.at) b.turn a b.is).0

  steady-time : (d t : ℕ) → t + d ≤ length schedule → (a b : State) → At plan first schedule t a → At plan first schedule (t + d) b
      → IsSteady Optimistic plan.shape a b
  steady-time zero t l a b ha hb =
      subst (IsSteady Optimistic plan.shape a)
      (same_Some a b (sym ha ∙ subst (λ k. run_on plan (Some first) (take k schedule) ≡ Some b) (zero-more t) hb))
      (steady-refl Optimistic plan.shape a)
    where
      zero-more : (n : ℕ) → n + zero ≡ n
      zero-more n = omega arith
  steady-time (suc d) t l a b ha hb =
      let m = at-before plan first schedule (t + d) b (omega (arith, l))
      (subst (λ k. run_on plan (Some first) (take k schedule) ≡ Some b) (more t) hb) in
      steady-trans Optimistic plan.shape a m.state b (steady-time d t (omega (arith, l)) a m.state ha m.at)
      (one-step Optimistic (inr refl) plan v run.within.shape.root (begun-sound.steps + (t + d)) (omega (arith, few, l)) m.state
      (sound-time (t + d) (omega (arith, l)) m.state m.at) m.turn b m.is).1
    where
      more : (n : ℕ) → n + suc d ≡ suc (n + d)
      more n = omega arith

  -- from each moment to a later one
  pub steady-at : (t u : ℕ) → t ≤ u → u ≤ length schedule → (a b : State) → At plan first schedule t a → At plan first schedule u b
      → IsSteady Optimistic plan.shape a b
  steady-at t u le l a b ha hb =
      steady-time (u - t) t (omega (arith, le, l)) a b ha
      (subst (λ k. run_on plan (Some first) (take k schedule) ≡ Some b) (rest t u le) hb)
    where
      rest : (t u : ℕ) → t ≤ u → u ≡ t + (u - t)
      rest t u le = omega (arith, le)

  -- an open call, and the words that its answering attempt got
  record InCall (p : ℕ) (q : Process) (call : Call) (earlier attempt : List ℕ) : Type 0 where
    own : slice_get s.processes p ≡ Some q
    is_open : q.call ≡ Some call
    all : q.got ≡ earlier ++ attempt
    begins : BeginsAttempt plan call earlier

  module _ (p : ℕ) (q : Process) (call : Call) (earlier attempt : List ℕ) (its : InCall p q call earlier attempt) where
    abbrev le : ℕ
    le = length earlier

    long : length q.got ≡ le + length attempt
    long = ap (λ l. length l) its.all ∙ length-append earlier attempt

    -- when the i-th word of the attempt was got
    got-at : (i : ℕ) → i < length attempt → GotAt plan first schedule (length schedule) p q call (le + i)
    got-at i less = was-got plan words schedule p (length schedule) (omega arith) s (ap (run_on plan (Some first)) (take-length schedule)
        ∙ run.gives) q its.own call
        its.is_open (le + i) (omega (arith, long, less))

    words-of : (i : ℕ) → take (le + i) q.got ≡ earlier ++ take i attempt
    words-of i = ap (take (le + i)) its.all ∙ take-behind earlier attempt i

    value-of : (i word : ℕ) (r : Reads plan call attempt i word) → slice_index (got-at i r.made).state.words word ≡ slice_index attempt i
    value-of i word r =
        let g = got-at i r.made in
        let asks : Asks g.access g.mark ≡ Asks (Load word) r.mark =
        sym g.asks ∙ (ap (act plan.shape plan.variant call) (words-of i) ∙ (its.begins (take i attempt) ∙ r.load)) in
        let told-is = subst (λ a. slice_index q.got (le + i) ≡ Rattle.art_core.specs.Accesses.told a
        (slice_index g.state.words (Rattle.art_rows.specs.Fits.word_of a))) (asks-same asks) g.is in
        sym told-is ∙ (ap (λ l. slice_index l (le + i)) its.all ∙ index-behind earlier attempt i)

    has-got : (i : ℕ) (less : i < length attempt) → HasGot (length (begun q)) (le + i) (got-at i less).state p
    has-got i less =
        let g = got-at i less in
        record {
          process = g.process;
          own = g.own;
          in_call = g.same_call;
          call = call;
          is_open = g.is_open;
          count = ap (λ l. length l) (g.got ∙ words-of i) ∙ (length-append earlier (take i attempt)
              ∙ omega (arith, length-take i attempt, less));
        }

    -- who has more words of the call is later
    later-is : (n m u w : ℕ) (a b : State) → u ≤ length schedule → w ≤ length schedule → At plan first schedule u a
        → At plan first schedule w b
        → HasGot (length (begun q)) n a p → HasGot (length (begun q)) m b p → m < n → w < u
    later-is n m u w a b = ordered plan first schedule p (length (begun q)) n m u w a b

    unlocked : (i base : ℕ) (kind : Kind) → Enters plan call attempt i base kind → is_locked (slice_index attempt i) ≡ false
    unlocked i base kind e = elim e.reads.settled [
      | inl none ↦ absurd (none-some kind (sym none ∙ e.row))
      | inr free ↦ free
    ]

    -- A row that was settled when it was entered, up to a check that found the same version.
    module _ (i j base : ℕ) (kind : Kind) (e : Enters plan call attempt i base kind) (k : Checks plan call attempt j base)
        (same : slice_index attempt j ≡ slice_index attempt i)
        (settled : IsSettled Optimistic plan.shape (got-at i e.reads.made).state base kind) where
      abbrev entry : GotAt plan first schedule (length schedule) p q call (le + i)
      entry = got-at i e.reads.made

      abbrev check : GotAt plan first schedule (length schedule) p q call (le + j)
      check = got-at j k.reads.made

      -- between the two it has the version of the entry
      record Stays (t : ℕ) (now : State) : Type 0 where
        behind : entry.u ≤ t
        before : t ≤ check.u
        steady : IsSteady Optimistic plan.shape entry.state now
        version : slice_index now.words base ≡ slice_index attempt i
        same_row : SameWords entry.state.words now.words base kind
        free : is_locked (slice_index now.words base) ≡ false
        long : length entry.state.words ≡ length now.words

      stays-at : (t : ℕ) (now : State) → entry.u ≤ t → t ≤ check.u → At plan first schedule t now → Stays t now
      stays-at t now behind before at =
          let l : t ≤ length schedule = omega (arith, before, check.before) in
          let to-t = steady-at entry.u t behind l entry.state now entry.at at in
          let to-g = steady-at t check.u before (omega (arith, check.before)) now check.state at check.at in
          let at-entry = value-of i base e.reads in
          let at-check = value-of j base k.reads in
          let version : slice_index now.words base ≡ slice_index attempt i =
          omega (arith, to-t.rises base kind settled, to-g.rises base kind (to-t.settled base kind settled), at-entry, at-check, same) in
          record {
            behind = behind;
            before = before;
            steady = to-t;
            version = version;
            same_row = to-t.stands base kind settled (version ∙ sym at-entry) (ap is_locked at-entry ∙ unlocked i base kind e);
            free = ap is_locked version ∙ unlocked i base kind e;
            long = (sound-time entry.u (omega (arith, entry.before)) entry.state entry.at).long ∙ sym (sound-time t l now at).long;
          }

      stays : (t n : ℕ) (now : State) → t ≤ length schedule → At plan first schedule t now → HasGot (length (begun q)) (le + n) now p
          → i < n → n ≤ j → Stays t now
      stays t n now l at within more most =
          let e-t = later-is (le + n) (le + i) t entry.u now entry.state l (omega (arith, entry.before)) at entry.at within
          (has-got i e.reads.made) (omega (arith, more)) in
          let t-g = later-is (suc (le + j)) (le + n) (suc check.u) t check.after now (omega (arith, check.before)) l check.at_after at
          check.got_it within (omega (arith, most)) in
          stays-at t now (omega (arith, e-t)) (omega (arith, t-g)) at

      row-stays : (t u : ℕ) (a b : State) → Stays t a → Stays u b → row_in b.words base kind ≡ row_in a.words base kind
      row-stays t u a b ha hb = part-same base (row_words kind) b.words a.words (sym hb.long ∙ ha.long)
          (λ word low high. hb.same_row word low high ∙ sym (ha.same_row word low high))

      -- what was read of the row in that time is present
      present : (t n : ℕ) (now : State) → t ≤ length schedule → At plan first schedule t now
          → HasGot (length (begun q)) (le + n) now p → i < n → n ≤ j
          → (m word : ℕ) → Reads plan call attempt m word → i ≤ m → m ≤ j → base ≤ word → word < base + row_words kind
          → slice_index now.words word ≡ slice_index attempt m
      present t n now l at within more most m word r late soon low high =
          let g = got-at m r.made in
          let e-g = later-is (suc (le + m)) (le + i) (suc g.u) entry.u g.after entry.state (omega (arith, g.before))
          (omega (arith, entry.before)) g.at_after entry.at
          g.got_it (has-got i e.reads.made) (omega (arith, late)) in
          let g-j = later-is (suc (le + j)) (le + m) (suc check.u) g.u check.after g.state (omega (arith, check.before))
          (omega (arith, g.before)) check.at_after g.at
          check.got_it (has-got m r.made) (omega (arith, soon)) in
          let back = stays-at g.u g.state (omega (arith, e-g)) (omega (arith, g-j)) g.at in
          let here = stays t n now l at within more most in
          here.same_row word low high ∙ (sym (back.same_row word low high) ∙ value-of m word r)

      -- the row does not change in that time
      still : (t n : ℕ) (now : State) → t ≤ length schedule → At plan first schedule t now
          → HasGot (length (begun q)) (le + n) now p → i < n → n ≤ j
          → StandsFrom plan first schedule p (length (begun q)) le i j base kind (row_in now.words base kind)
      still t n now l at within more most u m a at-u there some-more some-most =
          let bound = taken-within u schedule in
          let at-bound : At plan first schedule bound.length' a = ap (run_on plan (Some first)) (sym bound.same) ∙ at-u in
          let here = stays t n now l at within more most in
          let later = stays bound.length' m a bound.most at-bound there some-more some-most in
          (row-stays t bound.length' now a here later, later.free)

  -- Scans.

  module _ (p lo hi : ℕ) (q : Process) (own : slice_get s.processes p ≡ Some q) (is-open : q.call ≡ Some (Scan lo hi))
      (x : IsValidated plan (Scan lo hi) q.got)
      (stands : AllStand plan.shape run.within.shape.root lo hi x.attempt) (reply : Reply)
      (answers : act plan.shape plan.variant (Scan lo hi) q.got ≡ Answers reply) where
    abbrev scan : Call
    scan = Scan lo hi

    in-scan : InCall p q scan x.earlier x.attempt
    in-scan = record { own = own; is_open = is-open; all = x.all; begins = x.begins }

    abbrev scanned : (i : ℕ) → i < length x.attempt → GotAt plan first schedule (length schedule) p q scan (length x.earlier + i)
    scanned i less = got-at p q scan x.earlier x.attempt in-scan i less

    -- the row that an entry loads the version of is settled then
    scan-settled : (i base : ℕ) (kind : Kind) (e : Enters plan scan x.attempt i base kind)
        → IsSettled Optimistic plan.shape (scanned i e.reads.made).state base kind
    scan-settled i base kind e =
        let g = scanned i e.reads.made in
        let sound = sound-time g.u (omega (arith, g.before)) g.state g.at in
        let known = sound.knows p scan g.process (record { own = g.own; is_open = g.is_open }) in
        let fold = all-fold plan.shape run.within.shape.root lo hi (scan_start (optimistic plan.shape scan)) g.process.got in
        let knows = subst (Knows (IsSettled Optimistic plan.shape g.state) (optimistic plan.shape scan)) fold known in
        let turn : scan_turn (optimistic plan.shape scan) (stage plan.shape lo hi g.process.got) ≡ Asks (Load base) e.reads.mark =
        sym (ap (call_turn (optimistic plan.shape scan)) fold) ∙ (sym (next-turn Optimistic plan.shape scan g.process)
        ∙ (ap (λ y. act plan.shape y scan g.process.got) (sym v)
        ∙ (ap (act plan.shape plan.variant scan) (g.got ∙ words-of p q scan x.earlier x.attempt in-scan i)
        ∙ (x.begins (take i x.attempt) ∙ e.reads.load)))) in
        let in-it = loads-known plan.shape scan (IsSettled Optimistic plan.shape g.state) sound.root (stage plan.shape lo hi g.process.got)
        knows base e.reads.mark turn
        e.no_check in
        let same = rows_apart plan.shape in-it.base base in-it.kind kind base
        (settled-row Optimistic plan.shape g.state in-it.base in-it.kind in-it.known) e.row in-it.from
        in-it.below (omega arith) (omega (arith, some-words kind)) in
        subst (λ k. IsSettled Optimistic plan.shape g.state base k) same.1
        (subst (λ b. IsSettled Optimistic plan.shape g.state b in-it.kind) same.0 in-it.known)

    -- the row that has the word at which an attempt enters one is that row
    entered-row : (i base : ℕ) (kind : Kind) (e : Enters plan scan x.attempt i base kind) → ((x.reads i base e.reads).base ≡ base)
        × ((x.reads i base e.reads).kind ≡ kind)
    entered-row i base kind e =
        let row = x.reads i base e.reads in
        rows_apart plan.shape row.base base row.kind kind base row.enters.row e.row row.from row.below (omega arith)
        (omega (arith, some-words kind))

    has-check : (i base : ℕ) (kind : Kind) → Enters plan scan x.attempt i base kind → (j : ℕ) × Checks plan scan x.attempt j base
    has-check i base kind e =
        let row = x.reads i base e.reads in
        (row.check, subst (λ b. Checks plan scan x.attempt row.check b) (entered-row i base kind e).0 row.checks)

    has-entry : (i word : ℕ) → Reads plan scan x.attempt i word → IsOfEnteredRow plan scan x.attempt i word
    has-entry i word r =
        let row = x.reads i word r in
        record {
          base = row.base;
          kind = row.kind;
          entry = row.entry;
          enters = row.enters;
          by_then = row.by_then;
          from =
              row.from;
          below = row.below;
        }

    before-checks : (i base : ℕ) (kind : Kind) → Enters plan scan x.attempt i base kind → i < x.m
    before-checks i base kind e = elim (x.parts i base e.reads) [
      | inl h ↦ h.0
      | inr h ↦ absurd (e.no_check h.1)
    ]

    behind-walk : (j base : ℕ) → Checks plan scan x.attempt j base → x.m ≤ j
    behind-walk j base k = elim (x.parts j base k.reads) [
      | inl h ↦ absurd (h.1 k.check)
      | inr h ↦ h.0
    ]

    -- after the walk, before the checks
    moment-of-scan : HasMoment plan first schedule p (length (begun q)) scan q.got reply
    moment-of-scan = elim (cases_lt x.m (length x.attempt)) [
      | inl less ↦
          let g = scanned x.m less in
          moment g.u g.state (omega (arith, g.before)) g.at (has-got p q scan x.earlier x.attempt in-scan x.m less)
      | inr more ↦ moment (length schedule) s (omega arith) (ap (run_on plan (Some first)) (take-length schedule) ∙ run.gives)
          (record {
            process = q;
            own = own;
            in_call = refl;
            call = scan;
            is_open = is-open;
            count = omega (arith, long p q scan x.earlier x.attempt in-scan, more, x.most);
          })
    ]
      where
        moment : (t : ℕ) (now : State) → t ≤ length schedule → At plan first schedule t now
            → HasGot (length (begun q)) (length x.earlier + x.m) now p
            → HasMoment plan first schedule p (length (begun q)) scan q.got reply
        moment t now l at within = record {
          earlier = x.earlier;
          attempt = x.attempt;
          all = x.all;
          begins = x.begins;
          t = t;
          now = now;
          at = at;
          n = x.m;
          within = within;
          holds = holds;
          entered = has-entry;
          checked = has-check;
          still = stands-still;
          answers = answers-alone plan lo hi v run.within.shape.root x.attempt now.words stands holds reply
              (sym (x.begins x.attempt) ∙ (ap (act plan.shape plan.variant scan) (sym x.all) ∙ answers));
        }
          where
            holds : (i word : ℕ) → Reads plan scan x.attempt i word → slice_index now.words word ≡ slice_index x.attempt i
            holds i word r =
                let row = x.reads i word r in
                present p q scan x.earlier x.attempt in-scan row.entry row.check row.base row.kind row.enters row.checks row.same
                (scan-settled row.entry row.base row.kind row.enters) t x.m now l at within row.before row.behind i word r row.by_then
                row.no_sooner row.from row.below

            stands-still : (i j base : ℕ) (kind : Kind) → Enters plan scan x.attempt i base kind → Checks plan scan x.attempt j base
                → (i < x.m) × (x.m ≤ j) × StandsFrom plan first schedule p (length (begun q)) (length x.earlier) i j base kind
                (row_in now.words base kind)
            stands-still i j base kind e k =
                let same : slice_index x.attempt j ≡ slice_index x.attempt i = sym (holds j base k.reads) ∙ holds i base e.reads in
                let early = before-checks i base kind e in
                let late = behind-walk j base k in (
                  early,
                  late,
                  still p q scan x.earlier x.attempt in-scan i j base kind e k same (scan-settled i base kind e) t x.m now l at
                      within early late,
                )

  -- Gets.

  module _ (p key : ℕ) (q : Process) (own : slice_get s.processes p ≡ Some q) (is-open : q.call ≡ Some (Get key)) (reply : Reply)
      (h : Checking plan key v run.within.shape.root q.got reply) where
    abbrev get : Call
    get = Get key

    abbrev x : IsCheckedGet plan key q.got reply
    x = h.is

    in-get : InCall p q get x.earlier x.attempt
    in-get = record { own = own; is_open = is-open; all = x.all; begins = x.begins }

    abbrev gotten : (i : ℕ) → i < length x.attempt → GotAt plan first schedule (length schedule) p q get (length x.earlier + i)
    gotten i less = got-at p q get x.earlier x.attempt in-get i less

    get-settled : (i base : ℕ) (kind : Kind) (e : Enters plan get x.attempt i base kind)
        → IsSettled Optimistic plan.shape (gotten i e.reads.made).state base kind
    get-settled i base kind e =
        let g = gotten i e.reads.made in
        let sound = sound-time g.u (omega (arith, g.before)) g.state g.at in
        let known = sound.knows p get g.process (record { own = g.own; is_open = g.is_open }) in
        let here = ap (call_after_words (optimistic plan.shape get)) (g.got ∙ words-of p q get x.earlier x.attempt in-get i)
        ∙ h.stages (take i x.attempt) in
        entering plan.shape run.within.shape.root key (take i x.attempt)
        (get-stage plan.shape run.within.shape.root key (take i x.attempt)) base kind e.reads.mark
        (h.seeks i (omega (arith, e.reads.made))) (to-load plan key v run.within.shape.root x.attempt i base e.reads).turn e.no_check e.row
        (IsSettled Optimistic plan.shape g.state) sound.root
        (subst (Knows (IsSettled Optimistic plan.shape g.state) (optimistic plan.shape get)) here known)

    -- when its last row is checked
    moment-of-get : HasMomentOfLastRow plan first schedule p (length (begun q)) key q.got reply
    moment-of-get =
        let less = x.checks.reads.made in
        let g = gotten x.check less in
        let l : g.u ≤ length schedule = omega (arith, g.before) in
        let within = has-got p q get x.earlier x.attempt in-get x.check less in
        let settled = get-settled x.entry x.base x.kind x.enters in
        let holds : (i word : ℕ) → Reads plan get x.attempt i word → x.entry ≤ i → x.base ≤ word → word < x.base + row_words x.kind
        → slice_index g.state.words word ≡ slice_index x.attempt i =
        λ i word r late low high.
        present p q get x.earlier x.attempt in-get x.entry x.check x.base x.kind x.enters x.checks x.same settled g.u x.check g.state l
        g.at within x.behind (omega arith)
        i word r late (x.final i word r) low high in
        record {
          earlier = x.earlier;
          attempt = x.attempt;
          all = x.all;
          begins = x.begins;
          base = x.base;
          kind = x.kind;
          entry = x.entry;
          enters = x.enters;
          last = x.last;
          check = x.check;
          checks = x.checks;
          final = x.final;
          t = g.u;
          now = g.state;
          at = g.at;
          n = x.check;
          within = within;
          entered = x.behind;
          unchecked = omega arith;
          holds = holds;
          still = still p q get x.earlier x.attempt in-get x.entry x.check x.base x.kind x.enters x.checks x.same settled g.u x.check
              g.state l g.at within x.behind
              (omega arith);
          info = x.info;
          goes_by = x.goes_by;
          replies = x.replies g.state.words (λ i word r late low high. holds i word r late (omega (arith, low)) high);
        }

pub scan-has-moment : ScanHasMoment
scan-has-moment plan start words schedule s p low high q reply run v own is known unrefused =
    let answers = answers-of (act plan.shape plan.variant (Scan low high) q.got) reply (sym (ap (known_reply plan q.got) is) ∙ known) in
    let valid = validated plan low high v run.within.shape.root q.got reply answers in
    moment-of-scan plan start words schedule s run v p low high q own is valid.is valid.stands reply answers

pub get-has-moment : GetsHaveOneMoment
get-has-moment plan start words schedule s p key q reply run v own is known =
    let answers = answers-of (act plan.shape plan.variant (Get key) q.got) reply (sym (ap (known_reply plan q.got) is) ∙ known) in
    moment-of-get plan start words schedule s run v p key q own is reply (checked plan key v run.within.shape.root q.got reply answers)
