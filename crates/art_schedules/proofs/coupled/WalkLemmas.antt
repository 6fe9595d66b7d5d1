-- Scans on their own.
use Rattle.art_schedules.proofs.Common.{◌≡◌, ◌≢◌, ◌⊎◌, inl, inr, ℕ, zero, suc, ◌<◌, ◌≤◌, List, [], ◌∷◌, length, refl, sym, ap, ◌∙◌, subst, arith}
use Rattle.art_schedules.proofs.alone.AloneLemmas.{same-runs}
use Rattle.art_schedules.proofs.writes.StoreLemmas.{stored-at}
use Rattle.art_schedules.proofs.Common.{Access, Coupled, Option, Reply, Scan, Shape, Some, cases_eq, cases_lt, length-set, reply_to}
use Rattle.art_schedules.proofs.versions.ChangeLemmas.{index-other}
use Rattle.art_schedules.proofs.Common.{Store, released_word, Point, Asks, Answers, word_of, Setting, HeldRow, Frame, ScanStep, setting, Walk, at}
use Rattle.art_schedules.proofs.Common.{CallAt, OnScan, rest_at, call_after, call_begun, call_next, changed, told, got_by, words_after}
use Rattle.art_schedules.proofs.Common.{RunsAlone, ends, goes, ScansAreTheMaps, Suits, Alone, SameOn, WalksAreTheMaps}
use Rattle.art_schedules.proofs.Common.{IsOver}
use Rattle.std.proofs.Common.{slice_index, slice_set}
use Rattle.events.specs.declared.event.Reply.TheVariants as reply
use Rattle.art_rows.specs.declared.access.Point.TheVariants as point
use Rattle.art_control_states.specs.declared.stage.ScanStep.TheVariants as scan
use Rattle.art_control_states.proofs.BehindLemmas.{behind}
use Rattle.art_schedules.proofs.work.SoloLemmas.{suits-on, runs-behind}
use Rattle.art_schedules.specs.coupled.Walks.{here, further, WalksStay}

-- ---- on other words

past-set : (xs : List ℕ) (i v : ℕ) → length xs ≤ i → slice_set xs i v ≡ xs
past-set [] i v h = refl
past-set (x ∷ xs) zero v h = absurd (omega (arith, h))
past-set (x ∷ xs) (suc i) v h = ap (λ ys. x ∷ ys) (past-set xs i v (omega (arith, h)))

-- what an access does to one word is by that word alone
pub set-word : (words later : List ℕ) (word v x : ℕ) → length later ≡ length words → slice_index later x ≡ slice_index words x
    → slice_index (slice_set later word v) x ≡ slice_index (slice_set words word v) x
set-word words later word v x long same = go (cases_eq x word) (cases_lt word (length words))
  where
    go : (x ≡ word) ⊎ (x ≢ word) → (word < length words) ⊎ (length words ≤ word)
        → slice_index (slice_set later word v) x ≡ slice_index (slice_set words word v) x
    go (inl e) (inl within) =
        ap (slice_index (slice_set later word v)) e ∙ (stored-at later word v (omega (arith, within, long))
        ∙ (sym (stored-at words word v within) ∙ ap (slice_index (slice_set words word v)) (sym e)))
    go (inl e) (inr past) =
        ap (λ xs. slice_index xs x) (past-set later word v (omega (arith, past, long)))
        ∙ (same ∙ ap (λ xs. slice_index xs x) (sym (past-set words word v
        past)))
    go (inr d) most = index-other later word v x d ∙ (same ∙ sym (index-other words word v x d))

module _ (c : Setting) (rows : List HeldRow) (at0 : CallAt) (calm after : List ℕ) (long : length after ≡ length calm)
    (same : SameOn rows calm after) where
  stays : {x : CallAt} {now : List ℕ} → Alone c rows at0 calm x now
      → (later : List ℕ) × Alone c rows at0 after x later × SameOn rows now later × (length later ≡ length now)
  stays here = (after, here, same, long)
  stays (further {at = earlier} {now = before} alone a mark asks within) = go (stays alone)
    where
      go : ((later : List ℕ) × Alone c rows at0 after earlier later × SameOn rows before later × (length later ≡ length before))
          → (later : List ℕ) × Alone c rows at0 after (call_after c earlier (got_by a before)) later
          × SameOn rows (words_after a before) later
          × (length later ≡ length (words_after a before))
      go (later, its, on, len) =
          let is : slice_index later (word_of a) ≡ slice_index before (word_of a) = on (word_of a) within in (
            words_after a later,
            subst (λ w. Alone c rows at0 after (call_after c earlier w) (words_after a later)) (ap (told a) is)
                (further its a mark asks within),
            λ word of. ap (λ v. slice_index (slice_set later (word_of a) (changed a v)) word) is
                ∙ set-word before later (word_of a) (changed a (slice_index before (word_of a))) word len (on word of),
            length-set later (word_of a) (changed a (slice_index later (word_of a)))
                ∙ (len ∙ sym (length-set before (word_of a) (changed a (slice_index before (word_of a))))),
          )

pub walks-stay : WalksStay
walks-stay c rows at0 x calm after now long same alone = stays c rows at0 calm after long same alone

-- ---- the end of a walk

alone-suits : (c : Setting) (rows : List HeldRow) (at0 : CallAt) (w0 : List ℕ) {at : CallAt} {now : List ℕ} → Alone c rows at0 w0 at now
    → Suits c at0 → Suits c at
alone-suits c rows at0 w0 here s = s
alone-suits c rows at0 w0 (further {at = earlier} {now = before} alone a mark asks within) s =
    suits-on c earlier (got_by a before) (alone-suits c rows at0 w0
    alone s)

alone-runs : (c : Setting) (rows : List HeldRow) (at0 : CallAt) (w0 last : List ℕ) (r : Reply) {at : CallAt} {now : List ℕ}
    → Alone c rows at0 w0 at now
    → Suits c at0
    → RunsAlone (rest_at c at0) w0 last r → RunsAlone (rest_at c at) now last r
alone-runs c rows at0 w0 last r here s runs = runs
alone-runs c rows at0 w0 last r (further {at = earlier} {now = before} alone a mark asks within) s runs =
    runs-behind c earlier (alone-suits c rows at0 w0 alone s) a mark asks before (got_by a before) (words_after a before) last r refl refl
    (alone-runs c rows at0 w0 last r alone s runs)

module _ (shape : Shape) (low high : ℕ) where
  abbrev c : Setting
  c = setting shape Coupled (Scan low high)

  same-reply : {x y : Reply} → Answers x ≡ Answers y → y ≡ x
  same-reply e = cc

  asks-not : {a : Access} {m : Option Point} {r : Reply} → Asks a m ≡ Answers r → ⊥
  asks-not e = cc

  -- a scan that is over answers its pairs
  over-answers : (w : Walk) (now last : List ℕ) (r : Reply) → RunsAlone (rest_at c (OnScan low high (at scan.Over w))) now last r
      → r ≡ reply.Pairs w.pairs
  over-answers w now last r (ends h) = same-reply (sym (call_next c (OnScan low high (at scan.Over w))) ∙ h)
  over-answers w now last r (goes a p h k) = absurd (asks-not (sym h ∙ call_next c (OnScan low high (at scan.Over w))))

  -- a scan that releases its rows answers its pairs
  release-answers : (rows : List HeldRow) (n : HeldRow) (pairs : List (ℕ × ℕ)) (way : List Frame) (now last : List ℕ) (r : Reply)
      → RunsAlone (rest_at c (OnScan low high (at (scan.Release n) (record { rows = rows; pairs = pairs; way = way })))) now last r
      → r ≡ reply.Pairs pairs
  release-answers [] n pairs way now last r runs = over-answers (record { rows = []; pairs = pairs; way = [] }) _ last r
      (runs-behind c (OnScan low high (at (scan.Release n) (record { rows = []; pairs = pairs; way = way }))) refl
      (Store n.base (released_word n.kept)) (Some
      point.Unlock) refl
      now 0 (slice_set now n.base (released_word n.kept)) last r refl refl runs)
  release-answers (y ∷ rows) n pairs way now last r runs =
      release-answers rows y pairs [] (slice_set now n.base (released_word n.kept)) last r
      (runs-behind c (OnScan low high (at (scan.Release n) (record { rows = y ∷ rows; pairs = pairs; way = way }))) refl
      (Store n.base (released_word n.kept))
      (Some point.Unlock) refl now 0 (slice_set now n.base (released_word n.kept)) last r refl refl runs)

  ended : (step : ScanStep) (w : Walk) (now last : List ℕ) (r : Reply) → IsOver step
      → RunsAlone (rest_at c (OnScan low high (at step w))) now last r
      → r ≡ reply.Pairs w.pairs
  ended (scan.Release n) w now last r walked runs = release-answers w.rows n w.pairs w.way now last r runs
  ended scan.Over w now last r walked runs = over-answers w now last r runs
  ended step w now last r walked runs = absurd walked

pub walks-are-the-maps : ScansAreTheMaps → WalksAreTheMaps
walks-are-the-maps scans shape low high n calm now m rows x rest means few alone walked =
    let c = setting shape Coupled (Scan low high) in
    let d = scans shape Coupled n calm m low high few rest means in
    ended shape low high x.step x.walk now d.later (reply_to m (Scan low high)) walked
    (alone-runs c rows (call_begun c) calm d.later (reply_to m (Scan low high)) alone refl
    (same-runs (rest_at c (call_begun c)) (λ got. behind c [] got) d.runs))
