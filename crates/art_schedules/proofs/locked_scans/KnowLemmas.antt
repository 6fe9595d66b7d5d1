-- What a scan knows of the calm tree, after a step.
use Rattle.art_schedules.proofs.Common.{◌≡◌, ℕ, ◌+◌, ◌≤◌, List, [], ◌∷◌, ◌++◌, refl, sym, ap, ◌∙◌, subst, true, false, arith, Option, Some, None}
use Rattle.art_schedules.proofs.Common.{false≢true, same_Some, Scan, Contents, Shape, Kind, Four, Sixteen, FortyEight, Full, kind_at, claims_of}
use Rattle.art_schedules.proofs.Common.{claims-few, Coupled, Access, Load, Point, Asks, word_of, Setting, asks-answers, asks-same, HeldRow}
use Rattle.art_schedules.proofs.Common.{ScanStep, FirstKeys, SecondKeys, Index, LoadChild, Release, setting, held, Walk, ScanAt, at, scan_turn}
use Rattle.art_schedules.proofs.Common.{scan_after, keys_turn, OnScan, told, Plan, State, IsAtRest, SameRow, holds, lock_of, locks_of}
use Rattle.art_schedules.proofs.Common.{IsAmong, IsAtStage, IsSettled, calm_of, scan_locked, stage_of}
use Rattle.art_schedules.proofs.versions.KnownLemmas.{among-each, held-is-kept}
use Rattle.art_schedules.proofs.versions.MoveLemmas.{settled-row}
use Rattle.art_schedules.proofs.Common.{Effect, IsGoneBy, ComesInBy, Follows, KeptTreesFollow, ReadsHeld, is_lock, KnowsTree, StaysAt, SameOn}
use Rattle.art_schedules.proofs.Common.{IsOver, HasWalked, ScanGoes, ScanComes, rows_of_scan, ScansComeOn, OthersLeaveTrees, WalkingScansAsk}
use Rattle.art_schedules.proofs.Common.{IsCoupledStep, IsHeldLive}
use Rattle.std.proofs.Common.{slice_index}
use Rattle.art_control_states.specs.declared.stage.ScanStep.TheVariants.{Lock, Exchange, Wait, Info, Keys, Over}
use Rattle.art_schedules.proofs.versions.KnownLemmas.{among-front}
use Rattle.art_schedules.proofs.work.WalkLemmas.{reads-held}
use Rattle.art_schedules.proofs.coupled.MadeLemmas.{Facts, facts, others-open}
use Rattle.art_schedules.proofs.coupled.RowLemmas.{kept-row}
use Rattle.art_schedules.proofs.coupled.ScanLemmas.{scans-know-trees}
use Rattle.art_schedules.proofs.coupled.TreeLemmas.{scans-keep-trees}
use Rattle.art_schedules.proofs.locked_scans.PlainLemmas.{IsRead}
use Rattle.art_schedules.proofs.locked_scans.RunLemmas.{calm-on}
use Rattle.art_schedules.proofs.locked_scans.OwnLemmas.{held-word, next-on, behind-at, scans-go-on}
use Rattle.art_schedules.proofs.locked_scans.TreeLemmas.{scans-take-live}
use Rattle.art_schedules.proofs.work.LockedLemmas.{lock-last, among-lock}
use Rattle.art_schedules.proofs.coupled.OwnLemmas.{own-word}

same-scan : {low high : ℕ} {x y : ScanAt} → OnScan low high x ≡ OnScan low high y → x ≡ y
same-scan e = cc

-- the rows of a walk are held
walk-among : (step : ScanStep) (w : Walk) → (IsOver step → ⊥) → (h : HeldRow) → IsAmong h w.rows
    → IsAmong (lock_of h) (locks_of (scan_locked step w))
walk-among (Info base kind kept) w open-yet h a =
    among-lock h (w.rows ++ held base kind 0 kept ∷ []) (among-front h w.rows (held base kind 0 kept ∷ []) a)
walk-among (Release n) w open-yet h a = absurd (open-yet tt)
walk-among Over w open-yet h a = absurd (open-yet tt)
walk-among (Lock entry first) w open-yet h a = among-lock h w.rows a
walk-among (Exchange entry v) w open-yet h a = among-lock h w.rows a
walk-among (Wait entry) w open-yet h a = among-lock h w.rows a
walk-among (Keys n) w open-yet h a = among-lock h w.rows a
walk-among (FirstKeys n count) w open-yet h a = among-lock h w.rows a
walk-among (SecondKeys n count first) w open-yet h a = among-lock h w.rows a
walk-among (Index n j i) w open-yet h a = among-lock h w.rows a
walk-among (LoadChild g slot) w open-yet h a = among-lock h w.rows a

-- the row whose info is to be read is held
info-among : (step : ScanStep) (w : Walk) (base : ℕ) (kind : Kind) (kept : ℕ) → step ≡ Info base kind kept
    → IsAmong (lock_of (held base kind 0 kept)) (locks_of (scan_locked step w))
info-among step w base kind kept e =
    subst (λ z. IsAmong (held base kind 0 kept) (locks_of (scan_locked z w))) (sym e) (lock-last w.rows (held base kind 0 kept))

-- ---- the rows that are held stay

module _ (shape : Shape) (low high : ℕ) (calm after : List ℕ) (effect : Option Effect) (x : ScanAt)
    (same : SameOn (rows_of_scan shape low high x) calm after)
    (kinds : (h : HeldRow) → IsAmong h (rows_of_scan shape low high x) → kind_at shape h.base ≡ Some h.kind)
    (left : (h : HeldRow) → IsAmong h (rows_of_scan shape low high x) → IsGoneBy effect h.base → ⊥) where
  stays-at : (h : HeldRow) → IsAmong (lock_of h) (rows_of_scan shape low high x) → StaysAt shape calm after effect h.base
  stays-at h a kind e =
      let is : h.kind ≡ kind = same_Some h.kind kind (sym (kinds (lock_of h) a) ∙ e) in (
        subst (λ k. SameRow calm after h.base k) is (λ j from to. same (h.base + j) (lock_of h, a, omega arith, omega (arith, to))),
        left (lock_of h) a,
      )

  tree-stays : (claims n : ℕ) (pairs : Contents) → IsAtRest shape claims calm
      → Follows shape n calm after pairs (IsGoneBy effect) (ComesInBy effect)
      → ReadsHeld (OnScan low high x) → (IsOver x.step → ⊥) → KnowsTree shape calm x → KnowsTree shape after x
  tree-stays claims n pairs rest follows reads open-yet k =
      scans-keep-trees shape low high claims n calm after pairs effect x rest follows reads
      (λ h a. stays-at h (walk-among x.step x.walk open-yet h a))
      (λ base kind kept e. stays-at (held base kind 0 kept) (info-among x.step x.walk base kind kept e)) k

pub others-leave-trees : OthersLeaveTrees
others-leave-trees plan start words schedule p s t claims m r low high x n pairs effect h apart here follows stay open-yet walked k =
    let calm = calm_of plan words schedule in
    let after = calm_of plan words (schedule ++ p ∷ []) in
    let f = facts plan start words schedule p s t claims m h in
    let call = Scan low high in
    let c = setting plan.shape Coupled call in
    let later = others-open plan p r s t call here.process h.run.made apart here.is_open in
    let on = subst (λ y. SameOn (holds c y) calm after) here.at (calm-on plan.shape s t p words calm after f r call here.process later) in
    tree-stays plan.shape low high calm after effect x on
    (λ y a. settled-row Coupled plan.shape s y.base y.kind
    (kept-row plan.shape s t p words calm after f r call here.process here.is_open y (subst (λ z. IsAmong y (holds c z)) (sym here.at) a)))
    stay claims n pairs h.rests follows (subst ReadsHeld here.at (reads-held plan.shape call here.process.got)) open-yet k

-- ---- its own step

keys-ask : (kind : Kind) (n : HeldRow) → (a : Access) × (mark : Option Point) × (keys_turn kind n ≡ Asks a mark)
keys-ask Four n = (_, _, refl)
keys-ask Sixteen n = (_, _, refl)
keys-ask FortyEight n = (_, _, refl)
keys-ask Full n = (_, _, refl)

scan-asks : (shape : Shape) (low high : ℕ) (step : ScanStep) (w : Walk) → (IsOver step → ⊥)
    → (a : Access) × (mark : Option Point) × (scan_turn (setting shape Coupled (Scan low high)) (at step w) ≡ Asks a mark)
scan-asks shape low high (Lock entry true) w open-yet = (_, _, refl)
scan-asks shape low high (Lock entry false) w open-yet = (_, _, refl)
scan-asks shape low high (Exchange entry v) w open-yet = (_, _, refl)
scan-asks shape low high (Wait entry) w open-yet = (_, _, refl)
scan-asks shape low high (Info base kind kept) w open-yet = (_, _, refl)
scan-asks shape low high (Keys n) w open-yet = keys-ask n.kind n
scan-asks shape low high (FirstKeys n count) w open-yet = (_, _, refl)
scan-asks shape low high (SecondKeys n count first) w open-yet = (_, _, refl)
scan-asks shape low high (Index n j i) w open-yet = (_, _, refl)
scan-asks shape low high (LoadChild g slot) w open-yet = (_, _, refl)
scan-asks shape low high (Release n) w open-yet = absurd (open-yet tt)
scan-asks shape low high Over w open-yet = absurd (open-yet tt)

pub walking-scans-ask : WalkingScansAsk
walking-scans-ask shape low high x answer walking e = let y = scan-asks shape low high x.step x.walk walking in asks-answers (sym y.2 ∙ e)

is-read : (shape : Shape) (calm : List ℕ) (low high : ℕ) (step : ScanStep) (w : Walk) → (IsOver step → ⊥)
    → is_lock (OnScan low high (at step w)) ≡ false
    → KnowsTree shape calm (at step w) → IsRead step
is-read shape calm low high (Lock entry first) w open-yet e k = absurd (false≢true (sym e))
is-read shape calm low high (Exchange entry v) w open-yet e k = absurd (false≢true (sym e))
is-read shape calm low high (Wait entry) w open-yet e k = absurd k.step
is-read shape calm low high (Release n) w open-yet e k = absurd (open-yet tt)
is-read shape calm low high Over w open-yet e k = absurd (open-yet tt)
is-read shape calm low high step w open-yet e k = tt

-- a process is at one stage
one-stage : (shape : Shape) (t : State) (p low high : ℕ) (x y : ScanAt) → IsAtStage Coupled shape t p (Scan low high) (OnScan low high x)
    → IsAtStage Coupled shape t p (Scan low high) (OnScan low high y) → x ≡ y
one-stage shape t p low high x y a b =
    let process : a.process ≡ b.process = same_Some a.process b.process (sym a.is_open.own ∙ b.is_open.own) in
    same-scan (sym a.at ∙ (ap (λ q. stage_of Coupled shape (Scan low high) q) process ∙ b.at))

module _ (trees : KeptTreesFollow) (plan : Plan) (start : Contents) (words schedule : List ℕ) (p : ℕ) (s t : State) (claims : ℕ)
    (m : Contents) (low high : ℕ)
    (h : IsCoupledStep plan start words schedule p s t claims m) (step : ScanStep) (w : Walk)
    (here : IsAtStage Coupled plan.shape s p (Scan low high) (OnScan low high (at step w)))
    (open-yet : IsOver step → ⊥) (walked : HasWalked plan.shape low high (calm_of plan words schedule) s.words (at step w))
    (k : KnowsTree plan.shape (calm_of plan words schedule) (at step w)) (a : Access) (mark : Option Point)
    (turn : scan_turn (setting plan.shape Coupled (Scan low high)) (at step w) ≡ Asks a mark)
    (goes : ScanGoes plan.shape low high t p (calm_of plan words schedule) (calm_of plan words (schedule ++ p ∷ []))) where
  abbrev calm : List ℕ
  calm = calm_of plan words schedule

  abbrev after : List ℕ
  after = calm_of plan words (schedule ++ p ∷ [])

  abbrev its : Setting
  its = setting plan.shape Coupled (Scan low high)

  abbrev next : ScanAt
  next = scan_after its low high (at step w) (told a (slice_index s.words (word_of a)))

  f : Facts plan.shape s t p words calm after
  f = facts plan start words schedule p s t claims m h

  next-at : IsAtStage Coupled plan.shape t p (Scan low high) (OnScan low high next)
  next-at = behind-at plan start words schedule p s t claims m low high h step w here a mark turn

  tree-then : KnowsTree plan.shape calm next
  tree-then = scans-know-trees plan.shape low high claims calm (at step w) (told a (slice_index s.words (word_of a))) h.rests
      (subst ReadsHeld here.at (reads-held plan.shape (Scan low high) here.process.got)) k (λ word l free e.
      let load : a ≡ Load word = asks-same (sym turn ∙ e) in
      let read = is-read plan.shape calm low high step w open-yet free k in
      let own = held-word plan start words schedule p s t claims m low high h step w here a mark turn word load read
      h.run.before.within.shape.root in
      ap (λ b. told b (slice_index s.words (word_of b))) load
      ∙ own-word calm s.words own.row
      (among-each (IsHeldLive calm s.words) own.row (rows_of_scan plan.shape low high (at step w)) own.among walked.own) word own.behind)

  few : (kind : Kind) → slice_index after (claims_of kind) ≤ f.count + 2
  few kind =
      let few = f.behind.claims kind in
      omega (arith, few, f.then.low (claims_of kind) (claims-few kind))

  tree-behind : (IsOver next.step → ⊥) → KnowsTree plan.shape after next
  tree-behind later =
      tree-stays plan.shape low high calm after None next
      (next-on plan start words schedule p s t claims m low high h step w here a mark turn)
      (λ y b. settled-row Coupled plan.shape t y.base y.kind (held-is-kept (IsSettled Coupled plan.shape t) its
      (stage_of Coupled plan.shape (Scan low high) next-at.process) (f.behind.knows p (Scan low high) next-at.process next-at.is_open) y
      (subst (λ z. IsAmong y (holds its z)) (sym next-at.at) b)).1)
      (λ y b g. g) claims (f.count + 2) m h.rests (trees plan.shape claims (f.count + 2) calm after m h.rests h.means goes.keeps few)
      (subst ReadsHeld next-at.at (reads-held plan.shape (Scan low high) next-at.process.got)) later tree-then

  comes : ScanComes plan.shape low high t p calm after
  comes =
      let same = one-stage plan.shape t p low high next goes.next next-at goes.at in
      record {
        goes = goes;
        tree = subst (λ y. (IsOver y.step → ⊥) → KnowsTree plan.shape after y) same tree-behind;
      }

pub scans-come-on : KeptTreesFollow → ScansComeOn
scans-come-on trees plan start words schedule p s t claims m leaving low high x h leave here open-yet walked k =
    let live = scans-take-live plan start words schedule p s t claims m leaving low high x h leave here (λ walking. k) in
    let asks = scan-asks plan.shape low high x.step x.walk open-yet in
    comes trees plan start words schedule p s t claims m low high h x.step x.walk here open-yet walked k asks.0 asks.1 asks.2
    (scans-go-on plan start words schedule p s t claims m low high x h live here open-yet walked)
