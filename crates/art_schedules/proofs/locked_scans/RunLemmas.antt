-- What a scan has walked stays so where the rows that it holds stay.
use Rattle.art_schedules.proofs.Common.{◌≡◌, ◌≢◌, inl, inr, ℕ, ◌+◌, ◌-◌, List, [], ◌∷◌, ◌++◌, length, refl, sym, ap, ◌∙◌, subst, arith, cases_eq}
use Rattle.art_schedules.proofs.Common.{Call, Scan, Shape, Coupled, Setting, HeldRow, setting, ScanAt, OnScan, call_begun, Process, State, SameRow}
use Rattle.art_schedules.proofs.Common.{Each, IsAmong, IsOpen, IsSettled, SameOn, calm_of, held_by, holds, stage_of}
use Rattle.art_schedules.proofs.versions.KnownLemmas.{held-is-kept}
use Rattle.art_schedules.proofs.versions.MoveLemmas.{settled-row}
use Rattle.art_schedules.proofs.Common.{unwaited, HasWalked, rows_of_scan, OthersLeaveScans, IsHeldLive}
use Rattle.std.proofs.Common.{slice_index}
use Rattle.art_schedules.proofs.coupled.MadeLemmas.{Facts, facts, others-open}
use Rattle.art_schedules.proofs.coupled.RowLemmas.{others-same}
use Rattle.art_schedules.proofs.coupled.StayLemmas.{own-still}
use Rattle.art_schedules.proofs.coupled.WalkLemmas.{walks-stay}

-- words that are the same on rows are so on each of them
on-row : (rows : List HeldRow) (words later : List ℕ) → SameOn rows words later → (h : HeldRow) → IsAmong h rows
    → SameRow words later h.base h.kind
on-row rows words later same h a j low high = same (h.base + j) (h, a, omega arith, omega (arith, high))

pub rows-own : (calm after words later : List ℕ) (hs : List HeldRow)
    → ((h : HeldRow) → IsAmong h hs → SameRow calm after h.base h.kind × SameRow words later h.base h.kind) → Each (IsHeldLive calm words) hs
    → Each (IsHeldLive after later) hs
rows-own calm after words later [] same own = tt
rows-own calm after words later (h ∷ hs) same own =
    let x = same h (inl refl) in
    (own-still calm words after later h x.0 x.1 own.0, rows-own calm after words later hs (λ y a. same y (inr a)) own.1)

module _ (shape : Shape) (low high : ℕ) where
  abbrev c : Setting
  c = setting shape Coupled (Scan low high)

  pub carry : (calm after words later : List ℕ) (x : ScanAt) → length after ≡ length calm → length later ≡ length words
      → SameOn (rows_of_scan shape low high x) calm after → SameOn (rows_of_scan shape low high x) words later
      → HasWalked shape low high calm words x
      → HasWalked shape low high after later x
  carry calm after words later x long real-long on real k =
      let y = walks-stay c (rows_of_scan shape low high x) (call_begun c) (OnScan low high (unwaited x)) calm after k.now long on k.alone in
      record {
        now = y.0;
        alone = y.1;
        long = real-long ∙ (k.long ∙ sym y.3);
        same = λ word of. real word of ∙ (k.same word of ∙ sym (y.2 word of));
        own = rows-own calm after words later (rows_of_scan shape low high x) (λ h a.
            (on-row (rows_of_scan shape low high x) calm after on h a, on-row (rows_of_scan shape low high x) words later real h a)) k.own;
      }

module _ (shape : Shape) (s t : State) (p : ℕ) (first calm after : List ℕ) (f : Facts shape s t p first calm after) where
  -- calm has the same words of the rows that a call holds after the step,
  pub calm-on : (r : ℕ) (call : Call) (q : Process) → IsOpen t r call q → SameOn (held_by Coupled shape call q) calm after
  calm-on r call q o word (h, a, from, to) =
      let settled = (held-is-kept (IsSettled Coupled shape t) (setting shape Coupled call) (stage_of Coupled shape call q)
      (f.behind.knows r call q o) h a).1 in
      f.goes.held h.base h.kind (settled-row Coupled shape t h.base h.kind settled)
      (record { holder = r; call = call; process = q; is_open = o; row = h; among = a; is = refl }) word from to

  -- if another process makes the step, the words of the rows that a call holds stay
  pub others-on : (r : ℕ) (call : Call) (q : Process) → r ≢ p → IsOpen s r call q → IsOpen t r call q
      → SameOn (held_by Coupled shape call q) s.words t.words
  others-on r call q apart o then word (h, a, from, to) = elim (cases_eq word h.base) [
    | inl e ↦ ap (slice_index t.words) e ∙ (f.behind.locked r call q then h a ∙ (sym (f.sound.locked r call q o h a) ∙ ap
        (slice_index s.words) (sym e)))
    | inr d ↦
        let is : h.base + (word - h.base) ≡ word = omega (arith, from) in
        sym (ap (slice_index t.words) is) ∙ (others-same shape s t p first calm after f r call q apart o h a (word - h.base)
        (omega (arith, from, d)) (omega (arith, from, to))
        ∙ ap (slice_index s.words) is)
  ]

pub others-leave-scans : OthersLeaveScans
others-leave-scans plan start words schedule p s t claims m r low high x h apart at =
    let calm = calm_of plan words schedule in
    let after = calm_of plan words (schedule ++ p ∷ []) in
    let f = facts plan start words schedule p s t claims m h in
    let then = others-open plan p r s t (Scan low high) at.process h.run.made apart at.is_open in
    let c = setting plan.shape Coupled (Scan low high) in
    let on = subst (λ y. SameOn (holds c y) calm after) at.at
    (calm-on plan.shape s t p words calm after f r (Scan low high) at.process then) in
    let real = subst (λ y. SameOn (holds c y) s.words t.words) at.at
    (others-on plan.shape s t p words calm after f r (Scan low high) at.process apart at.is_open then) in (
      record { process = at.process; is_open = then; at = at.at },
      carry plan.shape low high calm after s.words t.words x (f.then.long ∙ sym f.before.long) (f.behind.long ∙ sym f.sound.long) on real,
      λ reply k. record {
        walked = k.walked;
        is = k.is;
        own = rows-own calm after s.words t.words (rows_of_scan plan.shape low high x) (λ y a. (
          on-row (rows_of_scan plan.shape low high x) calm after on y a,
          on-row (rows_of_scan plan.shape low high x) s.words t.words
              real y a,
        )) k.own;
      },
    )
