-- A call that locks what it reads touches only words of rows that it holds or fills, except for its
-- locks.
use Rattle.art_schedules.proofs.Common.{◌≡◌, ℕ, ◌*◌, ◌≤◌, List, [], ◌∷◌, ◌++◌, refl, ap, sym, subst, ◌∙◌, Bool, true, false, inl, inr, arith}
use Rattle.art_schedules.proofs.Common.{Option, None, false≢true, same_Some, Call, Shape, Kind, Four, Sixteen, FortyEight, Full, kind_at}
use Rattle.art_schedules.proofs.Common.{info_at, keys_at, more_keys_at, index_at, count_at, child_at, seven-words, key_byte-small, Coupled}
use Rattle.art_schedules.proofs.Common.{Setting, is_insert, key_of, HeldRow, Position, Down, ScanStep, Stage, Lock, Exchange, Wait, Leave, Between}
use Rattle.art_schedules.proofs.Common.{Info, Find, FindKeys, FindMore, FindCount, Slot, Check, CheckLast, LetGo, Take, setting, held, row_at}
use Rattle.art_schedules.proofs.Common.{byte_in, Walk, at, CallAt, OnKey, OnScan, lock_of, locks_of, held_at_place, scan_locked, Each, IsKept}
use Rattle.art_schedules.proofs.Common.{IsAmong, IsAfterVersion, IsHeldWord, Knows, KnowsKey, LoadsHeld, TouchesOwn}
use Rattle.art_schedules.proofs.versions.KeyLemmas.{slot-behind}
use Rattle.art_schedules.proofs.versions.KnownLemmas.{among-each}
use Rattle.art_schedules.proofs.Common.{ReleasesHeld, Replies, is_lock, IsWalked, ReadsHeld, RowsOf}
use Rattle.art_control_states.specs.declared.stage.ScanStep.TheVariants as scan
use Rattle.art_schedules.specs.versions.Locking.{held_below}
use Rattle.art_schedules.specs.versions.Holding.{KnowsScanRows}
use Rattle.art_schedules.proofs.work.TouchLemmas.{work-own}

pub lock-last : (rows : List HeldRow) (n : HeldRow) → IsAmong (lock_of n) (locks_of (rows ++ n ∷ []))
lock-last [] n = inl refl
lock-last (x ∷ rows) n = inr (lock-last rows n)

pub among-lock : (row : HeldRow) (rows : List HeldRow) → IsAmong row rows → IsAmong (lock_of row) (locks_of rows)
among-lock row [] a = a
among-lock row (x ∷ rows) (inl e) = inl (ap lock_of e)
among-lock row (x ∷ rows) (inr a) = inr (among-lock row rows a)

module _ (shape : Shape) (call : Call) (some : 1 ≤ shape.rows256) where
  abbrev c : Setting
  c = setting shape Coupled call

  place-among : (i : Bool) (p : Position) → IsAmong (lock_of p.row) (locks_of (held_at_place true i p))
  place-among true p = inl refl
  place-among false p = inl refl

  below-among : (i : Bool) (d : Down) (kept : ℕ) → IsAmong (held d.base d.kind 0 kept) (locks_of (held_below true i d kept))
  below-among true d kept = inl refl
  below-among false d kept = inl refl

  find-own : (base : ℕ) (kind : Kind) (info was : ℕ) (above : Option HeldRow) (slot : ℕ)
      → TouchesOwn c (OnKey (Find (record { row = held base kind info was; above = above; slot = slot })))
  find-own base Four info was above slot =
      let p : Position = record { row = held base Four info was; above = above; slot = slot } in
      LoadsHeld (keys_at base) None refl (record {
        row = held base Four 0 was;
        among = place-among (is_insert call) p;
        behind =
            (omega arith, omega arith);
      })
  find-own base Sixteen info was above slot =
      let p : Position = record { row = held base Sixteen info was; above = above; slot = slot } in
      LoadsHeld (count_at Sixteen base) None refl
      (record { row = held base Sixteen 0 was; among = place-among (is_insert call) p; behind = (omega arith, omega arith) })
  find-own base FortyEight info was above slot =
      let p : Position = record { row = held base FortyEight info was; above = above; slot = slot } in
      let small = key_byte-small (key_of call) (row_at (held base FortyEight info was)).level in
      LoadsHeld (index_at base (byte_in c (held base FortyEight info was))) None refl
      (record {
        row = held base FortyEight 0 was;
        among = place-among (is_insert call) p;
        behind =
            (omega (arith, small), omega (arith, small));
      })
  find-own base Full info was above slot =
      let p : Position = record { row = held base Full info was; above = above; slot = slot } in
      let small = key_byte-small (key_of call) (row_at (held base Full info was)).level in
      LoadsHeld (child_at Full base (byte_in c (held base Full info was))) None refl
      (record { row = held base Full 0 was; among = place-among (is_insert call) p; behind = (omega (arith, small), omega (arith, small)) })

  key-own : (stage : Stage) → KnowsKey (RowsOf shape) c stage → ReadsHeld (OnKey stage) → is_lock (OnKey stage) ≡ false
      → TouchesOwn c (OnKey stage)
  key-own (Lock t first) k r e = absurd (false≢true (sym e))
  key-own (Exchange t v) k r e = absurd (false≢true (sym e))
  key-own (Wait t) k r e = absurd k.fits.0
  key-own (Leave d) k r e = absurd k.fits
  key-own (Between d kept) k r e = ReleasesHeld (lock_of d.above) _ _ refl (inr (inl refl)) refl
  key-own (Info d kept) k r e = LoadsHeld (info_at d.base) None refl (record {
    row = held d.base d.kind 0 kept;
    among = below-among (is_insert call) d kept;
    behind = (omega arith, omega (arith, seven-words d.kind));
  })
  key-own (Find p) k r e = find-own p.row.base p.row.kind p.row.info p.row.kept p.above p.slot
  key-own (FindKeys p count) k r e = LoadsHeld (keys_at p.row.base) None refl (record {
    row = lock_of p.row;
    among = place-among (is_insert call) p;
    behind = (omega arith, omega (arith, seven-words p.row.kind));
  })
  key-own (FindMore p count first) k r e = LoadsHeld (more_keys_at p.row.base) None refl (record {
    row = lock_of p.row;
    among = place-among (is_insert call) p;
    behind = (omega arith, omega (arith, seven-words p.row.kind));
  })
  key-own (FindCount p index) k r e = LoadsHeld (count_at FortyEight p.row.base) None refl (record {
    row = lock_of p.row;
    among = place-among (is_insert call) p;
    behind = subst (λ kind. IsAfterVersion p.row.base kind (count_at FortyEight p.row.base)) (sym r) (omega arith, omega arith);
  })
  key-own (Slot p slot) k r e = LoadsHeld slot _ refl
      (record { row = lock_of p.row; among = place-among (is_insert call) p; behind = slot-behind p.row.base p.row.kind slot k.fits.1 })
  key-own (Check p f) k r e = absurd k.fits
  key-own (CheckLast n) k r e = absurd k.fits
  key-own (LetGo above p f) k r e = ReleasesHeld (lock_of above) _ _ refl (inr (inl refl)) refl
  key-own (Take t) k r e = absurd k.fits.0
  key-own stage k r e = work-own Coupled (inl refl) shape call some stage refl k

  -- a word of a row that the scan has walked is one of a row that it holds
  module _ (low high : ℕ) (w : Walk) where
    walked-word : (step : ScanStep) (n : HeldRow) (word : ℕ) → scan_locked step w ≡ w.rows → IsWalked n w.rows
        → Each (IsKept true (RowsOf shape)) w.rows
        → RowsOf shape n.base n.kind → IsAfterVersion n.base n.kind word → IsHeldWord c (OnScan low high (at step w)) word
    walked-word step n word is walked kept known behind =
        let row = among-each (IsKept true (RowsOf shape)) walked.0 w.rows walked.1 kept in
        let kind : walked.0.kind ≡ n.kind = same_Some walked.0.kind n.kind (sym row.1 ∙ (ap (kind_at shape) walked.2 ∙ known)) in
        record {
          row = lock_of walked.0;
          among = subst (λ rows. IsAmong (lock_of walked.0) (locks_of rows)) (sym is) (among-lock walked.0 w.rows walked.1);
          behind = subst (λ k. IsAfterVersion walked.0.base k word) (sym kind)
              (subst (λ b. IsAfterVersion b n.kind word) (sym walked.2) behind);
        }

    keys-own : (base : ℕ) (kind : Kind) (info was : ℕ) → KnowsScanRows (RowsOf shape) true (at (scan.Keys (held base kind info was)) w)
        → IsWalked (held base kind info was) w.rows → TouchesOwn c (OnScan low high (at (scan.Keys (held base kind info was)) w))
    keys-own base Four info was k r = LoadsHeld (keys_at base) None refl
        (walked-word (scan.Keys (held base Four info was)) (held base Four info was) (keys_at base) refl r k.kept k.known.0
        (omega arith, omega arith))
    keys-own base Sixteen info was k r = LoadsHeld (count_at Sixteen base) None refl
        (walked-word (scan.Keys (held base Sixteen info was)) (held base Sixteen info was) (count_at Sixteen base) refl r k.kept k.known.0
        (omega arith, omega arith))
    keys-own base FortyEight info was k r = LoadsHeld (keys_at base) None refl
        (walked-word (scan.Keys (held base FortyEight info was)) (held base FortyEight info was) (keys_at base) refl r k.kept k.known.0
        (omega arith, omega arith))
    keys-own base Full info was k r = LoadsHeld (keys_at base) None refl
        (walked-word (scan.Keys (held base Full info was)) (held base Full info was) (keys_at base) refl r k.kept k.known.0
        (omega arith, omega arith))

    scan-own : (step : ScanStep) → KnowsScanRows (RowsOf shape) true (at step w) → ReadsHeld (OnScan low high (at step w))
        → is_lock (OnScan low high (at step w)) ≡ false → TouchesOwn c (OnScan low high (at step w))
    scan-own (scan.Lock entry first) k r e = absurd (false≢true (sym e))
    scan-own (scan.Exchange entry v) k r e = absurd (false≢true (sym e))
    scan-own (scan.Wait entry) k r e = absurd k.fits
    scan-own (scan.Info base kind kept) k r e = LoadsHeld (info_at base) None refl (record {
      row = held base kind 0 kept;
      among = lock-last w.rows (held base kind 0 kept);
      behind = (omega arith, omega (arith, seven-words kind));
    })
    scan-own (scan.Keys n) k r e = keys-own n.base n.kind n.info n.kept k r.0
    scan-own (scan.FirstKeys n count) k r e = LoadsHeld (keys_at n.base) None refl
        (walked-word (scan.FirstKeys n count) n (keys_at n.base) refl r.0 k.kept k.known.0 (omega arith, omega (arith, seven-words n.kind)))
    scan-own (scan.SecondKeys n count first) k r e = LoadsHeld (more_keys_at n.base) None refl
        (walked-word (scan.SecondKeys n count first) n (more_keys_at n.base) refl r.0 k.kept k.known.0
        (omega arith, omega (arith, seven-words n.kind)))
    scan-own (scan.Index n index words) k r e = LoadsHeld (index_at n.base (8 * index)) None refl
        (walked-word (scan.Index n index words) n (index_at n.base (8 * index)) refl r.0 k.kept k.known.0
        (subst (λ kind. IsAfterVersion n.base kind (index_at n.base (8 * index))) (sym k.fits.0)
        (omega (arith, k.fits.1), omega (arith, k.fits.1))))
    scan-own (scan.Child f slot) k r e = LoadsHeld slot None refl
        (walked-word (scan.Child f slot) f.row slot refl r.0 k.kept k.fits.0.0 (slot-behind f.row.base f.row.kind slot k.fits.1))
    scan-own (scan.Release n) k r e = ReleasesHeld (lock_of n) _ _ refl (inl refl) refl
    scan-own scan.Over k r e = Replies _ refl

  pub locked-own : (x : CallAt) → Knows (RowsOf shape) c x → ReadsHeld x → is_lock x ≡ false → TouchesOwn c x
  locked-own (OnKey stage) k r e = key-own stage k r e
  locked-own (OnScan low high x) k r e = scan-own low high x.walk x.step k r e
