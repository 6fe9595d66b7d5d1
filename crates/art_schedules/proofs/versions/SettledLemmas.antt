-- What a scan loads before its checks lies in a row that it knows.
use Rattle.art_schedules.proofs.Common.{◌≡◌, ◌≢◌, ℕ, ◌+◌, ◌*◌, ◌<◌, ◌≤◌, refl, sym, subst, false, arith, Option, Some, Call, Kind, Four, Sixteen}
use Rattle.art_schedules.proofs.Common.{FortyEight, Full, Shape, row_words, root_base, info_at, keys_at, more_keys_at, index_at, count_at}
use Rattle.art_schedules.proofs.Common.{Asks, HeldRow, Load, Point, ScanStep, answers-asks, loads-same, seven-words}
use Rattle.art_control_states.specs.declared.stage.Entry.TheVariants.{Below}
use Rattle.art_control_states.specs.declared.stage.ScanStep.TheVariants.{Exchange, Keys, Lock}
use Rattle.art_schedules.proofs.Common.{FirstKeys, SecondKeys, Index, LoadChild, Release, Walk, ScanAt, at, scan_turn, optimistic, OfRows}
use Rattle.art_schedules.proofs.Common.{KnowsScanRows}
use Rattle.art_rows.specs.declared.access.Point.TheVariants as point
use Rattle.art_control_states.specs.declared.stage.Entry.TheVariants.{Root}
use Rattle.art_control_states.specs.declared.stage.ScanStep.TheVariants.{Wait, Info, Over}
use Rattle.art_control_states.specs.Scans.{keys_turn}
use Rattle.art_schedules.proofs.versions.KeyLemmas.{slot-behind}

module _ (s : Shape) (call : Call) (P : OfRows) (root : P (root_base s) Full) where
  -- a row of P has the word
  pub record IsInKnown (word : ℕ) : Type 0 where
    pub base : ℕ
    pub kind : Kind
    pub known : P base kind
    pub from : base ≤ word
    pub below : word < base + row_words kind

  in-row : (base : ℕ) (kind : Kind) (x word : ℕ) → P base kind → x ≡ word → base ≤ x → x < base + row_words kind → IsInKnown word
  in-row base kind x word p e low high = record {
    base = base;
    kind = kind;
    known = p;
    from = omega (arith, low, e);
    below = omega
        (arith, high, e);
  }

  keys-known : (kind : Kind) (n : HeldRow) (word : ℕ) (mark : Option Point) → n.kind ≡ kind → P n.base n.kind
      → keys_turn kind n ≡ Asks (Load word) mark
      → IsInKnown word
  keys-known Four n word mark k p e = in-row n.base n.kind (keys_at n.base) word p (loads-same e).0 (omega arith)
      (omega (arith, seven-words n.kind))
  keys-known Sixteen n word mark k p e = in-row n.base n.kind (count_at Sixteen n.base) word p (loads-same e).0 (omega arith)
      (omega (arith, seven-words n.kind))
  keys-known FortyEight n word mark k p e = in-row n.base n.kind (keys_at n.base) word p (loads-same e).0 (omega arith)
      (omega (arith, seven-words n.kind))
  keys-known Full n word mark k p e = in-row n.base n.kind (keys_at n.base) word p (loads-same e).0 (omega arith)
      (omega (arith, seven-words n.kind))

  pub loads-known : (x : ScanAt) → KnowsScanRows P false x → (word : ℕ) (mark : Option Point)
      → scan_turn (optimistic s call) x ≡ Asks (Load word) mark
      → mark ≢ Some point.Check → IsInKnown word
  loads-known x k word mark e no-check = go x.step x.walk k e
    where
      go : (step : ScanStep) (w : Walk) → KnowsScanRows P false (at step w)
          → scan_turn (optimistic s call) (at step w) ≡ Asks (Load word) mark → IsInKnown word
      go (Lock entry first) w k e = absurd k.fits
      go (Exchange entry v) w k e = absurd k.fits.0
      go (Wait Root) w k e = in-row (root_base s) Full (root_base s) word root (loads-same e).0 (omega arith) (omega arith)
      go (Wait (Below base kind)) w k e = in-row base kind base word k.known.0 (loads-same e).0 (omega arith)
          (omega (arith, seven-words kind))
      go (Info base kind kept) w k e = in-row base kind (info_at base) word k.known.0 (loads-same e).0 (omega arith)
          (omega (arith, seven-words kind))
      go (Keys n) w k e = keys-known n.kind n word mark refl k.known.0 e
      go (FirstKeys n count) w k e = in-row n.base n.kind (keys_at n.base) word k.known.0 (loads-same e).0 (omega arith)
          (omega (arith, seven-words n.kind))
      go (SecondKeys n count first) w k e =
          in-row n.base n.kind (more_keys_at n.base) word k.known.0 (loads-same e).0 (omega arith) (omega (arith, seven-words n.kind))
      go (Index n j m) w k e = in-row n.base n.kind (index_at n.base (8 * j)) word k.known.0 (loads-same e).0 (omega arith)
          (subst (λ l. index_at n.base (8 * j) < n.base + row_words l) (sym k.fits.0) (omega (arith, k.fits.1)))
      go (LoadChild f slot) w k e =
          let behind = slot-behind f.row.base f.row.kind slot k.fits.1 in
          in-row f.row.base f.row.kind slot word k.fits.0.0 (loads-same e).0 (omega (arith, behind.0)) behind.1
      go (Release n) w k e = absurd (no-check (sym (loads-same e).1))
      go Over w k e = absurd (answers-asks e)
