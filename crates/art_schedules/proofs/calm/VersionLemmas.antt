-- Versions in a step: what becomes of busy rows.
use Rattle.art_schedules.proofs.Common.{◌≡◌, ◌≢◌, ℕ, ◌+◌, ◌/◌, ◌%◌, true, false, ap, sym, subst, ◌∙◌, inl, inr, arith, ne_eqb, ◌==◌, slice_index}
use Rattle.art_schedules.proofs.words.TableLemmas.{row_begins, rows_apart}
use Rattle.art_schedules.proofs.words.VersionLemmas.{taken-locked, obsolete_obsolete, obsolete_released}
use Rattle.art_schedules.proofs.Common.{Some, cases_eq, or_from, or_left, or_right, same_Some, Shape, Kind, kind_at, is_locked, is_obsolete}
use Rattle.art_schedules.proofs.Common.{released_word, obsolete_word, some-words}
use Rattle.art_schedules.proofs.Common.{Variant, locks, HeldRow, setting, State, IsKept, IsAfterVersion, IsHeld, stage_of}
use Rattle.art_schedules.proofs.Common.{IsSettled, IsSound, IsSteady, held_by, is_busy}
use Rattle.art_schedules.proofs.versions.KnownLemmas.{held-is-kept}
use Rattle.art_schedules.proofs.versions.MoveLemmas.{settled-row}
use Rattle.art_schedules.proofs.versions.WithLemmas.{with-here}
use Rattle.art_schedules.proofs.versions.WordFacts.{version-free}
use Rattle.art_schedules.proofs.Common.{RowChange, RowsStay, RowWritten, RowFilled, RowTaken, RowReleased}
use Rattle.std.specs.Prelude.{◌⊎◌}
use Rattle.std.proofs.lemmas.Bool.{or_parts}

pub locked-busy : (v : ℕ) → is_locked v ≡ true → is_busy v ≡ true
locked-busy v e = or_left (is_locked v) (is_obsolete v) e

pub obsolete-busy : (v : ℕ) → is_obsolete v ≡ true → is_busy v ≡ true
obsolete-busy v e = or_right (is_locked v) (is_obsolete v) e

pub free-parts : (v : ℕ) → is_busy v ≡ false → (is_locked v ≡ false) × (is_obsolete v ≡ false)
free-parts v e = or_parts (is_locked v) (is_obsolete v) e

pub free-busy : (v : ℕ) → is_locked v ≡ false → is_obsolete v ≡ false → is_busy v ≡ false
free-busy v l o = or_from (is_locked v) (is_obsolete v) l o

-- the row that has a word after another's version has another base
pub not-behind : (shape : Shape) (base b word : ℕ) (kind k : Kind) → kind_at shape base ≡ Some kind → kind_at shape b ≡ Some k
    → IsAfterVersion b k word
    → base ≢ word
not-behind shape base b word kind k e row behind same =
    let one = rows_apart shape base b kind k word e row (omega (arith, same)) (omega (arith, same, some-words kind))
    (omega (arith, behind.0)) behind.1 in
    omega (arith, same, one.0, behind.0)

module _ (variant : Variant) (shape : Shape) (n : ℕ) (s : State) (h : IsSound variant shape n s) where
  -- a row that is held is settled, and locked
  pub held-kept : (base : ℕ) (x : IsHeld variant shape s base) → IsKept (locks variant) (IsSettled variant shape s) x.row
  held-kept base x = held-is-kept (IsSettled variant shape s) (setting shape variant x.call) (stage_of variant shape x.call x.process)
      (h.knows x.holder x.call x.process x.is_open) x.row x.among

  pub held-version : (base : ℕ) (x : IsHeld variant shape s base) → slice_index s.words base ≡ x.row.kept + 2
  held-version base x = ap (slice_index s.words) (sym x.is) ∙ h.locked x.holder x.call x.process x.is_open x.row x.among

  pub held-locked : (base : ℕ) → IsHeld variant shape s base → is_locked (slice_index s.words base) ≡ true
  held-locked base x = ap is_locked (held-version base x)
      ∙ taken-locked x.row.kept (version-free (locks variant) x.row.kept (held-kept base x).0)

-- What a step makes of a row's version: it stays, or rises by two from one that was not locked, or a release from one that was not locked
-- replaces it.
pub data VersionChange (variant : Variant) (shape : Shape) (s later : State) (base : ℕ) (kind : Kind) : Type 0 where
  Stays : slice_index later.words base ≡ slice_index s.words base → VersionChange variant shape s later base kind
  IsTaken : (v : ℕ) → (v / 2) % 2 ≡ 0 → slice_index s.words base ≡ v → slice_index later.words base ≡ v + 2
      → IsSettled variant shape s base kind
      → VersionChange variant shape s later base kind
  IsReleased : (v : ℕ) → (v / 2) % 2 ≡ 0 → slice_index s.words base ≡ v + 2
      → (slice_index later.words base ≡ released_word v) ⊎ (slice_index later.words base ≡ obsolete_word v)
      → IsSettled variant shape s base kind
      → VersionChange variant shape s later base kind

module _ (variant : Variant) (shape : Shape) (n : ℕ) (s : State) (h : IsSound variant shape n s) (p : ℕ) (later : State)
    (base : ℕ) (kind : Kind)
    (row : kind_at shape base ≡ Some kind) where
  settled-here : (x : HeldRow) → base ≡ x.base → IsKept (locks variant) (IsSettled variant shape s) x → IsSettled variant shape s base kind
  settled-here x e k =
      let its = settled-row variant shape s x.base x.kind k.1 in
      subst (λ l. IsSettled variant shape s base l) (same_Some x.kind kind (sym its ∙ (ap (kind_at shape) (sym e) ∙ row)))
      (subst (λ b. IsSettled variant shape s b x.kind) (sym e) k.1)

  pub version-change : RowChange variant shape s p later → VersionChange variant shape s later base kind
  version-change (RowsStay same) = Stays (same base (row_begins shape base kind row))
  version-change (RowWritten word value asks x among kept behind is others) =
      Stays (others base (not-behind shape base x.base word kind x.kind row (settled-row variant shape s x.base x.kind kept.1) behind))
  version-change (RowFilled word value asks b k filled its behind is others) =
      Stays (others base (not-behind shape base b word kind k row its behind))
  version-change (RowTaken x asks rows with then kept was is others) = elim (cases_eq base x.base) [
    | inl e ↦ IsTaken x.kept (version-free (locks variant) x.kept kept.0) (ap (slice_index s.words) e ∙ was)
        (ap (slice_index later.words) e ∙ is)
        (settled-here x e kept)
    | inr d ↦ Stays (others base d)
  ]
  version-change (RowReleased x value asks rest with then kept written is others) = elim (cases_eq base x.base) [
    | inl e ↦ IsReleased x.kept (version-free (locks variant) x.kept kept.0)
        (ap (slice_index s.words) e ∙ h.locked p asks.call asks.process asks.is_open x (with-here x rest (held_by variant shape asks.call
        asks.process) with))
        (elim written [
          | inl w ↦ inl (ap (slice_index later.words) e ∙ (is ∙ w))
          | inr w ↦ inr (ap (slice_index later.words) e ∙ (is ∙ w))
        ]) (settled-here x e kept)
    | inr d ↦ Stays (others base d)
  ]

-- Versions as numbers.

pub unmarked-free : (v : ℕ) → v % 4 ≡ 0 → is_busy v ≡ false
unmarked-free v e = free-busy v (ne_eqb ((v / 2) % 2) 1 (λ f. omega (arith, e, f))) (ne_eqb (v % 2) 1 (λ f. omega (arith, e, f)))

pub released-free : (v : ℕ) → (v / 2) % 2 ≡ 0 → is_locked (released_word v) ≡ false
released-free v e = ne_eqb ((released_word v / 2) % 2) 1 (λ f. omega (arith, e, f))

pub obsolete-free : (v : ℕ) → (v / 2) % 2 ≡ 0 → is_locked (obsolete_word v) ≡ false
obsolete-free v e = ne_eqb ((obsolete_word v / 2) % 2) 1 (λ f. omega (arith, e, f))

pub locked-same : (v : ℕ) → is_obsolete (v + 2) ≡ is_obsolete v
locked-same v = ap (λ m. m == 1) (parity v)
  where
    parity : (v : ℕ) → (v + 2) % 2 ≡ v % 2
    parity v = omega arith

-- an obsolete row stays obsolete
pub obsolete-stays : (variant : Variant) (shape : Shape) (s later : State) (base : ℕ) (kind : Kind)
    → VersionChange variant shape s later base kind
    → is_obsolete (slice_index s.words base) ≡ true → is_obsolete (slice_index later.words base) ≡ true
obsolete-stays variant shape s later base kind (Stays e) gone = ap is_obsolete e ∙ gone
obsolete-stays variant shape s later base kind (IsTaken v free was is settled) gone = ap is_obsolete is
    ∙ (locked-same v ∙ (ap is_obsolete (sym was) ∙ gone))
obsolete-stays variant shape s later base kind (IsReleased v free was (inl e) settled) gone =
    ap is_obsolete e ∙ (obsolete_released v ∙ (sym (locked-same v) ∙ (ap is_obsolete (sym was) ∙ gone)))
obsolete-stays variant shape s later base kind (IsReleased v free was (inr e) settled) gone = ap is_obsolete e ∙ obsolete_obsolete v

-- busy rows are settled
abbrev pub BusySettled : Variant → Shape → State → Type 0
BusySettled variant shape s = (base : ℕ) (kind : Kind) → kind_at shape base ≡ Some kind → is_busy (slice_index s.words base) ≡ true
    → IsSettled variant shape s base kind

pub busy-settled-step : (variant : Variant) (shape : Shape) (n : ℕ) (s later : State) (p : ℕ) → IsSound variant shape n s
    → IsSteady variant shape s later
    → RowChange variant shape s p later → BusySettled variant shape s → BusySettled variant shape later
busy-settled-step variant shape n s later p h steady change settled base kind row busy =
    go (version-change variant shape n s h p later base kind row change)
  where
    go : VersionChange variant shape s later base kind → IsSettled variant shape later base kind
    go (Stays e) = steady.settled base kind (settled base kind row (ap is_busy (sym e) ∙ busy))
    go (IsTaken v free was is x) = steady.settled base kind x
    go (IsReleased v free was is x) = steady.settled base kind x
