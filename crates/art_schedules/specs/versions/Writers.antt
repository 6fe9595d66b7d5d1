-- Who writes the words of a row: the process that holds it, the one that takes it, or the one that fills it.
use Rattle.std.specs.Prelude.{◌≡◌, ◌≢◌, ◌⊎◌, ℕ, ◌+◌, ◌<◌, ◌≤◌, [], ◌∷◌, slice_index, Some}
use Rattle.events.specs.declared.event.Call.{Call}
use Rattle.art_rows.specs.declared.table.Shape.{Shape}
use Rattle.art_rows.specs.declared.table.Kind.{Kind}
use Rattle.art_rows.specs.Table.{row_words, kind_at}
use Rattle.art_rows.specs.declared.variant.Variant.{Variant}
use Rattle.art_core.specs.declared.process.Process.{Process}
use Rattle.art_core.specs.Core.{State}
use Rattle.art_schedules.specs.versions.Versions.{IsOpen, IsHeld, filled_by}

abbrev pub IsHeldBy : Variant → Shape → State → ℕ → ℕ → Type 0
IsHeldBy variant shape s p base = (x : IsHeld variant shape s base) × (x.holder ≡ p)

pub record IsFilledBy (variant : Variant) (shape : Shape) (s : State) (p base : ℕ) : Type 0 where
  pub call : Call
  pub process : Process
  pub is_open : IsOpen s p call process
  pub kind : Kind
  pub fills : filled_by variant shape call process ≡ (base, kind) ∷ []

-- in the later state p holds the row, from the version that it has in the earlier one
abbrev pub IsTakenBy : Variant → Shape → State → ℕ → State → ℕ → Type 0
IsTakenBy variant shape s p later base = (x : IsHeld variant shape later base) × (x.holder ≡ p) × (slice_index s.words base ≡ x.row.kept)

-- process p may write the word in the step to a later state: it holds or fills the row, or the word is the version by which it takes the
-- row
abbrev pub MayWrite : Variant → Shape → State → ℕ → State → ℕ → ℕ → Type 0
MayWrite variant shape s p later base word =
    IsHeldBy variant shape s p base ⊎ ((word ≡ base) × IsTakenBy variant shape s p later base) ⊎ IsFilledBy variant shape s p base

-- Each word of a row that the step of process p changes is one that it may write.
abbrev pub WritesOwn : Variant → Shape → State → ℕ → State → Type 0
WritesOwn variant shape s p later = (base : ℕ) (kind : Kind) → kind_at shape base ≡ Some kind → (word : ℕ) → base ≤ word
    → word < base + row_words kind
    → slice_index later.words word ≢ slice_index s.words word → MayWrite variant shape s p later base word
