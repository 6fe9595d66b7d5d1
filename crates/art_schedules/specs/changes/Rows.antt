-- Two lists of the words of a table, a calm one and a later one, that differ in one row.
use Rattle.std.specs.Prelude.{◌≡◌, ◌≢◌, ℕ, ◌+◌, ◌<◌, ◌≤◌, ◌^◌, false, List, length, slice_index, All, Some}
use Rattle.art_rows.specs.declared.table.Shape.{Shape}
use Rattle.art_rows.specs.declared.table.Kind.{Kind}
use Rattle.art_rows.specs.declared.table.Child.{Child}
use Rattle.art_rows.specs.Table.{row_words, claims_of, kind_at, info_at}
use Rattle.art_rows.specs.Words.{is_locked, is_obsolete}
use Rattle.art_core.specs.Meaning.{child_on}
use Rattle.art_core.specs.Forms.{HasForm}
use Rattle.art_schedules.specs.writes.Writes.{IsOutside}
use Rattle.art_schedules.specs.trees.Trees.{IsClaimed}

-- Each word of each other row is the same, claims may have risen, and the row is neither locked nor
-- obsolete. The clock may be any number.
pub record OneRow (s : Shape) (calm later : List ℕ) (base : ℕ) (kind : Kind) : Type 0 where
  pub row : kind_at s base ≡ Some kind
  pub long : length later ≡ length calm
  pub small : All (λ w. w < 2 ^ 64) later
  pub claims : (k : Kind) → slice_index calm (claims_of k) ≤ slice_index later (claims_of k)
  pub others : (b : ℕ) (k : Kind) (j : ℕ) → kind_at s b ≡ Some k → b ≢ base → j < row_words k
      → slice_index later (b + j) ≡ slice_index calm (b + j)
  pub unlocked : is_locked (slice_index later base) ≡ false
  pub live : is_obsolete (slice_index later base) ≡ false

-- the words after the claims that are none of the row's are the same
abbrev pub SameOutside : List ℕ → List ℕ → ℕ → Kind → Type 0
SameOutside calm later base kind = (word : ℕ) → 5 ≤ word → IsOutside base kind word → slice_index later word ≡ slice_index calm word

-- The row has this child on a byte, and is in form; its info and the children on its other bytes are as they were.
pub record HasNewChild (s : Shape) (calm later : List ℕ) (base : ℕ) (kind : Kind) (x : ℕ) (child : Child) : Type 0 where
  pub form : HasForm later base kind
  pub info : slice_index later (info_at base) ≡ slice_index calm (info_at base)
  pub others : (y : ℕ) → y < 256 → y ≢ x → child_on s later base kind y ≡ child_on s calm base kind y
  pub here : child_on s later base kind x ≡ child

-- a row that was claimed and is not obsolete
pub record IsFilled (s : Shape) (calm later : List ℕ) (row : ℕ) (kind : Kind) : Type 0 where
  pub claimed : IsClaimed s later row kind
  pub live : is_obsolete (slice_index calm row) ≡ false
