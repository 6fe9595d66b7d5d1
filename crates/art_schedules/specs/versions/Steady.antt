-- A row whose version stays does not change.
use Rattle.std.specs.Prelude.{◌≡◌, ℕ, ◌+◌, ◌<◌, ◌≤◌, false, List, slice_index}
use Rattle.art_rows.specs.declared.table.Shape.{Shape}
use Rattle.art_rows.specs.declared.table.Kind.{Kind}
use Rattle.art_rows.specs.Table.{row_words, claims_of}
use Rattle.art_rows.specs.Words.{is_locked}
use Rattle.art_rows.specs.declared.variant.Variant.{Variant}
use Rattle.art_core.specs.Core.{State}
use Rattle.art_schedules.specs.versions.Versions.{IsSettled}

-- the row's words are the same
abbrev pub SameWords : List ℕ → List ℕ → ℕ → Kind → Type 0
SameWords words later base kind = (word : ℕ) → base ≤ word → word < base + row_words kind → slice_index later word ≡ slice_index words word

-- From one state to a later one, claims do not fall, and each row that was settled stays so. The
-- row's version does not fall. If the version is the same and unlocked, all words of the row are
-- the same.
pub record IsSteady (variant : Variant) (shape : Shape) (s later : State) : Type 0 where
  pub claims : (kind : Kind) → slice_index s.words (claims_of kind) ≤ slice_index later.words (claims_of kind)
  pub settled : (base : ℕ) (kind : Kind) → IsSettled variant shape s base kind → IsSettled variant shape later base kind
  pub rises : (base : ℕ) (kind : Kind) → IsSettled variant shape s base kind → slice_index s.words base ≤ slice_index later.words base
  pub stands : (base : ℕ) (kind : Kind) → IsSettled variant shape s base kind → slice_index later.words base ≡ slice_index s.words base
      → is_locked (slice_index s.words base) ≡ false → SameWords s.words later.words base kind
