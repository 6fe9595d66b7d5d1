-- What a call writes in rows that it holds or fills, as a change of a calm table. The words are
-- those on which its work ran alone, the written ones those that it left; the calm words and the
-- later ones say the same of these rows.
use Rattle.std.specs.Prelude.{◌≡◌, ◌≢◌, ℕ, ◌+◌, ◌<◌, ◌≤◌, List, take, slice_index, slice_set, length, Some}
use Rattle.art_rows.specs.declared.table.Shape.{Shape}
use Rattle.art_rows.specs.declared.table.Kind.{Kind}
use Rattle.art_rows.specs.declared.table.Kind.TheVariants.{Four}
use Rattle.art_rows.specs.declared.table.Child.{Child}
use Rattle.art_rows.specs.declared.table.Child.TheVariants.{Empty, Leaf}
use Rattle.art_rows.specs.Table.{row_words, info_at}
use Rattle.art_rows.specs.Words.{key_bytes, info_word, row_word}
use Rattle.art_rows.specs.Updates.{Under}
use Rattle.art_core.specs.Meaning.{Reached, slot_of, child_on}
use Rattle.art_core.specs.Forms.{HasForm, level_in, path_in}
use Rattle.art_schedules.specs.trees.Trees.{IsAtRest, SameRow, IsPair, IsGrown, IsClaimed}
use Rattle.art_schedules.specs.writes.Writes.{HasPut, IsOutside}
use Rattle.art_schedules.specs.changes.Rows.{HasNewChild}

-- no row of the tree begins there
abbrev pub IsUnreached : Shape → List ℕ → ℕ → Type 0
IsUnreached s calm row = (k : Kind) → Reached s calm row k → ⊥

-- ---- a child in a row that is held

-- Only the slot of the byte has changed among the words after the row's version: it is this word.
pub record HasWordAt (calm later : List ℕ) (base : ℕ) (kind : Kind) (x slot word : ℕ) : Type 0 where
  pub at : slot_of calm base kind x ≡ Some slot
  pub others : (j : ℕ) → 1 ≤ j → j < row_words kind → base + j ≢ slot → slice_index later (base + j) ≡ slice_index calm (base + j)
  pub here : slice_index later slot ≡ word

-- a row was hung in a slot: of the words outside that row none but the slot has changed
pub record IsHungIn (words written : List ℕ) (fresh : ℕ) (kind : Kind) (slot : ℕ) : Type 0 where
  pub same : (word : ℕ) → 5 ≤ word → word ≢ slot → IsOutside fresh kind word → slice_index written word ≡ slice_index words word
  pub hangs : slice_index written slot ≡ row_word fresh

-- A word that was stored in the slot is the slot's.
abbrev pub StoresAreSlots : Type 0
StoresAreSlots = (words calm later : List ℕ) (base : ℕ) (kind : Kind) (x slot word : ℕ) → x < 256 → slot_of calm base kind x ≡ Some slot
    → slot < length words
    → SameRow words calm base kind → SameRow (slice_set words slot word) later base kind → HasWordAt calm later base kind x slot word

-- The word of a row that was hung into the slot is the slot's.
abbrev pub HungRowsAreSlots : Type 0
HungRowsAreSlots = (s : Shape) (n : ℕ) (words written calm later : List ℕ) (base : ℕ) (kind : Kind) (x slot fresh : ℕ) (larger : Kind)
    → IsAtRest s n calm
    → Reached s calm base kind → x < 256 → slot_of calm base kind x ≡ Some slot → IsHungIn words written fresh larger slot
    → SameRow words calm base kind
    → SameRow written later base kind → IsClaimed s later fresh larger → IsUnreached s calm fresh
    → HasWordAt calm later base kind x slot (row_word fresh)

-- A row that has a new child has it in all words that say the same of the row.
abbrev pub ChildrenAreOfRows : Type 0
ChildrenAreOfRows = (s : Shape) (words written calm later : List ℕ) (base : ℕ) (kind : Kind) (x : ℕ) (child : Child)
    → HasNewChild s words written base kind x child → SameRow words calm base kind → SameRow written later base kind → x < 256
    → HasNewChild s calm later base kind x child

-- A child that was put on a byte is a new child there.
abbrev pub PutsAreChildren : Type 0
PutsAreChildren = (s : Shape) (words written : List ℕ) (base : ℕ) (kind : Kind) (x : ℕ) (child : Child)
    → HasPut s words written base kind x child
    → HasNewChild s words written base kind x child

-- ---- a row that is filled

-- The row has two children, and this level and path.
pub record IsPairRow (s : Shape) (written : List ℕ) (fresh level : ℕ) (path : List ℕ) (a b : Under) : Type 0 where
  pub form : HasForm written fresh Four
  pub info : slice_index written (info_at fresh) ≡ info_word Four level path
  pub first : child_on s written fresh Four a.byte ≡ a.child
  pub second : child_on s written fresh Four b.byte ≡ b.child
  pub others : (y : ℕ) → y < 256 → y ≢ a.byte → y ≢ b.byte → child_on s written fresh Four y ≡ Empty

-- The row has the children of another and one child more, and this info.
pub record IsCopy (s : Shape) (words written : List ℕ) (full : ℕ) (kind : Kind) (fresh : ℕ) (larger : Kind)
    (word_of_info y : ℕ) (child : Child)
    : Type 0 where
  pub form : HasForm written fresh larger
  pub info : slice_index written (info_at fresh) ≡ word_of_info
  pub others : (z : ℕ) → z < 256 → z ≢ y → child_on s written fresh larger z ≡ child_on s words full kind z
  pub put : child_on s written fresh larger y ≡ child

-- A pair that was written is one in all words that say the same of its row, if their tree does not reach it.
abbrev pub PairsAreFresh : Type 0
PairsAreFresh = (s : Shape) (written calm : List ℕ) (key value fresh d a : ℕ) (child : Child)
    → IsPairRow s written fresh d (take d (key_bytes key)) (record { byte = a; child = child })
    (record { byte = slice_index (key_bytes key) d; child = Leaf key value })
    → SameRow written calm fresh Four → a < 256 → IsUnreached s calm fresh
    → IsPair s calm calm key value fresh d a (slice_index (key_bytes key) d) child

-- A copy of a full row is one in all words that say the same of both rows, if their tree does not
-- reach it.
abbrev pub CopiesAreFresh : Type 0
CopiesAreFresh = (s : Shape) (words written calm : List ℕ) (key value full : ℕ) (kind : Kind) (y fresh : ℕ) (larger : Kind)
    → IsCopy s words written full kind fresh larger (info_word larger (level_in calm full kind) (path_in calm full kind)) y (Leaf key value)
    → SameRow words calm full kind → SameRow written calm fresh larger → y < 256 → child_on s calm full kind y ≡ Empty
    → IsUnreached s calm fresh
    → IsGrown s calm calm key value full kind fresh larger y
