-- How the work of a call, which held a row and releases it, comes to be an effect.
use Rattle.std.specs.Prelude.{◌≡◌, ℕ, ◌<◌, ◌^◌, List, take, slice_index}
use Rattle.art_rows.specs.declared.table.Shape.{Shape}
use Rattle.art_rows.specs.declared.table.Kind.{Kind}
use Rattle.art_rows.specs.declared.table.Kind.TheVariants.{Four}
use Rattle.art_rows.specs.declared.table.Child.TheVariants.{Empty, Row, Leaf}
use Rattle.art_rows.specs.Words.{key_bytes, info_word, row_word, leaf_word}
use Rattle.art_core.specs.Meaning.{child_on}
use Rattle.art_core.specs.Forms.{level_in, path_in}
use Rattle.art_schedules.specs.trees.Trees.{IsAtRest, SameRow, LeadsTo, IsFree, Parts}
use Rattle.art_schedules.specs.changes.Rows.{OneRow, IsFilled}
use Rattle.art_schedules.specs.changes.Effects.{PutsLeaf, RemovesLeaf, HangsPair, HangsGrown, HasEffect}
use Rattle.art_schedules.specs.changes.Written.{IsUnreached, IsPairRow, IsCopy, HasWordAt}

-- A leaf stored in its slot, over nothing or over the key's leaf, is put;
abbrev pub StoredLeavesArePut : Type 0
StoredLeavesArePut = (s : Shape) (n : ℕ) (calm later : List ℕ) (base : ℕ) (kind : Kind) (x slot key value : ℕ) → IsAtRest s n calm
    → OneRow s calm later base kind → LeadsTo s calm key base kind x → IsFree s calm key base kind x → key < 2 ^ 32 → value < 2 ^ 30
    → HasWordAt calm later base kind x slot (leaf_word key value) → HasEffect s calm later (PutsLeaf base kind x key value)

-- 0 stored there removes it.
abbrev pub StoredZerosRemove : Type 0
StoredZerosRemove = (s : Shape) (n : ℕ) (calm later : List ℕ) (base : ℕ) (kind : Kind) (x slot key : ℕ) → IsAtRest s n calm
    → OneRow s calm later base kind → LeadsTo s calm key base kind x → IsFree s calm key base kind x
    → HasWordAt calm later base kind x slot 0
    → HasEffect s calm later (RemovesLeaf base kind x key)

-- A pair that was written, and whose row was put into the slot of the byte, counts as hung there.
abbrev pub WrittenPairsAreHung : Type 0
WrittenPairsAreHung = (s : Shape) (n : ℕ) (calm later written : List ℕ) (base : ℕ) (kind : Kind) (x slot key value fresh d a : ℕ)
    → IsAtRest s n calm
    → OneRow s calm later base kind → LeadsTo s calm key base kind x → Parts calm key d a (child_on s calm base kind x)
    → HasWordAt calm later base kind x slot (row_word fresh)
    → IsPairRow s written fresh d (take d (key_bytes key)) (record { byte = a; child = child_on s calm base kind x })
    (record { byte = slice_index (key_bytes key) d; child = Leaf key value })
    → SameRow written calm fresh Four → IsUnreached s calm fresh → IsFilled s calm later fresh Four
    → HasEffect s calm later (HangsPair base kind x key value fresh d a)

-- A row that was copied from a full one, and hung in its slot, is hung.
abbrev pub WrittenRowsAreHung : Type 0
WrittenRowsAreHung = (s : Shape) (n : ℕ) (calm later words written : List ℕ) (base : ℕ) (kind : Kind) (x slot key value full : ℕ)
    (full_kind : Kind)
    (y fresh : ℕ) (larger : Kind) → IsAtRest s n calm → OneRow s calm later base kind → LeadsTo s calm key base kind x
    → child_on s calm base kind x ≡ Row full full_kind → LeadsTo s calm key full full_kind y → child_on s calm full full_kind y ≡ Empty
    → HasWordAt calm later base kind x slot (row_word fresh)
    → IsCopy s words written full full_kind fresh larger (info_word larger (level_in calm full full_kind) (path_in calm full full_kind))
    y (Leaf key value)
    → SameRow words calm full full_kind → SameRow written calm fresh larger → IsUnreached s calm fresh → IsFilled s calm later fresh larger
    → HasEffect s calm later (HangsGrown base kind x key value full full_kind y fresh larger)
