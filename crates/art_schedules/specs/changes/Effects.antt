-- What a change of one row of a calm table can do to its tree, and what each makes of the map.
use Rattle.std.specs.Prelude.{◌≡◌, ℕ, List, ◌++◌, slice_index}
use Rattle.map_object.specs.MapObject.{Contents, put, below, above}
use Rattle.art_rows.specs.declared.table.Shape.{Shape}
use Rattle.art_rows.specs.declared.table.Kind.{Kind}
use Rattle.art_rows.specs.declared.table.Kind.TheVariants.{Four}
use Rattle.art_rows.specs.declared.table.Child.TheVariants.{Empty, Row, Leaf}
use Rattle.art_rows.specs.Words.{key_bytes}
use Rattle.art_core.specs.Meaning.{Reached, child_on}
use Rattle.art_schedules.specs.trees.Trees.{SameRow, LeadsTo, IsFree, IsPair, Parts, IsGrown, IsClaimed}
use Rattle.art_schedules.specs.changes.Rows.{HasNewChild, IsFilled}

-- The row that changes is (base, kind) in each; x is the byte of it that has another child.
pub data Effect : Type 0 where
  -- nothing: all its words except the version are the same
  Keeps : (base : ℕ) (kind : Kind) → Effect
  -- nothing: the row is not reached, like one that is being filled
  Fills : (base : ℕ) (kind : Kind) → Effect
  PutsLeaf : (base : ℕ) (kind : Kind) (x : ℕ) (key value : ℕ) → Effect
  RemovesLeaf : (base : ℕ) (kind : Kind) (x : ℕ) (key : ℕ) → Effect
  -- a fresh row of kind 4 has the old child on byte a, and the leaf on the key's byte of level d
  HangsPair : (base : ℕ) (kind : Kind) (x : ℕ) (key value fresh d a : ℕ) → Effect
  -- a fresh row of a larger kind has what the full row on the byte has, and the leaf on byte y
  HangsGrown : (base : ℕ) (kind : Kind) (x : ℕ) (key value full : ℕ) (full_kind : Kind) (y fresh : ℕ) (larger : Kind) → Effect

abbrev pub base_of_effect : Effect → ℕ
base_of_effect (Keeps base kind) = base
base_of_effect (Fills base kind) = base
base_of_effect (PutsLeaf base kind x key value) = base
base_of_effect (RemovesLeaf base kind x key) = base
base_of_effect (HangsPair base kind x key value fresh d a) = base
base_of_effect (HangsGrown base kind x key value full full_kind y fresh larger) = base

abbrev pub kind_of_effect : Effect → Kind
kind_of_effect (Keeps base kind) = kind
kind_of_effect (Fills base kind) = kind
kind_of_effect (PutsLeaf base kind x key value) = kind
kind_of_effect (RemovesLeaf base kind x key) = kind
kind_of_effect (HangsPair base kind x key value fresh d a) = kind
kind_of_effect (HangsGrown base kind x key value full full_kind y fresh larger) = kind

-- the map after it
abbrev pub pairs_after : Effect → Contents → Contents
pairs_after (Keeps base kind) m = m
pairs_after (Fills base kind) m = m
pairs_after (PutsLeaf base kind x key value) m = put key value m
pairs_after (RemovesLeaf base kind x key) m = below key m ++ above key m
pairs_after (HangsPair base kind x key value fresh d a) m = put key value m
pairs_after (HangsGrown base kind x key value full full_kind y fresh larger) m = put key value m

-- the row leaves the tree by it
abbrev pub IsGone : Effect → ℕ → Type 0
IsGone (Keeps base kind) b = ⊥
IsGone (Fills base kind) b = ⊥
IsGone (PutsLeaf base kind x key value) b = ⊥
IsGone (RemovesLeaf base kind x key) b = ⊥
IsGone (HangsPair base kind x key value fresh d a) b = ⊥
IsGone (HangsGrown base kind x key value full full_kind y fresh larger) b = b ≡ full

-- the row comes into the tree by it
abbrev pub ComesIn : Effect → ℕ → Kind → Type 0
ComesIn (Keeps base kind) b k = ⊥
ComesIn (Fills base kind) b k = ⊥
ComesIn (PutsLeaf base kind x key value) b k = ⊥
ComesIn (RemovesLeaf base kind x key) b k = ⊥
ComesIn (HangsPair base kind x key value fresh d a) b k = (b ≡ fresh) × (k ≡ Four)
ComesIn (HangsGrown base kind x key value full full_kind y fresh larger) b k = (b ≡ fresh) × (k ≡ larger)

-- The key's leaf is put on its byte, which was empty or had the key's leaf.
pub record IsPutOn (s : Shape) (calm later : List ℕ) (base : ℕ) (kind : Kind) (x key value : ℕ) : Type 0 where
  pub leads : LeadsTo s calm key base kind x
  pub free : IsFree s calm key base kind x
  pub row : HasNewChild s calm later base kind x (Leaf key value)

-- The key's byte is made empty.
pub record IsRemovedFrom (s : Shape) (calm later : List ℕ) (base : ℕ) (kind : Kind) (x key : ℕ) : Type 0 where
  pub leads : LeadsTo s calm key base kind x
  pub free : IsFree s calm key base kind x
  pub row : HasNewChild s calm later base kind x Empty

-- The byte's child, whose keys part from the key at level d, where they have byte a, gives way to a
-- fresh row that the calm tree does not reach. The calm words of the fresh row have this child and
-- the new leaf.
pub record IsPairHung (s : Shape) (calm later : List ℕ) (base : ℕ) (kind : Kind) (x key value fresh d a : ℕ) : Type 0 where
  pub leads : LeadsTo s calm key base kind x
  pub parts : Parts calm key d a (child_on s calm base kind x)
  pub pair : IsPair s calm calm key value fresh d a (slice_index (key_bytes key) d) (child_on s calm base kind x)
  pub filled : IsFilled s calm later fresh Four
  pub row : HasNewChild s calm later base kind x (Row fresh Four)

-- The row on the byte, to which the key's way leads too, gives way to a fresh row that the calm
-- tree does not reach. The calm words of the fresh row have the level, the path and the children of
-- that row, and the new leaf.
pub record IsGrownHung (s : Shape) (calm later : List ℕ) (base : ℕ) (kind : Kind) (x key value full : ℕ) (full_kind : Kind)
    (y fresh : ℕ) (larger : Kind)
    : Type 0 where
  pub above : LeadsTo s calm key base kind x
  pub hangs : child_on s calm base kind x ≡ Row full full_kind
  pub leads : LeadsTo s calm key full full_kind y
  pub grown : IsGrown s calm calm key value full full_kind fresh larger y
  pub filled : IsFilled s calm later fresh larger
  pub row : HasNewChild s calm later base kind x (Row fresh larger)

-- what each asks of the calm words and the later ones
abbrev pub HasEffect : Shape → List ℕ → List ℕ → Effect → Type 0
HasEffect s calm later (Keeps base kind) = IsClaimed s later base kind × SameRow calm later base kind
HasEffect s calm later (Fills base kind) = IsClaimed s later base kind × ((k : Kind) → Reached s calm base k → ⊥)
HasEffect s calm later (PutsLeaf base kind x key value) = IsPutOn s calm later base kind x key value
HasEffect s calm later (RemovesLeaf base kind x key) = IsRemovedFrom s calm later base kind x key
HasEffect s calm later (HangsPair base kind x key value fresh d a) = IsPairHung s calm later base kind x key value fresh d a
HasEffect s calm later (HangsGrown base kind x key value full full_kind y fresh larger) =
    IsGrownHung s calm later base kind x key value full full_kind y fresh larger
