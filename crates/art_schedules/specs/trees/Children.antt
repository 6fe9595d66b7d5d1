-- Children as they are written, and a row of kind 4 with two of them.
use Rattle.std.specs.Prelude.{◌≡◌, ◌<◌, ◌^◌, Some}
use Rattle.art_rows.specs.declared.table.Shape.{Shape}
use Rattle.art_rows.specs.declared.table.Child.{Child}
use Rattle.art_rows.specs.declared.table.Child.TheVariants.{Empty, Row, Leaf}
use Rattle.art_rows.specs.Table.{kind_at}
use Rattle.art_rows.specs.Words.{child_of, child_word}

-- a child that a word can say: a leaf of a key and a value that a tree can hold, or a row that begins there
abbrev pub IsWritable : Shape → Child → Type 0
IsWritable s Empty = Unit {0}
IsWritable s (Row base kind) = kind_at s base ≡ Some kind
IsWritable s (Leaf key value) = (key < 2 ^ 32) × (value < 2 ^ 30)

-- The word of a child says the child.
abbrev pub ChildrenAreRead : Type 0
ChildrenAreRead = (s : Shape) (child : Child) → IsWritable s child → child_of s (child_word child) ≡ child
