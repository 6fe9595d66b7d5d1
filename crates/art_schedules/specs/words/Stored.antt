-- What a word of a row can say.
use Rattle.std.specs.Prelude.{◌≡◌, ◌^◌, ◌<◌, Some}
use Rattle.art_rows.specs.declared.table.Shape.{Shape}
use Rattle.art_rows.specs.declared.table.Child.{Child}
use Rattle.art_rows.specs.declared.table.Child.TheVariants.{Empty, Row, Leaf}
use Rattle.art_rows.specs.Table.{kind_at}

-- a child that a child word can say: none, a row of the table, or a leaf whose value has 30 bits
abbrev pub IsStored : Shape → Child → Type 0
IsStored s Empty = Unit {0}
IsStored s (Row base kind) = kind_at s base ≡ Some kind
IsStored s (Leaf key value) = value < 2 ^ 30

-- a child whose word has 64 bits
abbrev pub IsShort : Child → Type 0
IsShort Empty = Unit {0}
IsShort (Row base kind) = base < 2 ^ 61
IsShort (Leaf key value) = (key < 2 ^ 32) × (value < 2 ^ 30)
