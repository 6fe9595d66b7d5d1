-- Trees in a table at rest, and what a change of one row makes of them.
use Rattle.std.specs.Prelude.{◌≡◌, ◌≢◌, ◌⊎◌, ◌↔◌, ℕ, ◌+◌, ◌<◌, ◌≤◌, ◌^◌, false, List, [], ◌++◌, length, take, slice_index, All, Some, None}
use Rattle.map_object.specs.MapObject.{Contents, value_at, put, below, above}
use Rattle.art_rows.specs.declared.table.Shape.{Shape}
use Rattle.art_rows.specs.declared.table.Kind.{Kind}
use Rattle.art_rows.specs.declared.table.Kind.TheVariants.{Four}
use Rattle.art_rows.specs.declared.table.Child.{Child}
use Rattle.art_rows.specs.declared.table.Child.TheVariants.{Empty, Row, Leaf}
use Rattle.art_rows.specs.Table.{row_words, rows_of, table_words, claims_of, base_of, info_at, opening}
use Rattle.art_rows.specs.Words.{is_obsolete, key_bytes, first_difference, info_word}
use Rattle.art_core.specs.Meaning.{Reached, child_on, Means, AllUnlocked, pairs_of}
use Rattle.art_core.specs.Forms.{HasForm, IsTree, level_in, path_in}

-- a claim has reached the row's number
pub record IsClaimed (s : Shape) (words : List ℕ) (base : ℕ) (kind : Kind) : Type 0 where
  pub number : ℕ
  pub claimed : number < slice_index words (claims_of kind)
  pub within : number < rows_of s kind
  pub is : base ≡ base_of s kind number

-- the row of this number, where there is one, has only zeros
abbrev pub IsUnused : Shape → List ℕ → Kind → ℕ → Type 0
IsUnused s words kind number = number < rows_of s kind → (word : ℕ) → base_of s kind number ≤ word
    → word < base_of s kind number + row_words kind
    → slice_index words word ≡ 0

-- a row whose number no claim has reached has only zeros
abbrev pub AreZeroPastClaims : Shape → List ℕ → Type 0
AreZeroPastClaims s words = (kind : Kind) (number : ℕ) → slice_index words (claims_of kind) ≤ number → IsUnused s words kind number

-- A table between calls while nobody else runs. No row is locked, the words are a tree, and no row
-- of it is obsolete. Each row of it was claimed, at most n claims of each kind were made, and a row
-- that was not claimed has only zeros.
pub record IsAtRest (s : Shape) (n : ℕ) (words : List ℕ) : Type 0 where
  pub long : length words ≡ table_words s
  pub small : All (λ w. w < 2 ^ 64) words
  pub unlocked : AllUnlocked s words
  pub tree : IsTree s words
  pub live : (base : ℕ) (kind : Kind) → Reached s words base kind → is_obsolete (slice_index words base) ≡ false
  pub claims : (kind : Kind) → slice_index words (claims_of kind) ≤ n
  pub claimed : (base : ℕ) (kind : Kind) → Reached s words base kind → IsClaimed s words base kind
  pub fresh : AreZeroPastClaims s words

-- Two tables say the same of a row: all its words except the version are the same.
abbrev pub SameRow : List ℕ → List ℕ → ℕ → Kind → Type 0
SameRow words later base kind = (j : ℕ) → 1 ≤ j → j < row_words kind → slice_index later (base + j) ≡ slice_index words (base + j)

-- both lists have the same words of each row that is reached from the root
abbrev pub SameTree : Shape → List ℕ → List ℕ → Type 0
SameTree s words later = (base : ℕ) (kind : Kind) → Reached s words base kind → SameRow words later base kind

-- The key's way leads to this row: it is reached, its path is the beginning of the key, and byte x
-- of the key selects one of its children.
pub record LeadsTo (s : Shape) (words : List ℕ) (key base : ℕ) (kind : Kind) (x : ℕ) : Type 0 where
  pub reached : Reached s words base kind
  pub path : take (level_in words base kind) (key_bytes key) ≡ path_in words base kind
  pub byte : x ≡ slice_index (key_bytes key) (level_in words base kind)

-- One byte x of a row that is reached has another child, and nothing else of the tree has changed but that rows may be reached by it.
pub record ChangesAt (s : Shape) (words later : List ℕ) (base : ℕ) (kind : Kind) (x : ℕ) (child : Child) : Type 0 where
  pub others : (b : ℕ) (k : Kind) → Reached s words b k → b ≢ base → SameRow words later b k
  pub info : slice_index later (info_at base) ≡ slice_index words (info_at base)
  pub form : HasForm later base kind
  pub other_bytes : (y : ℕ) → y < 256 → y ≢ x → child_on s later base kind y ≡ child_on s words base kind y
  pub here : child_on s later base kind x ≡ child

-- The later table is a tree of the same rows, which means these pairs.
pub record HasRows (s : Shape) (words later : List ℕ) (pairs : Contents) : Type 0 where
  pub tree : IsTree s later
  pub rows : (b : ℕ) (k : Kind) → Reached s later b k ↔ Reached s words b k
  pub means : Means s later pairs

-- ---- laws

-- The table as it is opened is at rest, and means no pairs.
abbrev pub TablesOpenAtRest : Type 0
TablesOpenAtRest = (s : Shape) → 1 ≤ s.rows256 → IsAtRest s 1 (opening s) × Means s (opening s) []

-- Tables that say the same of each row that is reached are the same tree.
abbrev pub SameTreesAreOne : Type 0
SameTreesAreOne = (s : Shape) (words later : List ℕ) (m : Contents) → IsTree s words → Means s words m → SameTree s words later
    → HasRows s words later m

-- Leaves have keys and values that a tree can hold, and two keys part at a byte.
abbrev pub LeavesAreSmall : Type 0
LeavesAreSmall = (s : Shape) (words : List ℕ) (base : ℕ) (kind : Kind) (x key value : ℕ) → All (λ w. w < 2 ^ 64) words
    → child_on s words base kind x ≡ Leaf key value → (key < 2 ^ 32) × (value < 2 ^ 30)

abbrev pub KeysPart : Type 0
KeysPart = (a b : ℕ) → a < 2 ^ 32 → b < 2 ^ 32 → a ≢ b → (d : ℕ) × (first_difference (key_bytes a) (key_bytes b) ≡ Some d)

-- What the map has at a key is what hangs on the key's byte of a row that the key's way leads to.
abbrev pub WaysLeadToValues : Type 0
WaysLeadToValues = (s : Shape) (words : List ℕ) (m : Contents) (key base : ℕ) (kind : Kind) (x : ℕ) → IsTree s words → Means s words m
    → LeadsTo s words key base kind x
    → (child_on s words base kind x ≡ Empty → value_at m key ≡ None)
    × ((k value : ℕ) → child_on s words base kind x ≡ Leaf k value → (k ≡ key → value_at m key ≡ Some value)
    × (k ≢ key → value_at m key ≡ None))
    × ((b d : ℕ) (k : Kind) → child_on s words base kind x ≡ Row b k → first_difference (path_in words b k) (key_bytes key) ≡ Some d
    → value_at m key ≡ None)

-- the byte's child is empty, or the key's leaf
abbrev pub IsFree : Shape → List ℕ → ℕ → ℕ → Kind → ℕ → Type 0
IsFree s words key base kind x = (child_on s words base kind x ≡ Empty) ⊎ ((value : ℕ) × (child_on s words base kind x ≡ Leaf key value))

-- If the key's leaf is put on its byte, the map has the value at the key;
abbrev pub LeavesArePut : Type 0
LeavesArePut = (s : Shape) (words later : List ℕ) (m : Contents) (key value base : ℕ) (kind : Kind) (x : ℕ)
    → IsTree s words → Means s words m
    → LeadsTo s words key base kind x → IsFree s words key base kind x → ChangesAt s words later base kind x (Leaf key value)
    → HasRows s words later (put key value m)

-- if its byte is made empty, the key is absent.
abbrev pub LeavesAreRemoved : Type 0
LeavesAreRemoved = (s : Shape) (words later : List ℕ) (m : Contents) (key base : ℕ) (kind : Kind) (x : ℕ) → IsTree s words → Means s words m
    → LeadsTo s words key base kind x → IsFree s words key base kind x → ChangesAt s words later base kind x Empty
    → HasRows s words later (below key m ++ above key m)

-- A row that was not reached, of two children: the old child under byte a, and the key's leaf under byte b of the level d.
pub record IsPair (s : Shape) (words later : List ℕ) (key value row d a b : ℕ) (child : Child) : Type 0 where
  pub new : (k : Kind) → Reached s words row k → ⊥
  pub form : HasForm later row Four
  pub info : slice_index later (info_at row) ≡ info_word Four d (take d (key_bytes key))
  pub byte : b ≡ slice_index (key_bytes key) d
  pub old : child_on s later row Four a ≡ child
  pub leaf : child_on s later row Four b ≡ Leaf key value
  pub rest : (y : ℕ) → y < 256 → y ≢ a → y ≢ b → child_on s later row Four y ≡ Empty

-- The child's keys part from the key at byte d, where they have byte a: another key's leaf, or a row whose path is not the beginning of the
-- key.
abbrev pub Parts : List ℕ → ℕ → ℕ → ℕ → Child → Type 0
Parts words key d a Empty = ⊥
Parts words key d a (Leaf k value) = (first_difference (key_bytes k) (key_bytes key) ≡ Some d) × (a ≡ slice_index (key_bytes k) d)
Parts words key d a (Row b kind) = (first_difference (path_in words b kind) (key_bytes key) ≡ Some d)
    × (a ≡ slice_index (path_in words b kind) d)

-- the rows are those that were reached, and this one
abbrev pub HasRowMore : Shape → List ℕ → List ℕ → ℕ → Kind → Type 0
HasRowMore s words later row kind =
    (b : ℕ) (k : Kind) → Reached s later b k ↔ (Reached s words b k ⊎ ((b ≡ row) × (k ≡ kind)))

-- If a pair is hung in the place of a child whose keys part from the key, the map has the value at
-- the key.
abbrev pub PairsAreHung : Type 0
PairsAreHung =
    (s : Shape) (words later : List ℕ) (m : Contents) (key value base : ℕ) (kind : Kind) (x row d a b : ℕ)
    → IsTree s words → Means s words m
    → LeadsTo s words key base kind x → Parts words key d a (child_on s words base kind x)
    → IsPair s words later key value row d a b (child_on s words base kind x) → ChangesAt s words later base kind x (Row row Four)
    → IsTree s later × HasRowMore s words later row Four × Means s later (put key value m)

-- A row that was not reached has the level, the path and the children of another, and the key's
-- leaf on a byte that the other lacks.
pub record IsGrown (s : Shape) (words later : List ℕ) (key value base : ℕ) (kind : Kind) (row : ℕ) (larger : Kind) (x : ℕ) : Type 0 where
  pub new : (k : Kind) → Reached s words row k → ⊥
  pub form : HasForm later row larger
  pub info : slice_index later (info_at row) ≡ info_word larger (level_in words base kind) (path_in words base kind)
  pub absent : child_on s words base kind x ≡ Empty
  pub leaf : child_on s later row larger x ≡ Leaf key value
  pub rest : (y : ℕ) → y < 256 → y ≢ x → child_on s later row larger y ≡ child_on s words base kind y

-- the rows are those that were reached, with this one in the place of another
abbrev pub HasRowInPlace : Shape → List ℕ → List ℕ → ℕ → ℕ → Kind → Type 0
HasRowInPlace s words later base row larger =
    (b : ℕ) (k : Kind) → Reached s later b k ↔ ((Reached s words b k × (b ≢ base)) ⊎ ((b ≡ row) × (k ≡ larger)))

-- One byte x of a row that is reached has another child, and nothing else of the tree has changed, but that nothing is said of one row.
pub record ChangesAtBut (s : Shape) (words later : List ℕ) (base : ℕ) (kind : Kind) (x but : ℕ) (child : Child) : Type 0 where
  pub others : (b : ℕ) (k : Kind) → Reached s words b k → b ≢ base → b ≢ but → SameRow words later b k
  pub info : slice_index later (info_at base) ≡ slice_index words (info_at base)
  pub form : HasForm later base kind
  pub other_bytes : (y : ℕ) → y < 256 → y ≢ x → child_on s later base kind y ≡ child_on s words base kind y
  pub here : child_on s later base kind x ≡ child

-- If a grown row is hung in the place of the row, in the row above it, the map has the value at the
-- key.
abbrev pub GrownRowsAreHung : Type 0
GrownRowsAreHung = (s : Shape) (words later : List ℕ) (m : Contents) (key value above_base : ℕ) (above_kind : Kind) (y base : ℕ)
    (kind : Kind) (x row : ℕ)
    (larger : Kind) → IsTree s words → Means s words m → LeadsTo s words key above_base above_kind y
    → child_on s words above_base above_kind y ≡ Row base kind → LeadsTo s words key base kind x
    → IsGrown s words later key value base kind row larger x → ChangesAtBut s words later above_base above_kind y base (Row row larger)
    → IsTree s later × HasRowInPlace s words later base row larger × Means s later (put key value m)

-- The words mean only one list of pairs.
abbrev pub MapsAreOne : Type 0
MapsAreOne = (s : Shape) (words : List ℕ) (m n : Contents) → Means s words m → Means s words n → m ≡ n

-- A walk down from the root, by rising bytes, finds the pairs that the tree means.
abbrev pub TreesAreWalked : Type 0
TreesAreWalked = (s : Shape) (words : List ℕ) → IsTree s words → All (λ w. w < 2 ^ 64) words → Means s words (pairs_of s words)
