-- What the words of a row say, for every number, and the words that say it. A number that does not
-- have the form of its place is read as 0.
use Rattle.std.specs.Prelude.{ℕ, zero, suc, ◌+◌, ◌-◌, ◌*◌, ◌/◌, ◌%◌, ◌^◌, Bool, true, ◌==◌, nat_le, nat_lt, if◌then◌else◌, List, [], ◌∷◌}
use Rattle.std.specs.Prelude.{◌++◌, length, map}
use Rattle.std.specs.Prelude.{take, drop, Option, Some, None, option_map}
use Rattle.art_rows.specs.declared.table.Shape.{Shape}
use Rattle.art_rows.specs.declared.table.Kind.{Kind}
use Rattle.art_rows.specs.declared.table.Kind.TheVariants.{Four, Sixteen, FortyEight, Full}
use Rattle.art_rows.specs.declared.table.Child.{Child}
use Rattle.art_rows.specs.declared.table.Child.TheVariants.{Empty, Row, Leaf}
use Rattle.art_rows.specs.Table.{kind_at}

-- Bytes in a word, the lowest first.

abbrev pub packed : List ℕ → ℕ
packed [] = 0
packed (b ∷ bs) = b + 256 * packed bs

abbrev pub low_bytes : ℕ → ℕ → List ℕ
low_bytes zero w = []
low_bytes (suc n) w = w % 256 ∷ low_bytes n (w / 256)

-- Version: bit 0 obsolete, bit 1 locked, a counter from bit 2.

abbrev pub is_obsolete : ℕ → Bool
is_obsolete v = v % 2 == 1

abbrev pub is_locked : ℕ → Bool
is_locked v = (v / 2) % 2 == 1

-- a row that was locked from v is locked with this word,
abbrev pub locked_word : ℕ → ℕ
locked_word v = (v + 2) % 2 ^ 64

-- is released with this one,
abbrev pub released_word : ℕ → ℕ
released_word v = (v + 4) % 2 ^ 64

-- or released as obsolete with this one
abbrev pub obsolete_word : ℕ → ℕ
obsolete_word v = ((v - v % 2) + 5) % 2 ^ 64

-- Keys: four bytes, the greatest first.

abbrev pub key_bytes : ℕ → List ℕ
key_bytes key = (key / 2 ^ 24) % 256 ∷ (key / 2 ^ 16) % 256 ∷ (key / 2 ^ 8) % 256 ∷ key % 256 ∷ []

-- the number of the greatest bytes
abbrev pub big_endian : ℕ → List ℕ → ℕ
big_endian n [] = n
big_endian n (b ∷ bs) = big_endian (256 * n + b) bs

-- the first place where two lists differ, up to the end of either
abbrev pub first_difference : List ℕ → List ℕ → Option ℕ
first_difference [] ys = None
first_difference (x ∷ xs) [] = None
first_difference (x ∷ xs) (y ∷ ys) = if x == y then option_map (λ d. d + 1) (first_difference xs ys) else Some 0

-- Info: kind, level and path.

pub record Info : Type 0 where
  pub level : ℕ
  pub path : List ℕ

abbrev pub kind_code : Kind → ℕ
kind_code Four = 0
kind_code Sixteen = 1
kind_code FortyEight = 2
kind_code Full = 3

abbrev pub info_word : Kind → ℕ → List ℕ → ℕ
info_word kind level path = kind_code kind + 4 * level + 256 * packed path

abbrev pub info_of : Kind → ℕ → Info
info_of kind w =
    if w % 4 == kind_code kind
    then record { level = (w / 4) % 4; path = low_bytes ((w / 4) % 4) (w / 256) }
    else record { level = 0; path = [] }

-- Keys of the kinds 4 and 16: the bytes at the places below the count.

abbrev pub keys4_word : List ℕ → ℕ
keys4_word keys = length keys + 256 * packed keys

abbrev pub keys4_of : ℕ → List ℕ
keys4_of w = if nat_le (w % 256) 4 then low_bytes (w % 256) (w / 256) else []

abbrev pub keys16_word : List ℕ → ℕ
keys16_word keys = packed (take 8 keys)

abbrev pub more_keys16_word : List ℕ → ℕ
more_keys16_word keys = packed (take 8 (drop 8 keys))

-- a count past what the kind can have is read as 0
abbrev pub count_of : ℕ → ℕ → ℕ
count_of most w = if nat_le w most then w else 0

abbrev pub keys16_of : ℕ → ℕ → ℕ → List ℕ
keys16_of count first second = take (count_of 16 count) (low_bytes 8 first ++ low_bytes 8 second)

-- the first place of a byte
abbrev pub place_of : ℕ → List ℕ → Option ℕ
place_of x [] = None
place_of x (y ∷ ys) = if y == x then Some 0 else option_map (λ i. i + 1) (place_of x ys)

-- where an absent byte belongs: after all that are less
abbrev pub new_place : ℕ → List ℕ → ℕ
new_place x [] = 0
new_place x (y ∷ ys) = if nat_lt y x then suc (new_place x ys) else new_place x ys

abbrev pub with_key : ℕ → List ℕ → List ℕ
with_key x keys = take (new_place x keys) keys ++ x ∷ drop (new_place x keys) keys

-- Index of kind 48: a word has the entries of eight bytes; 0 means absent, and e means child e - 1.

abbrev pub entry_of : ℕ → ℕ
entry_of e = if nat_le e 48 then e else 0

abbrev pub entries_of : ℕ → List ℕ
entries_of w = map entry_of (low_bytes 8 w)

abbrev pub entries_word : List ℕ → ℕ
entries_word es = packed es

-- Children.

abbrev pub row_word : ℕ → ℕ
row_word base = 4 * base + 1

abbrev pub leaf_word : ℕ → ℕ → ℕ
leaf_word key value = key * 2 ^ 32 + value * 4 + 2

-- a row, if one of the table begins there
abbrev pub row_child : ℕ → Option Kind → Child
row_child base None = Empty
row_child base (Some kind) = Row base kind

abbrev pub child_of : Shape → ℕ → Child
child_of s w =
    if w % 4 == 1 then row_child (w / 4) (kind_at s (w / 4))
    else if w % 4 == 2 then Leaf (w / 2 ^ 32) ((w % 2 ^ 32) / 4)
    else Empty

abbrev pub child_word : Child → ℕ
child_word Empty = 0
child_word (Row base kind) = row_word base
child_word (Leaf key value) = leaf_word key value

-- whether a leaf's value is within the trees' values
abbrev pub is_small_child : Child → Bool
is_small_child (Leaf key value) = nat_lt value (2 ^ 30)
is_small_child child = true
