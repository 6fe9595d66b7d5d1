-- Laws of what inserts write where they run alone.
use Rattle.std.specs.Prelude.{◌≡◌, ◌≢◌, ℕ, ◌+◌, ◌<◌, ◌≤◌, ◌^◌, List, length, take, slice_index, None}
use Rattle.events.specs.declared.event.Call.TheVariants.{Insert}
use Rattle.art_rows.specs.declared.table.Kind.TheVariants.{Four}
use Rattle.art_rows.specs.declared.table.Child.TheVariants.{Leaf}
use Rattle.art_rows.specs.Table.{row_words, rows_of, table_words, claims_of, capacity}
use Rattle.art_rows.specs.Words.{key_bytes}
use Rattle.art_rows.specs.Rows.{Setting, Row, byte_at}
use Rattle.art_rows.specs.Updates.{Under, put_in, pair_in, fill, next_kind}
use Rattle.art_core.specs.Meaning.{slot_of}
use Rattle.art_core.specs.Forms.{HasForm}
use Rattle.art_schedules.specs.words.Stored.{IsStored}
use Rattle.art_schedules.specs.alone.Alone.{Comes}
use Rattle.art_schedules.specs.alone.Finding.{keys_in_row, count_in_row}
use Rattle.art_schedules.specs.writes.Writes.{HasPut, fresh_base, IsOutside, HasPair, IsApart, HasGrown}

-- PUT, of an insert that runs alone, in a row of the table that has form, lacks the byte and is not full.
abbrev pub PutsWriteLeaves : Type 0
PutsWriteLeaves = (c : Setting) (n : Row) (words : List ℕ) (x key value : ℕ) → c.call ≡ Insert key value → value < 2 ^ 30
    → n.base + row_words n.kind ≤ length words → HasForm words n.base n.kind → x < 256 → slot_of words n.base n.kind x ≡ None
    → count_in_row c.call words n.base n.kind x < capacity n.kind
    → (later : List ℕ) × Comes (put_in n.kind c n x (keys_in_row words n.base n.kind x) (count_in_row c.call words n.base n.kind x)) words
    tt later
    × HasPut c.shape words later n.base n.kind x (Leaf key value)

-- PAIR, of an insert that runs alone, where a claim finds a row: it has the child that was in the slot, and the new leaf.
abbrev pub PairsAreWritten : Type 0
PairsAreWritten = (c : Setting) (held : List Row) (slot d : ℕ) (old : Under) (words : List ℕ) (key value : ℕ)
    → c.call ≡ Insert key value → value < 2 ^ 30
    → IsStored c.shape old.child → old.byte < 256 → old.byte ≢ byte_at c d → slice_index words (claims_of Four) < rows_of c.shape Four
    → table_words c.shape ≤ length words → 5 ≤ slot → slot < length words → IsOutside (fresh_base c.shape words Four) Four slot
    → (later : List ℕ) × Comes (pair_in c held slot d old) words tt later
    × HasPair c.shape words later (fresh_base c.shape words Four) slot d (take d (key_bytes key)) old
    (record { byte = byte_at c d; child = Leaf key value })

-- What GROW copies, for an insert that runs alone: from a full row that has form and lacks the
-- byte, to a row of the next kind whose words after its info are 0.
abbrev pub RowsAreFilled : Type 0
RowsAreFilled = (c : Setting) (n : Row) (base : ℕ) (words : List ℕ) (x key value : ℕ) → c.call ≡ Insert key value → value < 2 ^ 30
    → base + row_words (next_kind n.kind) ≤ length words → IsApart n.base n.kind base (next_kind n.kind)
    → ((word : ℕ) → base + 2 ≤ word → word < base + row_words (next_kind n.kind) → slice_index words word ≡ 0)
    → HasForm words n.base n.kind → x < 256 → slot_of words n.base n.kind x ≡ None
    → count_in_row c.call words n.base n.kind x ≡ capacity n.kind
    → (later : List ℕ) × Comes (fill n.kind c n base x (keys_in_row words n.base n.kind x) (count_in_row c.call words n.base n.kind x))
    words tt later
    × HasGrown c.shape words later n.base n.kind base (next_kind n.kind) x (Leaf key value)
