-- What a call that runs alone finds of a byte in a row.
use Rattle.std.specs.Prelude.{ℕ, List, [], length, slice_index, if◌then◌else◌, Option, Some, None}
use Rattle.events.specs.declared.event.Call.{Call}
use Rattle.art_rows.specs.declared.table.Shape.{Shape}
use Rattle.art_rows.specs.declared.table.Kind.{Kind}
use Rattle.art_rows.specs.declared.table.Kind.TheVariants.{Four, Sixteen, FortyEight, Full}
use Rattle.art_rows.specs.Table.{keys_at, more_keys_at, index_at, count_at}
use Rattle.art_rows.specs.Words.{keys4_of, keys16_of, count_of, entries_of, child_of}
use Rattle.art_rows.specs.Rows.{Setting, is_insert, Found, Has, Lacks}
use Rattle.art_core.specs.Meaning.{slot_of}

-- the key bytes that the words have for a row; in kind 48 the entries of the byte's index word
abbrev pub keys_in_row : List ℕ → ℕ → Kind → ℕ → List ℕ
keys_in_row words base Four x = keys4_of (slice_index words (keys_at base))
keys_in_row words base Sixteen x =
    keys16_of (slice_index words (count_at Sixteen base)) (slice_index words (keys_at base)) (slice_index words (more_keys_at base))
keys_in_row words base FortyEight x = entries_of (slice_index words (index_at base x))
keys_in_row words base Full x = []

-- the count that a call gets with them: in kind 48 only an insert asks for it
abbrev pub count_in_row : Call → List ℕ → ℕ → Kind → ℕ → ℕ
count_in_row call words base FortyEight x = if is_insert call then count_of 48 (slice_index words (count_at FortyEight base)) else 0
count_in_row call words base kind x = length (keys_in_row words base kind x)

-- what is found at a slot, or where there is none
abbrev pub found_of_slot : Shape → List ℕ → List ℕ → ℕ → Option ℕ → Found
found_of_slot s words keys count None = Lacks keys count
found_of_slot s words keys count (Some slot) = Has slot (child_of s (slice_index words slot))

-- what is found of a byte in a row
abbrev pub found_in : Setting → List ℕ → ℕ → Kind → ℕ → Found
found_in c words base kind x = found_of_slot c.shape words (keys_in_row words base kind x) (count_in_row c.call words base kind x)
    (slot_of words base kind x)
