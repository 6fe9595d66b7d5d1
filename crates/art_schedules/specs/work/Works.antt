-- What the work of a call finds in the rows that it holds, and what it leaves there.
use Rattle.std.specs.Prelude.{◌≡◌, ◌≢◌, ◌⊎◌, ℕ, ◌<◌, ◌≤◌, ◌^◌, List, length, take, slice_index, slice_set, Some, None}
use Rattle.events.specs.declared.event.Call.{Call}
use Rattle.events.specs.declared.event.Call.TheVariants.{Insert}
use Rattle.art_rows.specs.declared.table.Shape.{Shape}
use Rattle.art_rows.specs.declared.table.Kind.{Kind}
use Rattle.art_rows.specs.declared.table.Kind.TheVariants.{Four}
use Rattle.art_rows.specs.declared.table.Child.{Child}
use Rattle.art_rows.specs.declared.table.Child.TheVariants.{Empty, Row as ChildRow}
use Rattle.art_rows.specs.Table.{capacity, rows_of, base_of, info_at, kind_at}
use Rattle.art_rows.specs.Words.{key_bytes, info_word, row_word, child_of}
use Rattle.art_rows.specs.Rows.{Setting, key_of, byte_at}
use Rattle.art_rows.specs.Updates.{Under, new_leaf, next_kind}
use Rattle.art_control_states.specs.declared.stage.HeldRow.{HeldRow}
use Rattle.art_control_states.specs.declared.stage.Keys.{Keys}
use Rattle.art_control_states.specs.declared.stage.Hold.{Hold}
use Rattle.art_control_states.specs.declared.stage.Work.{Work}
use Rattle.art_control_states.specs.declared.stage.Work.TheVariants as work
use Rattle.art_control_states.specs.declared.stage.Outcome.TheVariants.{Value, Refused}
use Rattle.art_control_states.specs.declared.stage.Stage.{Stage}
use Rattle.art_control_states.specs.declared.stage.Stage.TheVariants.{Unlock, Obsolete}
use Rattle.art_control_states.specs.Stages.{row_at, byte_in, old_child, new_child, count_in, keys_in}
use Rattle.art_control_states.specs.Automaton.{no_value}
use Rattle.art_core.specs.Meaning.{slot_of, child_on}
use Rattle.art_core.specs.Forms.{HasForm}
use Rattle.art_schedules.specs.writes.Writes.{HasPut, IsOutside}
use Rattle.art_schedules.specs.trees.Trees.{IsUnused}
use Rattle.art_schedules.specs.alone.Finding.{count_in_row, keys_in_row}
use Rattle.art_schedules.specs.versions.Holding.{OfRows}

-- the rows of the table
abbrev pub RowsOf : Shape → OfRows
RowsOf s base kind = kind_at s base ≡ Some kind

-- an insert of a value of 30 bits
pub record IsInsert (call : Call) : Type 0 where
  pub key : ℕ
  pub value : ℕ
  pub is : call ≡ Insert key value
  pub small : value < 2 ^ 30

-- The row has form and lacks the key's byte, and the keys are those that the words have.
pub record LacksByte (c : Setting) (n : HeldRow) (seen : Keys) (words : List ℕ) : Type 0 where
  pub form : HasForm words n.base n.kind
  pub absent : slot_of words n.base n.kind (byte_in c n) ≡ None
  pub keys : keys_in n.kind seen ≡ keys_in_row words n.base n.kind (byte_in c n)
  pub count : count_in n.kind seen ≡ count_in_row c.call words n.base n.kind (byte_in c n)

-- The words of the held rows are as the work found them. Of a slot that is overwritten nothing is asked.
abbrev pub FitsWords : Setting → Hold → Work → List ℕ → Type 0
FitsWords c h (work.Write slot word reply) words = Unit {0}
FitsWords c h (work.Pair p) words =
    IsInsert c.call × (child_of c.shape (slice_index words p.slot) ≡ p.child) × (p.child ≢ Empty) × (p.byte < 256)
    × (p.byte ≢ byte_at c p.level)
FitsWords c h (work.Put keys) words = IsInsert c.call × LacksByte c h.row keys words × (count_in h.row.kind keys < capacity h.row.kind)
FitsWords c h (work.Grow slot keys) words =
    IsInsert c.call × LacksByte c h.row keys words × (count_in h.row.kind keys ≡ capacity h.row.kind)
    × (child_of c.shape (slice_index words slot) ≡ ChildRow h.row.base h.row.kind)

-- A fresh row of kind 4, of this level and path, has two children and hangs in a slot: no other word has changed.
pub record PairHangs (s : Shape) (words later : List ℕ) (base slot level : ℕ) (path : List ℕ) (a b : Under) : Type 0 where
  pub long : length later ≡ length words
  pub outside : IsOutside base Four slot
  pub same : (word : ℕ) → word ≢ slot → IsOutside base Four word → slice_index later word ≡ slice_index words word
  pub version : slice_index later base ≡ slice_index words base
  pub info : slice_index later (info_at base) ≡ info_word Four level path
  pub form : HasForm later base Four
  pub first : child_on s later base Four a.byte ≡ a.child
  pub second : child_on s later base Four b.byte ≡ b.child
  pub others : (y : ℕ) → y < 256 → y ≢ a.byte → y ≢ b.byte → child_on s later base Four y ≡ Empty
  pub hangs : slice_index later slot ≡ row_word base

-- A fresh row of the next kind has the children of a full one and one child more, and hangs in a slot: no other word has changed.
pub record GrownHangs (s : Shape) (words later : List ℕ) (old : ℕ) (kind : Kind) (base slot word_of_info x : ℕ)
    (child : Child) : Type 0 where
  pub long : length later ≡ length words
  pub outside : IsOutside base (next_kind kind) slot
  pub same : (word : ℕ) → word ≢ slot → IsOutside base (next_kind kind) word → slice_index later word ≡ slice_index words word
  pub version : slice_index later base ≡ slice_index words base
  pub info : slice_index later (info_at base) ≡ word_of_info
  pub form : HasForm later base (next_kind kind)
  pub others : (y : ℕ) → y < 256 → y ≢ x → child_on s later base (next_kind kind) y ≡ child_on s words old kind y
  pub put : child_on s later base (next_kind kind) x ≡ child
  pub hangs : slice_index later slot ≡ row_word base

-- the first stage at which a held row is released: at every other one before it all rows are held
abbrev pub IsRelease : Hold → Stage → Type 0
IsRelease h at = ((outcome : _) × (at ≡ Unlock h outcome)) ⊎ (at ≡ Obsolete h)

-- A claim got a number that no row of the kind has: no word has changed.
pub record IsRefusal (c : Setting) (h : Hold) (kind : Kind) (number : ℕ) (words : List ℕ) (at : Stage) (later : List ℕ) : Type 0 where
  pub full : rows_of c.shape kind ≤ number
  pub is : at ≡ Unlock h (Some Refused)
  pub same : later ≡ words

-- the row of this number, where the work claims one, is unused
abbrev pub FindsUnused : Setting → Hold → Work → ℕ → List ℕ → Type 0
FindsUnused c h (work.Write slot word reply) number words = Unit {0}
FindsUnused c h (work.Pair p) number words = IsUnused c.shape words Four number
FindsUnused c h (work.Put keys) number words = Unit {0}
FindsUnused c h (work.Grow slot keys) number words = IsUnused c.shape words (next_kind h.row.kind) number

-- What the work has left when it comes to the first release. If it makes a claim, the claim got
-- this number.
abbrev pub IsDoneBy : Setting → Hold → Work → ℕ → List ℕ → Stage → List ℕ → Type 0
IsDoneBy c h (work.Write slot word reply) number words at later = (at ≡ Unlock h (Some (Value reply))) × (later ≡ slice_set words slot word)
IsDoneBy c h (work.Pair p) number words at later =
    IsRefusal c h Four number words at later ⊎ ((number < rows_of c.shape Four) × (at ≡ Unlock h (Some no_value))
    × PairHangs c.shape words later (base_of c.shape Four number) p.slot p.level (take p.level (key_bytes (key_of c.call)))
    (old_child p) (new_child c p))
IsDoneBy c h (work.Put keys) number words at later =
    (at ≡ Unlock h (Some no_value)) × HasPut c.shape words later h.row.base h.row.kind (byte_in c h.row) (new_leaf c.call)
IsDoneBy c h (work.Grow slot keys) number words at later =
    IsRefusal c h (next_kind h.row.kind) number words at later ⊎ ((number < rows_of c.shape (next_kind h.row.kind)) × (at ≡ Obsolete h)
    × GrownHangs c.shape words later h.row.base h.row.kind (base_of c.shape (next_kind h.row.kind) number) slot
    (info_word (next_kind h.row.kind) (row_at h.row).level (row_at h.row).path) (byte_in c h.row) (new_leaf c.call))

abbrev pub IsWorkDone : Setting → Hold → Work → List ℕ → Stage → List ℕ → Type 0
IsWorkDone c h work words at later = (number : ℕ) × FindsUnused c h work number words × IsDoneBy c h work number words at later
