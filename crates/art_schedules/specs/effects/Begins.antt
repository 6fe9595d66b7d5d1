-- Where the work of a call begins: what holds of calm's tree there.
use Rattle.std.specs.Prelude.{◌≡◌, ◌⊎◌, ℕ, List, slice_index, true, Option, Some, None}
use Rattle.art_rows.specs.declared.table.Child.{Child}
use Rattle.art_rows.specs.declared.table.Child.TheVariants.{Empty, Row, Leaf}
use Rattle.art_rows.specs.Table.{info_at}
use Rattle.art_rows.specs.Words.{child_word}
use Rattle.art_rows.specs.TreeCalls.{is_tree_call}
use Rattle.art_rows.specs.Rows.{Setting, key_of, is_insert}
use Rattle.art_rows.specs.Updates.{new_leaf, overwriting}
use Rattle.art_control_states.specs.declared.stage.HeldRow.{HeldRow}
use Rattle.art_control_states.specs.declared.stage.Hold.{Hold}
use Rattle.art_control_states.specs.declared.stage.Work.{Work}
use Rattle.art_control_states.specs.declared.stage.Work.TheVariants as work
use Rattle.art_control_states.specs.Stages.{byte_in}
use Rattle.art_core.specs.Meaning.{slot_of, child_on}
use Rattle.art_schedules.specs.trees.Trees.{LeadsTo, Parts}
use Rattle.art_schedules.specs.work.Works.{FitsWords}

-- the row that changes: the upper one of those that are held, which is released last
abbrev pub upper_of : HeldRow → Option HeldRow → HeldRow
upper_of row None = row
upper_of row (Some above) = above

abbrev pub upper_row : Hold → HeldRow
upper_row h = upper_of h.row h.above

-- Where a slot is overwritten: the word and the reply that go with the child that is there, which is the key's leaf or none.
abbrev pub IsOverwritten : Setting → ℕ → Option ℕ → Child → Type 0
IsOverwritten c word old Empty = (is_insert c.call ≡ true) × (word ≡ child_word (new_leaf c.call)) × (old ≡ None)
IsOverwritten c word old (Leaf key value) =
    (key ≡ key_of c.call) × (old ≡ Some value)
    × (((is_insert c.call ≡ true) × (word ≡ child_word (new_leaf c.call))) ⊎ (overwriting c.call value ≡ Some word))
IsOverwritten c word old (Row base kind) = ⊥

-- What the work found of the slot on byte x of the upper row, and of the row that takes a child more.
abbrev pub FindsSlot : Setting → List ℕ → Hold → Work → ℕ → Type 0
FindsSlot c calm h (work.Write slot word old) x =
    (h.above ≡ None) × (slot_of calm h.row.base h.row.kind x ≡ Some slot)
    × IsOverwritten c word old (child_on c.shape calm h.row.base h.row.kind x)
FindsSlot c calm h (work.Pair p) x =
    (slot_of calm (upper_row h).base (upper_row h).kind x ≡ Some p.slot) × Parts calm (key_of c.call) p.level p.byte p.child
FindsSlot c calm h (work.Put keys) x = (h.above ≡ None) × (slice_index calm (info_at h.row.base) ≡ h.row.info)
FindsSlot c calm h (work.Grow slot keys) x =
    (h.above ≡ Some (upper_row h)) × (slot_of calm (upper_row h).base (upper_row h).kind x ≡ Some slot)
    × LeadsTo c.shape calm (key_of c.call) h.row.base h.row.kind (byte_in c h.row) × (slice_index calm (info_at h.row.base) ≡ h.row.info)

-- The work fits calm's words of its rows, the key's way leads to the upper row, and the work found there what calm has.
pub record BeginsWork (c : Setting) (calm : List ℕ) (h : Hold) (work : Work) : Type 0 where
  pub call : is_tree_call c.call ≡ true
  pub words : FitsWords c h work calm
  pub byte : ℕ
  pub leads : LeadsTo c.shape calm (key_of c.call) (upper_row h).base (upper_row h).kind byte
  pub finds : FindsSlot c calm h work byte
