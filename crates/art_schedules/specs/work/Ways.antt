-- What a call on a key can know of the rows on its way: what calm's words say of the key there.
use Rattle.std.specs.Prelude.{◌≡◌, ℕ, Bool, true, false, List, slice_index, Option, Some, None}
use Rattle.art_rows.specs.declared.table.Child.{Child}
use Rattle.art_rows.specs.Table.{info_at}
use Rattle.art_rows.specs.Words.{child_of, is_obsolete}
use Rattle.art_rows.specs.declared.table.Shape.{Shape}
use Rattle.art_rows.specs.Rows.{Setting, key_of}
use Rattle.art_control_states.specs.declared.stage.HeldRow.{HeldRow}
use Rattle.art_control_states.specs.declared.stage.Keys.{Keys}
use Rattle.art_control_states.specs.declared.stage.Finding.{Finding}
use Rattle.art_control_states.specs.declared.stage.Finding.TheVariants.{Has, Lacks}
use Rattle.art_control_states.specs.Stages.{byte_in}
use Rattle.art_core.specs.Meaning.{slot_of, Reached}
use Rattle.art_schedules.specs.trees.Trees.{LeadsTo, SameRow}
use Rattle.art_schedules.specs.work.Works.{LacksByte}

-- The key's way leads to the row, whose info the call has read, so that level, path and byte are those of the calm table.
pub record IsOnWay (c : Setting) (calm : List ℕ) (n : HeldRow) : Type 0 where
  pub leads : LeadsTo c.shape calm (key_of c.call) n.base n.kind (byte_in c n)
  pub info : slice_index calm (info_at n.base) ≡ n.info

-- the slot for the key's byte, if the calm row has one
abbrev pub slot_in : Setting → List ℕ → HeldRow → Option ℕ
slot_in c calm n = slot_of calm n.base n.kind (byte_in c n)

-- The row has the slot for the key's byte, and in it this child.
pub record HasChild (c : Setting) (calm : List ℕ) (n : HeldRow) (slot : ℕ) (child : Child) : Type 0 where
  pub at : slot_in c calm n ≡ Some slot
  pub has : child_of c.shape (slice_index calm slot) ≡ child

-- The key's way leads to the row, on whose byte of the key this child hangs, in this slot.
abbrev pub HangsOnWay : Setting → List ℕ → HeldRow → ℕ → Child → Type 0
HangsOnWay c calm n slot child = IsOnWay c calm n × HasChild c calm n slot child

-- What was read of a row that lacks the byte: only an insert has to know it. The flag says that the
-- call is an insert.
abbrev pub KnowsKeys : Bool → Setting → List ℕ → HeldRow → Keys → Type 0
KnowsKeys true c calm n keys = LacksByte c n keys calm
KnowsKeys false c calm n keys = slot_in c calm n ≡ None

-- What FIND saw is so of the calm row.
abbrev pub KnowsFinding : Bool → Setting → List ℕ → HeldRow → Finding → Type 0
KnowsFinding i c calm n (Has slot child) = HasChild c calm n slot child
KnowsFinding i c calm n (Lacks keys) = KnowsKeys i c calm n keys

-- the row is one of calm's tree, and was not obsolete when it was taken
pub record IsInTree (shape : Shape) (calm : List ℕ) (row : HeldRow) : Type 0 where
  pub reached : Reached shape calm row.base row.kind
  pub live : is_obsolete row.kept ≡ false

-- both lists have the same words of the row after its version
abbrev pub IsSame : List ℕ → List ℕ → HeldRow → Type 0
IsSame words later row = SameRow words later row.base row.kind
