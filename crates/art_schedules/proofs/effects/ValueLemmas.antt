-- What the map has at a call's key, by what hangs on the key's byte of a row on its way; and work that overwrites a slot of such a row.
use Rattle.art_schedules.proofs.Common.{◌≡◌, ◌≢◌, ℕ, ◌<◌, List, true, sym, ap, ◌∙◌, subst, refl, Option, Some, None, Contents, value_at, Kind}
use Rattle.art_schedules.proofs.Common.{Child, Empty, ChildRow, Leaf, key_bytes, first_difference, key_byte-small, is_tree_call, Setting, key_of}
use Rattle.art_schedules.proofs.Common.{HeldRow, row_at, byte_in, hold_alone, Reached, below, child_on, child_in, Means, path_in, IsAtRest}
use Rattle.art_schedules.proofs.Common.{WaysLeadToValues, IsOnWay, slot_in, HasChild, HangsOnWay, BeginsWork, IsOverwritten}
use Rattle.art_control_states.specs.declared.stage.Work.TheVariants as work

pub byte-in-small : (c : Setting) (h : HeldRow) → byte_in c h < 256
byte-in-small c h = key_byte-small (key_of c.call) (row_at h).level

module _ (c : Setting) {calm : List ℕ} where
  pub hangs-on : (h : HeldRow) (slot : ℕ) (child : Child) → HasChild c calm h slot child
      → child_on c.shape calm h.base h.kind (byte_in c h) ≡ child
  hangs-on h slot child at = ap (child_in c.shape calm) at.at ∙ at.has

  -- the row below is reached
  pub reached-below : (h : HeldRow) (slot base : ℕ) (kind : Kind) → HangsOnWay c calm h slot (ChildRow base kind)
      → Reached c.shape calm base kind
  reached-below h slot base kind (on, at) =
      below on.leads.reached (byte_in c h) (byte-in-small c h) (hangs-on h slot (ChildRow base kind) at)

  -- a slot of the row is overwritten
  pub overwritten : is_tree_call c.call ≡ true → (h : HeldRow) (slot : ℕ) (child : Child) (word : ℕ) (old : Option ℕ) → IsOnWay c calm h
      → HasChild c calm h slot child → IsOverwritten c word old child → BeginsWork c calm (hold_alone h) (work.Write slot word old)
  overwritten tree h slot child word old on at over = record {
    call = tree;
    words = tt;
    byte = byte_in c h;
    leads = on.leads;
    finds = (refl, at.at, subst (IsOverwritten c word old) (sym (hangs-on h slot child at)) over);
  }

module _ (c : Setting) {n : ℕ} {calm : List ℕ} {m : Contents} (rest : IsAtRest c.shape n calm) (means : Means c.shape calm m)
    (ways : WaysLeadToValues) where
  pub no-slot : (h : HeldRow) → IsOnWay c calm h → slot_in c calm h ≡ None → value_at m (key_of c.call) ≡ None
  no-slot h on none =
      (ways c.shape calm m (key_of c.call) h.base h.kind (byte_in c h) rest.tree means on.leads).0 (ap (child_in c.shape calm) none)

  pub empty-slot : (h : HeldRow) (slot : ℕ) → IsOnWay c calm h → HasChild c calm h slot Empty → value_at m (key_of c.call) ≡ None
  empty-slot h slot on at =
      (ways c.shape calm m (key_of c.call) h.base h.kind (byte_in c h) rest.tree means on.leads).0 (hangs-on c h slot Empty at)

  pub own-leaf : (h : HeldRow) (slot k v : ℕ) → IsOnWay c calm h → HasChild c calm h slot (Leaf k v) → k ≡ key_of c.call
      → value_at m (key_of c.call) ≡ Some v
  own-leaf h slot k v on at is =
      ((ways c.shape calm m (key_of c.call) h.base h.kind (byte_in c h) rest.tree means on.leads).1 k v
      (hangs-on c h slot (Leaf k v) at)).0 is

  pub other-leaf : (h : HeldRow) (slot k v : ℕ) → IsOnWay c calm h → HasChild c calm h slot (Leaf k v) → k ≢ key_of c.call
      → value_at m (key_of c.call) ≡ None
  other-leaf h slot k v on at is =
      ((ways c.shape calm m (key_of c.call) h.base h.kind (byte_in c h) rest.tree means on.leads).1 k v
      (hangs-on c h slot (Leaf k v) at)).1 is

  pub other-row : (h : HeldRow) (slot base d : ℕ) (kind : Kind) → IsOnWay c calm h → HasChild c calm h slot (ChildRow base kind)
      → first_difference (path_in calm base kind) (key_bytes (key_of c.call)) ≡ Some d → value_at m (key_of c.call) ≡ None
  other-row h slot base d kind on at parts =
      (ways c.shape calm m (key_of c.call) h.base h.kind (byte_in c h) rest.tree means on.leads).2 base d kind
      (hangs-on c h slot (ChildRow base kind) at) parts
