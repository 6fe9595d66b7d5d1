-- What a call on a key of the optimistic tree knows at each stage at which it is not at work. It
-- holds no row on its way: all that it knows of a row is true if the version that it has kept is
-- still the row's.
use Rattle.std.specs.Prelude.{◌≡◌, ℕ, ◌≤◌, Bool, true, false, List, slice_index, Option, Some, None}
use Rattle.events.specs.declared.event.Reply.{Reply}
use Rattle.events.specs.declared.event.Reply.TheVariants as reply
use Rattle.art_rows.specs.declared.table.Shape.{Shape}
use Rattle.art_rows.specs.declared.table.Kind.TheVariants.{Sixteen, FortyEight}
use Rattle.art_rows.specs.declared.table.Child.TheVariants.{Row as ChildRow}
use Rattle.art_rows.specs.Table.{keys_at, index_at, count_at}
use Rattle.art_rows.specs.Words.{key_bytes, first_difference}
use Rattle.art_rows.specs.Rows.{Setting, key_of, is_insert}
use Rattle.art_control_states.specs.declared.stage.HeldRow.{HeldRow}
use Rattle.art_control_states.specs.declared.stage.Position.{Position}
use Rattle.art_control_states.specs.declared.stage.Down.{Down}
use Rattle.art_control_states.specs.declared.stage.Hold.{Hold}
use Rattle.art_control_states.specs.declared.stage.Taking.{Taking}
use Rattle.art_control_states.specs.declared.stage.Target.{Target}
use Rattle.art_control_states.specs.declared.stage.Target.TheVariants.{Root, Below, Taken}
use Rattle.art_control_states.specs.declared.stage.Stage.{Stage}
use Rattle.art_control_states.specs.declared.stage.Stage.TheVariants.{Wait, Between, Info, Find, FindKeys, FindMore}
use Rattle.art_control_states.specs.declared.stage.Stage.TheVariants.{FindCount, Slot, Check, CheckLast, Take, Unlock, Over}
use Rattle.art_control_states.specs.Stages.{byte_in, reply_for}
use Rattle.art_core.specs.Meaning.{Reached}
use Rattle.art_core.specs.Forms.{path_in}
use Rattle.art_schedules.specs.versions.Holding.{Each, rows_kept}
use Rattle.art_schedules.specs.versions.Locking.{all_of, held_at_stage}
use Rattle.art_schedules.specs.effects.Begins.{BeginsWork}
use Rattle.art_schedules.specs.work.Ways.{IsOnWay, slot_in, KnowsFinding, IsSame, HangsOnWay}

-- the version that was kept is still the row's: the row is neither locked nor obsolete, and calm
-- has its words
abbrev pub IsCurrent : List ℕ → HeldRow → Type 0
IsCurrent words n = slice_index words n.base ≡ n.kept

-- the row below hangs on the key's byte of the row above, if the version of the row above is the
-- kept one
abbrev pub IsBelow : Setting → List ℕ → List ℕ → Down → Type 0
IsBelow c calm words d = IsCurrent words d.above → HangsOnWay c calm d.above d.slot (ChildRow d.base d.kind)

abbrev pub KnowsTarget : Setting → List ℕ → List ℕ → Target → Type 0
KnowsTarget c calm words Root = Unit {0}
KnowsTarget c calm words (Below d) = IsBelow c calm words d
KnowsTarget c calm words (Taken t) = ⊥

abbrev pub HangsBelow : Setting → List ℕ → List ℕ → HeldRow → ℕ → Option HeldRow → Type 0
HangsBelow c calm words n slot None = Unit {0}
HangsBelow c calm words n slot (Some above) = IsCurrent words above → HangsOnWay c calm above slot (ChildRow n.base n.kind)

-- at a row: it is *led*, and so is the row above it
abbrev pub IsLed : Setting → List ℕ → List ℕ → HeldRow → Type 0
IsLed c calm words n = IsCurrent words n → IsOnWay c calm n

abbrev pub KnowsPlace : Setting → List ℕ → List ℕ → Position → Type 0
KnowsPlace c calm words p = IsLed c calm words p.row × HangsBelow c calm words p.row p.slot p.above

-- The path of the row below differs nowhere from the key, if the call is no insert.
abbrev pub PathFollows : Bool → Setting → List ℕ → Down → Type 0
PathFollows true c words d = Unit {0}
PathFollows false c words d = first_difference (path_in words d.base d.kind) (key_bytes (key_of c.call)) ≡ None

-- The path of the row below differs from the key, and the call is no insert.
abbrev pub PathDiffers : Bool → Setting → List ℕ → Down → Type 0
PathDiffers true c words d = ⊥
PathDiffers false c words d = (x : ℕ) × (first_difference (path_in words d.base d.kind) (key_bytes (key_of c.call)) ≡ Some x)

abbrev pub IsReachedBelow : Setting → List ℕ → List ℕ → Down → ℕ → Type 0
IsReachedBelow c calm words d kept = slice_index words d.base ≡ kept → Reached c.shape calm d.base d.kind

-- Rows are taken: the rows that will be held, and those that are not taken yet.
abbrev pub hold_taken : HeldRow → Option HeldRow → Option HeldRow → Hold
hold_taken row above None = record { row = row; above = above }
hold_taken row above (Some below) = record { row = below; above = Some row }

abbrev pub AllStand : List ℕ → HeldRow → Option HeldRow → Type 0
AllStand words row None = IsCurrent words row
AllStand words row (Some below) = IsCurrent words row × IsCurrent words below

-- each row whose version is the kept one is reached; and if all of them are such, the work can
-- begin
abbrev pub IsReachedHere : Setting → List ℕ → List ℕ → HeldRow → Type 0
IsReachedHere c calm words n = IsCurrent words n → Reached c.shape calm n.base n.kind

abbrev pub KnowsTaking : Setting → List ℕ → List ℕ → Taking → Type 0
KnowsTaking c calm words t =
    IsReachedHere c calm words t.row × Each (IsReachedHere c calm words) (all_of t.below)
    × (AllStand words t.row t.below → BeginsWork c calm (hold_taken t.row t.held t.below) t.work)

-- if a row that was taken is given back, nothing has been done
abbrev pub GivesBack : Hold → Option Rattle.art_control_states.specs.declared.stage.Outcome.Outcome → Type 0
GivesBack h None = h.above ≡ None
GivesBack h (Some outcome) = ⊥

-- What the call knows at each stage at which it has found no reply yet.
abbrev pub KnowsStage : Bool → Setting → List ℕ → List ℕ → Stage → Type 0
KnowsStage i c calm words (Wait t) = KnowsTarget c calm words t
KnowsStage i c calm words (Between d kept) = IsBelow c calm words d
KnowsStage i c calm words (Info d kept) = IsBelow c calm words d × IsReachedBelow c calm words d kept × PathFollows i c words d
KnowsStage i c calm words (Find p) = KnowsPlace c calm words p
KnowsStage i c calm words (FindKeys p count) =
    KnowsPlace c calm words p × (p.row.kind ≡ Sixteen) × (IsCurrent words p.row → count ≡ slice_index calm (count_at Sixteen p.row.base))
KnowsStage i c calm words (FindMore p count first) =
    KnowsPlace c calm words p × (p.row.kind ≡ Sixteen)
    × (IsCurrent words p.row → (count ≡ slice_index calm (count_at Sixteen p.row.base)) × (first ≡ slice_index calm (keys_at p.row.base)))
KnowsStage i c calm words (FindCount p index) =
    KnowsPlace c calm words p × (p.row.kind ≡ FortyEight)
    × (IsCurrent words p.row → (index ≡ slice_index calm (index_at p.row.base (byte_in c p.row))) × (slot_in c calm p.row ≡ None))
KnowsStage i c calm words (Slot p slot) = KnowsPlace c calm words p × (IsCurrent words p.row → slot_in c calm p.row ≡ Some slot)
KnowsStage i c calm words (Check p f) = KnowsPlace c calm words p × (IsCurrent words p.row → KnowsFinding i c calm p.row f)
KnowsStage i c calm words (Take t) = KnowsTaking c calm words t
KnowsStage i c calm words (Unlock h outcome) = GivesBack h outcome
KnowsStage i c calm words stage = ⊥

-- what the call knows at each stage at which it has found, at some moment, that this can be its
-- reply
abbrev pub KnowsReply : Reply → Bool → Setting → List ℕ → Stage → Type 0
KnowsReply r i c words (Info d kept) = (r ≡ reply.None) × PathDiffers i c words d
KnowsReply r i c words (CheckLast n) = r ≡ reply.None
KnowsReply r i c words (Over outcome) = r ≡ reply_for outcome
KnowsReply r i c words stage = ⊥

abbrev pub KnowsAt : Option Reply → Bool → Setting → List ℕ → List ℕ → Stage → Type 0
KnowsAt None i c calm words stage = KnowsStage i c calm words stage
KnowsAt (Some r) i c calm words stage = KnowsReply r i c words stage

-- a version that was kept is at most the row's
abbrev pub IsPast : List ℕ → HeldRow → Type 0
IsPast words n = n.kept ≤ slice_index words n.base

-- a row that the call holds and has not written to: it is reached, and after its version the words
-- are the calm ones
abbrev pub IsHeldReached : Shape → List ℕ → List ℕ → HeldRow → Type 0
IsHeldReached s calm words n = IsSame calm words n × Reached s calm n.base n.kind

-- What a call that has not begun its work knows: of calm by its stage, where `found` is the reply
-- that it has found, if any; of the versions that it has kept; and of the rows that it holds.
pub record KnowsWay (c : Setting) (calm words : List ℕ) (found : Option Reply) (stage : Stage) : Type 0 where
  pub way : KnowsAt found (is_insert c.call) c calm words stage
  pub kept : Each (IsPast words) (rows_kept false (is_insert c.call) stage)
  pub rows : Each (IsHeldReached c.shape calm words) (held_at_stage false (is_insert c.call) stage)
