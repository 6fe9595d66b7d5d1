-- What a call on a key knows under lock coupling at each stage at which it is not at work.
use Rattle.std.specs.Prelude.{◌≡◌, ℕ, Bool, true, false, List, slice_index, Option, Some, None}
use Rattle.events.specs.declared.event.Reply.{Reply}
use Rattle.events.specs.declared.event.Reply.TheVariants as reply
use Rattle.art_rows.specs.declared.table.Kind.TheVariants.{Sixteen, FortyEight}
use Rattle.art_rows.specs.declared.table.Child.TheVariants.{Row as ChildRow}
use Rattle.art_rows.specs.Table.{keys_at, index_at, count_at}
use Rattle.art_rows.specs.Words.{is_obsolete, key_bytes, first_difference}
use Rattle.art_rows.specs.Rows.{Setting, key_of, is_insert}
use Rattle.art_control_states.specs.declared.stage.HeldRow.{HeldRow}
use Rattle.art_control_states.specs.declared.stage.Position.{Position}
use Rattle.art_control_states.specs.declared.stage.Down.{Down}
use Rattle.art_control_states.specs.declared.stage.Target.{Target}
use Rattle.art_control_states.specs.declared.stage.Target.TheVariants.{Root, Below, Taken}
use Rattle.art_control_states.specs.declared.stage.Outcome.{Outcome}
use Rattle.art_control_states.specs.declared.stage.Stage.{Stage}
use Rattle.art_control_states.specs.declared.stage.Stage.TheVariants.{Lock, Exchange, Between, Info, Find, FindKeys, FindMore, FindCount, Slot}
use Rattle.art_control_states.specs.declared.stage.Stage.TheVariants.{LetGo, Unlock, Over}
use Rattle.art_control_states.specs.Stages.{byte_in, reply_for}
use Rattle.art_core.specs.Meaning.{Reached}
use Rattle.art_core.specs.Forms.{level_in, path_in}
use Rattle.art_schedules.specs.trees.Trees.{LeadsTo}
use Rattle.art_schedules.specs.versions.Holding.{Each}
use Rattle.art_schedules.specs.versions.Locking.{held_at_stage}
use Rattle.art_schedules.specs.work.Ways.{slot_in, KnowsFinding, IsOnWay, IsSame, HangsOnWay}

-- A row that the call holds and has not written to: after its version the words are the calm ones,
-- and it was not obsolete when it was locked.
pub record IsHeldLive (calm words : List ℕ) (n : HeldRow) : Type 0 where
  pub same : IsSame calm words n
  pub live : is_obsolete n.kept ≡ false

-- the row below hangs on the key's byte of the row above, to which the key's way leads
abbrev pub IsBelow : Setting → List ℕ → Down → Type 0
IsBelow c calm d = HangsOnWay c calm d.above d.slot (ChildRow d.base d.kind)

abbrev pub KnowsTarget : Setting → List ℕ → Target → Type 0
KnowsTarget c calm Root = Unit {0}
KnowsTarget c calm (Below d) = IsBelow c calm d
KnowsTarget c calm (Taken t) = ⊥

-- the row hangs on the key's byte of the row above, if there is one
abbrev pub HangsBelow : Setting → List ℕ → HeldRow → ℕ → Option HeldRow → Type 0
HangsBelow c calm n slot None = Unit {0}
HangsBelow c calm n slot (Some above) = HangsOnWay c calm above slot (ChildRow n.base n.kind)

-- At a row: an insert holds the row above too. Here and below the flag says that the call is an insert.
abbrev pub KnowsPlace : Bool → Setting → List ℕ → Position → Type 0
KnowsPlace true c calm p = IsOnWay c calm p.row × HangsBelow c calm p.row p.slot p.above
KnowsPlace false c calm p = IsOnWay c calm p.row

-- Once a get, a remove or a replace has let the row above go, the key's way leads to the row below, where the key may be;
abbrev pub KnowsInfo : Bool → Setting → List ℕ → Down → Type 0
KnowsInfo true c calm d = IsBelow c calm d
KnowsInfo false c calm d = LeadsTo c.shape calm (key_of c.call) d.base d.kind (slice_index (key_bytes (key_of c.call))
    (level_in calm d.base d.kind))

-- or the path of that row differs from the key, which then was absent.
abbrev pub IsPassed : Bool → Setting → List ℕ → Down → Type 0
IsPassed true c calm d = ⊥
IsPassed false c calm d =
    Reached c.shape calm d.base d.kind × ((at : ℕ) × (first_difference (path_in calm d.base d.kind) (key_bytes (key_of c.call)) ≡ Some at))

-- What the call knows at each stage at which it has found no reply yet.
abbrev pub KnowsStage : Bool → Setting → List ℕ → Stage → Type 0
KnowsStage i c calm (Lock t first) = KnowsTarget c calm t
KnowsStage i c calm (Exchange t v) = KnowsTarget c calm t
KnowsStage i c calm (Between d kept) = IsBelow c calm d
KnowsStage i c calm (Info d kept) = KnowsInfo i c calm d
KnowsStage i c calm (Find p) = KnowsPlace i c calm p
KnowsStage i c calm (FindKeys p count) = KnowsPlace i c calm p × (p.row.kind ≡ Sixteen)
    × (count ≡ slice_index calm (count_at Sixteen p.row.base))
KnowsStage i c calm (FindMore p count first) =
    KnowsPlace i c calm p × (p.row.kind ≡ Sixteen) × (count ≡ slice_index calm (count_at Sixteen p.row.base))
    × (first ≡ slice_index calm (keys_at p.row.base))
KnowsStage i c calm (FindCount p index) =
    KnowsPlace i c calm p × (p.row.kind ≡ FortyEight) × (index ≡ slice_index calm (index_at p.row.base (byte_in c p.row)))
    × (slot_in c calm p.row ≡ None)
KnowsStage i c calm (Slot p slot) = KnowsPlace i c calm p × (slot_in c calm p.row ≡ Some slot)
KnowsStage i c calm (LetGo above p f) = IsOnWay c calm p.row × KnowsFinding i c calm p.row f × Reached c.shape calm above.base above.kind
KnowsStage i c calm stage = ⊥

abbrev pub IsOutcome : Reply → Option Outcome → Type 0
IsOutcome r None = ⊥
IsOutcome r (Some outcome) = r ≡ reply_for outcome

-- what the call knows at each stage at which it has found, at some moment, that this can be its
-- reply
abbrev pub KnowsReply : Reply → Bool → Setting → List ℕ → Stage → Type 0
KnowsReply r i c calm (Info d kept) = (r ≡ reply.None) × IsPassed i c calm d
KnowsReply r i c calm (Unlock h outcome) = (h.above ≡ None) × IsOutcome r outcome × Reached c.shape calm h.row.base h.row.kind
KnowsReply r i c calm (Over outcome) = r ≡ reply_for outcome
KnowsReply r i c calm stage = ⊥

abbrev pub KnowsAt : Option Reply → Bool → Setting → List ℕ → Stage → Type 0
KnowsAt None i c calm stage = KnowsStage i c calm stage
KnowsAt (Some r) i c calm stage = KnowsReply r i c calm stage

-- What a call that has not begun its work knows of calm by its stage, and of the rows that it
-- holds. `found` is the reply that it has found, if any.
pub record KnowsWay (c : Setting) (calm words : List ℕ) (found : Option Reply) (stage : Stage) : Type 0 where
  pub way : KnowsAt found (is_insert c.call) c calm stage
  pub rows : Each (IsHeldLive calm words) (held_at_stage true (is_insert c.call) stage)
