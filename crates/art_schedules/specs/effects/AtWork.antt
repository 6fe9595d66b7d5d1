-- A call at work in a run: what it did so far, compared with what it would have done alone, and
-- what its release will do to calm's tree.
use Rattle.std.specs.Prelude.{◌≡◌, ◌⊎◌, ℕ, ◌<◌, ◌^◌, ◌++◌, List, take, length, slice_index, Bool, true, false, Option, Some, None}
use Rattle.events.specs.declared.event.Call.{Call}
use Rattle.events.specs.declared.event.Call.TheVariants.{Get, Insert, Remove, Scan, Replace}
use Rattle.events.specs.declared.event.Reply.{Reply}
use Rattle.map_object.specs.MapObject.{Contents, put, below, above}
use Rattle.art_rows.specs.declared.table.Kind.{Kind}
use Rattle.art_rows.specs.declared.table.Kind.TheVariants.{Four}
use Rattle.art_rows.specs.declared.table.Child.TheVariants.{Empty, Row, Leaf}
use Rattle.art_rows.specs.Table.{table_words}
use Rattle.art_rows.specs.Words.{key_bytes, is_obsolete, info_word, row_word, leaf_word}
use Rattle.art_rows.specs.Rows.{Setting}
use Rattle.art_rows.specs.Updates.{next_kind}
use Rattle.art_control_states.specs.declared.stage.HeldRow.{HeldRow}
use Rattle.art_control_states.specs.declared.stage.Hold.{Hold}
use Rattle.art_control_states.specs.declared.stage.Growing.{Growing}
use Rattle.art_control_states.specs.declared.stage.Work.{Work}
use Rattle.art_control_states.specs.declared.stage.Work.TheVariants as work
use Rattle.art_control_states.specs.declared.stage.Outcome.{Outcome}
use Rattle.art_control_states.specs.declared.stage.Outcome.TheVariants.{Value}
use Rattle.art_control_states.specs.declared.stage.Stage.{Stage}
use Rattle.art_control_states.specs.declared.stage.Stage.TheVariants.{Write, StorePair, PutLoad, PutStore, PutLeaf, PutKeys, PutMore}
use Rattle.art_control_states.specs.declared.stage.Stage.TheVariants.{PutCount, GrowInfo, GrowLoad, GrowStore, SpreadIndex, SpreadLoad, SpreadStore}
use Rattle.art_control_states.specs.declared.stage.Stage.TheVariants.{GrowLeaf, GrowKeys, GrowCount, Hang, Obsolete, Unlock, Over}
use Rattle.art_control_states.specs.Stages.{reply_for}
use Rattle.art_control_states.specs.Automaton.{work_at, hold_alone}
use Rattle.art_control_states.specs.Calls.{OnKey}
use Rattle.art_core.specs.Meaning.{child_on}
use Rattle.art_core.specs.Forms.{level_in, path_in}
use Rattle.art_schedules.specs.trees.Trees.{SameRow, LeadsTo, Parts, IsClaimed}
use Rattle.art_schedules.specs.versions.Locking.{rows_of_hold}
use Rattle.art_schedules.specs.versions.Holding.{Named, Each, Knows}
use Rattle.art_schedules.specs.changes.Rows.{HasNewChild}
use Rattle.art_schedules.specs.changes.Effects.{Effect, Keeps, Fills, PutsLeaf, RemovesLeaf, HangsPair, HangsGrown, base_of_effect}
use Rattle.art_schedules.specs.changes.Effects.{kind_of_effect, pairs_after}
use Rattle.art_schedules.specs.changes.Effects.{IsGone}
use Rattle.art_schedules.specs.changes.Written.{IsUnreached, IsPairRow, IsCopy, HasWordAt}
use Rattle.art_schedules.specs.work.Solo.{Solo}
use Rattle.art_schedules.specs.work.Works.{RowsOf}
use Rattle.art_schedules.specs.effects.Begins.{BeginsWork}
use Rattle.art_schedules.specs.work.Ways.{IsInTree, IsSame}

-- ---- before the claim

-- the work claims a row
abbrev pub claims_row : Work → Bool
claims_row (work.Write slot word reply) = false
claims_row (work.Pair p) = true
claims_row (work.Put keys) = false
claims_row (work.Grow slot keys) = true

-- The call is to claim its row, and has not written in the rows that it holds.
pub record IsClaiming (c : Setting) (real calm : List ℕ) (stage : Stage) : Type 0 where
  pub hold : Hold
  pub work : Work
  pub at : stage ≡ work_at c hold work
  pub claims : claims_row work ≡ true
  pub begins : BeginsWork c calm hold work
  pub rows : Each (IsInTree c.shape calm) (rows_of_hold hold)
  pub same : Each (IsSame calm real) (rows_of_hold hold)

-- ---- before the first release

-- the rows of a stage that is after the claim and before the first release
abbrev pub hold_at : Stage → Option Hold
hold_at (Write h slot word reply) = Some h
hold_at (StorePair h p base word) = Some h
hold_at (PutLoad h keys left) = Some h
hold_at (PutStore h keys left word) = Some h
hold_at (PutLeaf h keys) = Some h
hold_at (PutKeys h keys) = Some h
hold_at (PutMore h keys) = Some h
hold_at (PutCount h keys) = Some h
hold_at (GrowInfo g) = Some g.hold
hold_at (GrowLoad g place left) = Some g.hold
hold_at (GrowStore g place left word) = Some g.hold
hold_at (SpreadIndex g j left) = Some g.hold
hold_at (SpreadLoad s entry left) = Some s.growing.hold
hold_at (SpreadStore s entry left word) = Some s.growing.hold
hold_at (GrowLeaf g) = Some g.hold
hold_at (GrowKeys g j left) = Some g.hold
hold_at (GrowCount g) = Some g.hold
hold_at (Hang g) = Some g.hold
hold_at stage = None

-- what grows at a stage
abbrev pub growing_at : Stage → Option Growing
growing_at (GrowInfo g) = Some g
growing_at (GrowLoad g place left) = Some g
growing_at (GrowStore g place left word) = Some g
growing_at (SpreadIndex g j left) = Some g
growing_at (SpreadLoad s entry left) = Some s.growing
growing_at (SpreadStore s entry left word) = Some s.growing
growing_at (GrowLeaf g) = Some g
growing_at (GrowKeys g j left) = Some g
growing_at (GrowCount g) = Some g
growing_at (Hang g) = Some g
growing_at stage = None

-- The stage is one at which the work fills this fresh row, or hangs it in its slot.
abbrev pub FillsAt : Hold → Work → ℕ → Kind → Stage → Type 0
FillsAt h (work.Write slot word reply) base kind stage = ⊥
FillsAt h (work.Pair p) base kind stage =
    (kind ≡ Four) × (((word : _) × (stage ≡ StorePair h p base word)) ⊎ (stage ≡ Write h p.slot (row_word base) None))
FillsAt h (work.Put keys) base kind stage = ⊥
FillsAt h (work.Grow slot keys) base kind stage =
    (kind ≡ next_kind h.row.kind) × (growing_at stage ≡ Some (record { hold = h; slot = slot; keys = keys; base = base }))

-- A fresh row, which calm's tree does not reach, was claimed, and calm has the words that were written in it.
pub record FillsFresh (c : Setting) (real calm words : List ℕ) (h : Hold) (work : Work) (stage : Stage) (base : ℕ) (kind : Kind) : Type
    0 where
  pub at : FillsAt h work base kind stage
  pub claimed : IsClaimed c.shape real base kind
  pub unreached : IsUnreached c.shape calm base
  pub live : is_obsolete (slice_index calm base) ≡ false
  pub live_now : is_obsolete (slice_index real base) ≡ false
  pub same : SameRow words calm base kind

-- the stages at which a held row is written, where none is claimed
abbrev pub writes_at : Stage → Bool
writes_at (Write h slot word reply) = true
writes_at (PutLoad h keys left) = true
writes_at (PutStore h keys left word) = true
writes_at (PutLeaf h keys) = true
writes_at (PutKeys h keys) = true
writes_at (PutMore h keys) = true
writes_at (PutCount h keys) = true
writes_at stage = false

abbrev pub HasNew : Setting → List ℕ → List ℕ → List ℕ → Hold → Work → Stage → Option Named → Type 0
HasNew c real calm words h work stage None = (claims_row work ≡ false) × (writes_at stage ≡ true)
HasNew c real calm words h work stage (Some row) = FillsFresh c real calm words h work stage row.0 row.1

-- From the first words, which are calm's on its rows, the call alone came to this stage, with words
-- that are the real ones on its rows.
pub record IsGoing (c : Setting) (real calm : List ℕ) (fresh : Option Named) (stage : Stage) : Type 0 where
  pub hold : Hold
  pub work : Work
  pub begins : BeginsWork c calm hold work
  pub rows : Each (IsInTree c.shape calm) (rows_of_hold hold)
  pub place : hold_at stage ≡ Some hold
  pub knows : Knows (RowsOf c.shape) c (OnKey (work_at c hold work))
  pub first : List ℕ
  pub words : List ℕ
  pub first_long : length first ≡ table_words c.shape
  pub long : length words ≡ table_words c.shape
  pub solo : Solo c (OnKey (work_at c hold work)) first (OnKey stage) words
  pub was : Each (IsSame first calm) (rows_of_hold hold)
  pub same : Each (IsSame words real) (rows_of_hold hold)
  pub new : HasNew c real calm words hold work stage fresh

-- ---- before the release of the row that changes

-- the byte is empty, or has the key's leaf with this value
abbrev pub IsOld : Setting → List ℕ → ℕ → ℕ → Kind → ℕ → Option ℕ → Type 0
IsOld c calm key base kind x None = child_on c.shape calm base kind x ≡ Empty
IsOld c calm key base kind x (Some value) = child_on c.shape calm base kind x ≡ Leaf key value

-- a fresh row that calm's tree does not reach, and that nobody made obsolete
pub record HasFilledFresh (c : Setting) (real calm : List ℕ) (base : ℕ) (kind : Kind) : Type 0 where
  pub claimed : IsClaimed c.shape real base kind
  pub unreached : IsUnreached c.shape calm base
  pub live : is_obsolete (slice_index calm base) ≡ false
  pub live_now : is_obsolete (slice_index real base) ≡ false

-- the fresh row of an effect, if it has one
abbrev pub fresh_of : Effect → Option Named
fresh_of (Keeps base kind) = None
fresh_of (Fills base kind) = None
fresh_of (PutsLeaf base kind x key value) = None
fresh_of (RemovesLeaf base kind x key) = None
fresh_of (HangsPair base kind x key value fresh d a) = Some (fresh, Four)
fresh_of (HangsGrown base kind x key value full full_kind y fresh larger) = Some (fresh, larger)

-- the leaf was stored in the byte's slot
pub record HasStoredLeaf (calm real : List ℕ) (base : ℕ) (kind : Kind) (x key value : ℕ) : Type 0 where
  pub small : (key < 2 ^ 32) × (value < 2 ^ 30)
  pub slot : ℕ
  pub has : HasWordAt calm real base kind x slot (leaf_word key value)

-- What calm and the real words of the row say, so that its release has this effect on calm's tree.
-- `old` is what the map has at the key before it.
abbrev pub IsPending : Setting → List ℕ → List ℕ → Effect → Option ℕ → Type 0
IsPending c real calm (Keeps base kind) old = ⊥
IsPending c real calm (Fills base kind) old = ⊥
IsPending c real calm (PutsLeaf base kind x key value) old =
    LeadsTo c.shape calm key base kind x × IsOld c calm key base kind x old
    × (HasNewChild c.shape calm real base kind x (Leaf key value) ⊎ HasStoredLeaf calm real base kind x key value)
IsPending c real calm (RemovesLeaf base kind x key) old =
    LeadsTo c.shape calm key base kind x × IsOld c calm key base kind x old × ((slot : ℕ) × HasWordAt calm real base kind x slot 0)
IsPending c real calm (HangsPair base kind x key value fresh d a) old =
    LeadsTo c.shape calm key base kind x × (old ≡ None) × Parts calm key d a (child_on c.shape calm base kind x)
    × ((slot : ℕ) × HasWordAt calm real base kind x slot (row_word fresh)) × HasFilledFresh c real calm fresh Four
    × IsPairRow c.shape calm fresh d (take d (key_bytes key)) (record { byte = a; child = child_on c.shape calm base kind x })
    (record { byte = slice_index (key_bytes key) d; child = Leaf key value })
IsPending c real calm (HangsGrown base kind x key value full full_kind y fresh larger) old =
    LeadsTo c.shape calm key base kind x × (old ≡ None) × (child_on c.shape calm base kind x ≡ Row full full_kind)
    × LeadsTo c.shape calm key full full_kind y × (child_on c.shape calm full full_kind y ≡ Empty)
    × ((slot : ℕ) × HasWordAt calm real base kind x slot (row_word fresh)) × HasFilledFresh c real calm fresh larger
    × IsCopy c.shape calm calm full full_kind fresh larger (info_word larger (level_in calm full full_kind) (path_in calm full full_kind))
    y (Leaf key value)

abbrev pub key_of_effect : Effect → ℕ
key_of_effect (Keeps base kind) = 0
key_of_effect (Fills base kind) = 0
key_of_effect (PutsLeaf base kind x key value) = key
key_of_effect (RemovesLeaf base kind x key) = key
key_of_effect (HangsPair base kind x key value fresh d a) = key
key_of_effect (HangsGrown base kind x key value full full_kind y fresh larger) = key

-- the effect is that of the call on the map, where that has this at the key
abbrev pub IsEffectOf : Call → Option ℕ → Effect → Type 0
IsEffectOf (Insert key value) old e = (key ≡ key_of_effect e) × ((m : Contents) → pairs_after e m ≡ put key value m)
IsEffectOf (Remove key) old e = (key ≡ key_of_effect e) × ((m : Contents) → pairs_after e m ≡ below key m ++ above key m)
IsEffectOf (Replace key expected value) old e =
    (key ≡ key_of_effect e) × (old ≡ Some expected) × ((m : Contents) → pairs_after e m ≡ put key value m)
IsEffectOf (Get key) old e = ⊥
IsEffectOf (Scan low high) old e = ⊥

-- All rows that the call holds are unchanged except for the upper one. It releases that next, or
-- another row before: unchanged, or as obsolete, where that row leaves by the effect. A row that
-- goes and is released is obsolete.
pub data IsReleasing (c : Setting) (real calm : List ℕ) (row : HeldRow) (e : Effect) (o : Outcome) (stage : Stage) : Type 0 where
  Last : stage ≡ Unlock (hold_alone row) (Some o) → ((b : ℕ) → IsGone e b → is_obsolete (slice_index real b) ≡ true)
      → IsReleasing c real calm row e o stage
  Lower : (lower : HeldRow) → stage ≡ Unlock (record { row = lower; above = Some row }) (Some o) → IsInTree c.shape calm lower
      → IsSame calm real lower
      → ((b : ℕ) → IsGone e b → ⊥) → IsReleasing c real calm row e o stage
  Gone : (lower : HeldRow) → stage ≡ Obsolete (record { row = lower; above = Some row }) → o ≡ Value None → IsInTree c.shape calm lower
      → IsGone e lower.base → ((b : ℕ) → IsGone e b → b ≡ lower.base) → IsReleasing c real calm row e o stage

pub record IsHanging (c : Setting) (real calm : List ℕ) (fresh : Option Named) (stage : Stage) : Type 0 where
  pub row : HeldRow
  pub effect : Effect
  pub old : Option ℕ
  pub base : base_of_effect effect ≡ row.base
  pub kind : kind_of_effect effect ≡ row.kind
  pub inside : IsInTree c.shape calm row
  pub pending : IsPending c real calm effect old
  pub does : IsEffectOf c.call old effect
  pub fresh_row : fresh ≡ fresh_of effect
  pub at : IsReleasing c real calm row effect (Value old) stage

-- ---- all of it

-- The call is at work, up to the release of the row that changes; it fills or has filled this fresh row, or none.
pub data AtWork (c : Setting) (real calm : List ℕ) (fresh : Option Named) (stage : Stage) : Type 0 where
  Claiming : fresh ≡ None → IsClaiming c real calm stage → AtWork c real calm fresh stage
  Going : IsGoing c real calm fresh stage → AtWork c real calm fresh stage
  Hanging : IsHanging c real calm fresh stage → AtWork c real calm fresh stage

-- The call only releases rows that are unchanged, and then answers this.
pub data AtEnd (c : Setting) (real calm : List ℕ) (reply : Reply) (stage : Stage) : Type 0 where
  Answering : (o : Outcome) → reply ≡ reply_for o → stage ≡ Over o → AtEnd c real calm reply stage
  Leaving : (o : Outcome) → (h : Hold) → reply ≡ reply_for o → stage ≡ Unlock h (Some o) → Each (IsInTree c.shape calm) (rows_of_hold h)
      → Each (IsSame calm real) (rows_of_hold h) → AtEnd c real calm reply stage
