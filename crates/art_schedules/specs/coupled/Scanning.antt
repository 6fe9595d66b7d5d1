-- What a scan knows under lock coupling: the rows on its way are rows of the calm tree, and what it has read of them is so there.
use Rattle.std.specs.Prelude.{◌≡◌, ℕ, ◌+◌, ◌*◌, ◌<◌, ◌≤◌, false, List, slice_index, Option, Some}
use Rattle.art_rows.specs.declared.table.Shape.{Shape}
use Rattle.art_rows.specs.declared.table.Kind.{Kind}
use Rattle.art_rows.specs.declared.table.Kind.TheVariants.{Four, Sixteen, FortyEight, Full}
use Rattle.art_rows.specs.declared.table.Child.TheVariants.{Row}
use Rattle.art_rows.specs.Table.{kind_at, keys_at, more_keys_at, index_at, count_at}
use Rattle.art_rows.specs.declared.access.Access.TheVariants.{Load}
use Rattle.art_rows.specs.declared.access.Point.{Point}
use Rattle.art_rows.specs.declared.variant.Variant.TheVariants.{Coupled}
use Rattle.art_rows.specs.Steps.{Asks}
use Rattle.events.specs.declared.event.Call.TheVariants.{Scan}
use Rattle.art_control_states.specs.declared.stage.HeldRow.{HeldRow}
use Rattle.art_control_states.specs.declared.stage.Keys.{Keys as KeyWords}
use Rattle.art_control_states.specs.declared.stage.Frame.{Frame}
use Rattle.art_control_states.specs.declared.stage.Entry.{Entry}
use Rattle.art_control_states.specs.declared.stage.Entry.TheVariants.{Root, Below}
use Rattle.art_control_states.specs.declared.stage.ScanStep.{ScanStep}
use Rattle.art_control_states.specs.declared.stage.ScanStep.TheVariants as scan
use Rattle.art_control_states.specs.Stages.{setting}
use Rattle.art_control_states.specs.Scans.{ScanAt, scan_turn, scan_after}
use Rattle.art_control_states.specs.Calls.{OnScan}
use Rattle.art_core.specs.Meaning.{Reached, slot_of, child_on}
use Rattle.art_schedules.specs.trees.Trees.{IsAtRest, SameRow}
use Rattle.map_object.specs.MapObject.{Contents}
use Rattle.art_schedules.specs.changes.Effects.{Effect}
use Rattle.art_schedules.specs.changes.Courses.{IsGoneBy, ComesInBy}
use Rattle.art_schedules.specs.changes.Follows.{Follows}
use Rattle.art_schedules.specs.versions.Effects.{IsAmong}
use Rattle.art_schedules.specs.versions.Holding.{Each}
use Rattle.art_schedules.specs.work.Own.{IsWalked, ReadsHeld, is_lock}

-- what was read of a row, in kind 48 the index word of this number
abbrev pub KnowsWords : Kind → List ℕ → ℕ → KeyWords → ℕ → Type 0
KnowsWords Four calm base keys index = keys.first ≡ slice_index calm (keys_at base)
KnowsWords Sixteen calm base keys index = (keys.count ≡ slice_index calm (count_at Sixteen base))
    × (keys.first ≡ slice_index calm (keys_at base))
    × (keys.second ≡ slice_index calm (more_keys_at base))
KnowsWords FortyEight calm base keys index = keys.first ≡ slice_index calm (index_at base (8 * index))
KnowsWords Full calm base keys index = Unit {0}

-- a row on the way
pub record KnowsFrame (shape : Shape) (calm : List ℕ) (f : Frame) : Type 0 where
  pub reached : Reached shape calm f.row.base f.row.kind
  pub words : KnowsWords f.row.kind calm f.row.base f.keys f.index
  pub fits : f.byte + f.left ≤ 256
  pub few : f.index < 32

-- the row hangs on a row of the calm tree that the scan holds
pub record HangsOnHeld (shape : Shape) (calm : List ℕ) (rows : List HeldRow) (base : ℕ) (kind : Kind) : Type 0 where
  pub row : HeldRow
  pub walked : IsWalked row rows
  pub reached : Reached shape calm row.base row.kind
  pub byte : ℕ
  pub is_byte : byte < 256
  pub hangs : child_on shape calm row.base row.kind byte ≡ Row base kind

abbrev pub KnowsEntry : Shape → List ℕ → List HeldRow → Entry → Type 0
KnowsEntry shape calm rows Root = Unit {0}
KnowsEntry shape calm rows (Below base kind) = HangsOnHeld shape calm rows base kind

abbrev pub KnowsStep : Shape → List ℕ → List HeldRow → ScanStep → Type 0
KnowsStep shape calm rows (scan.Lock entry first) = KnowsEntry shape calm rows entry
KnowsStep shape calm rows (scan.Exchange entry v) = KnowsEntry shape calm rows entry
KnowsStep shape calm rows (scan.Wait entry) = ⊥
KnowsStep shape calm rows (scan.Info base kind kept) = Reached shape calm base kind
KnowsStep shape calm rows (scan.Keys n) = Reached shape calm n.base n.kind
KnowsStep shape calm rows (scan.FirstKeys n count) =
    Reached shape calm n.base n.kind × (n.kind ≡ Sixteen) × (count ≡ slice_index calm (count_at Sixteen n.base))
KnowsStep shape calm rows (scan.SecondKeys n count first) =
    Reached shape calm n.base n.kind × (n.kind ≡ Sixteen) × (count ≡ slice_index calm (count_at Sixteen n.base))
    × (first ≡ slice_index calm (keys_at n.base))
KnowsStep shape calm rows (scan.Index n index words) = Reached shape calm n.base n.kind × (n.kind ≡ FortyEight) × (index < 32)
KnowsStep shape calm rows (scan.Child f slot) =
    KnowsFrame shape calm f × ((byte : ℕ) × (byte < 256) × (slot_of calm f.row.base f.row.kind byte ≡ Some slot))
KnowsStep shape calm rows (scan.Release n) = Unit {0}
KnowsStep shape calm rows scan.Over = Unit {0}

-- What a scan knows of the calm tree.
pub record KnowsTree (shape : Shape) (calm : List ℕ) (at : ScanAt) : Type 0 where
  pub step : KnowsStep shape calm at.walk.rows at.step
  pub way : Each (KnowsFrame shape calm) at.walk.way

-- A scan that gets calm's words, except for the versions that it locks, goes on to where it knows
-- the calm tree.
abbrev pub ScansKnowTrees : Type 0
ScansKnowTrees = (shape : Shape) (low high n : ℕ) (calm : List ℕ) (at : ScanAt) (word : ℕ) → IsAtRest shape n calm
    → ReadsHeld (OnScan low high at)
    → KnowsTree shape calm at
    → ((x : ℕ) (mark : Option Point) → is_lock (OnScan low high at) ≡ false
    → scan_turn (setting shape Coupled (Scan low high)) at ≡ Asks (Load x) mark
    → word ≡ slice_index calm x)
    → KnowsTree shape calm (scan_after (setting shape Coupled (Scan low high)) low high at word)

-- a row whose calm words after the version stay, and which does not leave the calm tree
abbrev pub StaysAt : Shape → List ℕ → List ℕ → Option Effect → ℕ → Type 0
StaysAt shape calm after effect base = (kind : Kind) → kind_at shape base ≡ Some kind → SameRow calm after base kind
    × (IsGoneBy effect base → ⊥)

-- What a scan knows stays so where the calm tree changes by an effect, or by none, that leaves the rows which the scan has walked or
-- locked.
abbrev pub ScansKeepTrees : Type 0
ScansKeepTrees = (shape : Shape) (low high claims n : ℕ) (calm after : List ℕ) (pairs : Contents) (effect : Option Effect) (at : ScanAt)
    → IsAtRest shape claims calm
    → Follows shape n calm after pairs (IsGoneBy effect) (ComesInBy effect) → ReadsHeld (OnScan low high at)
    → ((h : HeldRow) → IsAmong h at.walk.rows → StaysAt shape calm after effect h.base)
    → ((base : ℕ) (kind : Kind) (kept : ℕ) → at.step ≡ scan.Info base kind kept → StaysAt shape calm after effect base)
    → KnowsTree shape calm at → KnowsTree shape after at
