-- What a step of a full tree changes: in the words of rows, and in calm.
use Rattle.std.specs.Prelude.{◌≡◌, ◌≢◌, ◌⊎◌, ℕ, ◌+◌, ◌≤◌, true, false, List, [], ◌∷◌, slice_index, Option, Some, ◌++◌}
use Rattle.events.specs.declared.event.Call.{Call}
use Rattle.map_object.specs.MapObject.{Contents}
use Rattle.art_rows.specs.declared.table.Shape.{Shape}
use Rattle.art_rows.specs.declared.table.Kind.{Kind}
use Rattle.art_rows.specs.Table.{kind_at}
use Rattle.art_rows.specs.Words.{is_obsolete, locked_word, released_word, obsolete_word}
use Rattle.art_rows.specs.declared.variant.Variant.{Variant}
use Rattle.art_rows.specs.declared.access.Access.{Access}
use Rattle.art_rows.specs.declared.access.Access.TheVariants.{Store, Exchange}
use Rattle.art_rows.specs.declared.access.Point.{Point}
use Rattle.art_rows.specs.Steps.{Asks}
use Rattle.art_rows.specs.Rows.{locks}
use Rattle.art_control_states.specs.declared.stage.HeldRow.{HeldRow}
use Rattle.art_control_states.specs.Calls.{call_turn}
use Rattle.art_control_states.specs.Stages.{setting}
use Rattle.art_core.specs.declared.process.Process.{Process}
use Rattle.art_core.specs.Core.{State, Plan, step}
use Rattle.art_core.specs.Plans.{IsRun}
use Rattle.art_schedules.specs.writes.Writes.{IsOutside}
use Rattle.art_schedules.specs.versions.Holding.{IsKept}
use Rattle.art_schedules.specs.versions.Effects.{IsAmong, IsWith, IsAfterVersion}
use Rattle.art_schedules.specs.versions.Versions.{IsOpen, IsHeld, stage_of, held_by, filled_by, IsSettled}
use Rattle.art_schedules.specs.versions.Steady.{SameWords}
use Rattle.art_schedules.specs.versions.Laws.{IsFull}
use Rattle.art_schedules.specs.calm.Calm.{is_busy}

-- process p steps from s to t, at the end of a run of a full tree
pub record IsRunStep (plan : Plan) (start : Contents) (words schedule : List ℕ) (p : ℕ) (s t : State) : Type 0 where
  pub full : IsFull plan.variant
  pub before : IsRun plan start words schedule s
  pub behind : IsRun plan start words (schedule ++ p ∷ []) t
  pub made : step plan s p ≡ Some t

-- no other word changes
abbrev pub ChangesOnly : State → State → ℕ → Type 0
ChangesOnly s later word = (other : ℕ) → other ≢ word → slice_index later.words other ≡ slice_index s.words other

-- the process is in a call that asks for this access
pub record AsksFor (variant : Variant) (shape : Shape) (s : State) (p : ℕ) (a : Access) : Type 0 where
  pub call : Call
  pub process : Process
  pub is_open : IsOpen s p call process
  pub mark : Option Point
  pub turn : call_turn (setting shape variant call) (stage_of variant shape call process) ≡ Asks a mark

-- The process is in this call after the step too, and then holds these rows.
pub record HoldsThen (variant : Variant) (shape : Shape) (later : State) (p : ℕ) (call : Call) (rows : List HeldRow) : Type 0 where
  pub process : Process
  pub is_open : IsOpen later p call process
  pub holds : held_by variant shape call process ≡ rows

-- What the step of process p changes in the words of rows. It changes nothing; or a word after the
-- version of a row that it holds or of the row that it fills; or the version by which it takes a
-- row; or that by which it releases one.
pub data RowChange (variant : Variant) (shape : Shape) (s : State) (p : ℕ) (later : State) : Type 0 where
  RowsStay : ((word : ℕ) → 5 ≤ word → slice_index later.words word ≡ slice_index s.words word) → RowChange variant shape s p later
  RowWritten : (word value : ℕ) → (asks : AsksFor variant shape s p (Store word value)) → (h : HeldRow)
      → IsAmong h (held_by variant shape asks.call asks.process) → IsKept (locks variant) (IsSettled variant shape s) h
      → IsAfterVersion h.base h.kind word
      → slice_index later.words word ≡ value → ChangesOnly s later word → RowChange variant shape s p later
  RowFilled : (word value : ℕ) → (asks : AsksFor variant shape s p (Store word value)) → (base : ℕ) → (kind : Kind)
      → filled_by variant shape asks.call asks.process ≡ (base, kind) ∷ [] → kind_at shape base ≡ Some kind → IsAfterVersion base kind word
      → slice_index later.words word ≡ value → ChangesOnly s later word → RowChange variant shape s p later
  RowTaken : (h : HeldRow) → (asks : AsksFor variant shape s p (Exchange h.base h.kept (locked_word h.kept))) → (rows : List HeldRow)
      → IsWith h (held_by variant shape asks.call asks.process) rows → HoldsThen variant shape later p asks.call rows
      → IsKept (locks variant) (IsSettled variant shape s) h → slice_index s.words h.base ≡ h.kept
      → slice_index later.words h.base ≡ h.kept + 2
      → ChangesOnly s later h.base → RowChange variant shape s p later
  RowReleased : (h : HeldRow) → (value : ℕ) → (asks : AsksFor variant shape s p (Store h.base value)) → (rest : List HeldRow)
      → IsWith h rest (held_by variant shape asks.call asks.process) → HoldsThen variant shape later p asks.call rest
      → IsKept (locks variant) (IsSettled variant shape s) h → (value ≡ released_word h.kept) ⊎ (value ≡ obsolete_word h.kept)
      → slice_index later.words h.base ≡ value → ChangesOnly s later h.base → RowChange variant shape s p later

-- How calm changes in a step of process p: by no word of a row, by a word of the row that p fills, or by the words of one row, which p held
-- and released,
-- not as obsolete.
pub data CalmChange (variant : Variant) (shape : Shape) (s : State) (p : ℕ) (later : State) (calm after : List ℕ) : Type 0 where
  CalmStays : ((word : ℕ) → 5 ≤ word → slice_index after word ≡ slice_index calm word) → CalmChange variant shape s p later calm after
  CalmFilled : (word value : ℕ) → (asks : AsksFor variant shape s p (Store word value)) → (base : ℕ) → (kind : Kind)
      → filled_by variant shape asks.call asks.process ≡ (base, kind) ∷ [] → IsAfterVersion base kind word → slice_index after word ≡ value
      → ((other : ℕ) → 5 ≤ other → other ≢ word → slice_index after other ≡ slice_index calm other)
      → CalmChange variant shape s p later calm after
  CalmReleased : (h : HeldRow) → (asks : AsksFor variant shape s p (Store h.base (released_word h.kept))) → (rest : List HeldRow)
      → IsWith h rest (held_by variant shape asks.call asks.process) → HoldsThen variant shape later p asks.call rest
      → IsKept (locks variant) (IsSettled variant shape s) h → is_obsolete h.kept ≡ false → SameWords later.words after h.base h.kind
      → ((other : ℕ) → 5 ≤ other → IsOutside h.base h.kind other → slice_index after other ≡ slice_index calm other)
      → CalmChange variant shape s p later calm after

-- A step, with calm before and after it.
pub record CalmStep (variant : Variant) (shape : Shape) (s : State) (p : ℕ) (later : State) (calm after : List ℕ) : Type 0 where
  pub rows : RowChange variant shape s p later
  pub change : CalmChange variant shape s p later calm after
  -- a row that is busy after the step, so held or obsolete then, has the same words in calm before
  -- and after
  pub busy : (base : ℕ) (kind : Kind) → kind_at shape base ≡ Some kind → is_busy (slice_index later.words base) ≡ true
      → SameWords calm after base kind
  pub held : (base : ℕ) (kind : Kind) → kind_at shape base ≡ Some kind → IsHeld variant shape later base → SameWords calm after base kind
  -- an obsolete row stays obsolete
  pub obsolete : (base : ℕ) (kind : Kind) → kind_at shape base ≡ Some kind → is_obsolete (slice_index s.words base) ≡ true
      → is_obsolete (slice_index later.words base) ≡ true
