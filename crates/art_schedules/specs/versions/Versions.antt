-- The invariant of rows and versions: in every state that a schedule of a full tree gives, after few steps.
use Rattle.std.specs.Prelude.{◌≡◌, ◌≢◌, ℕ, ◌+◌, ◌*◌, ◌≤◌, true, List, [], ◌∷◌, length, slice_get, slice_index, Some}
use Rattle.events.specs.declared.event.Call.{Call}
use Rattle.art_rows.specs.declared.table.Shape.{Shape}
use Rattle.art_rows.specs.declared.table.Kind.{Kind}
use Rattle.art_rows.specs.declared.table.Kind.TheVariants.{Full}
use Rattle.art_rows.specs.Table.{table_words, claims_of, root_base, kind_at}
use Rattle.art_rows.specs.Words.{is_locked}
use Rattle.art_rows.specs.declared.variant.Variant.{Variant}
use Rattle.art_control_states.specs.declared.stage.HeldRow.{HeldRow}
use Rattle.art_control_states.specs.Stages.{setting}
use Rattle.art_control_states.specs.Calls.{CallAt, call_after_words}
use Rattle.art_core.specs.declared.process.Process.{Process}
use Rattle.art_core.specs.Core.{State}
use Rattle.art_schedules.specs.trees.Trees.{IsClaimed}
use Rattle.art_schedules.specs.versions.Holding.{Named, Knows, holds, fills}
use Rattle.art_schedules.specs.versions.Effects.{IsGoodAt, IsAmong}

-- process p is in this call
pub record IsOpen (s : State) (p : ℕ) (call : Call) (q : Process) : Type 0 where
  pub own : slice_get s.processes p ≡ Some q
  pub is_open : q.call ≡ Some call

-- the stage at which it is
abbrev pub stage_of : Variant → Shape → Call → Process → CallAt
stage_of variant shape call q = call_after_words (setting shape variant call) q.got

-- the process is in this call, at this stage
pub record IsAtStage (variant : Variant) (shape : Shape) (s : State) (p : ℕ) (call : Call) (stage : CallAt) : Type 0 where
  pub process : Process
  pub is_open : IsOpen s p call process
  pub at : stage_of variant shape call process ≡ stage

-- the rows that it holds there, and the row that it fills
abbrev pub held_by : Variant → Shape → Call → Process → List HeldRow
held_by variant shape call q = holds (setting shape variant call) (stage_of variant shape call q)

-- this is so of each row that the call holds there,
abbrev pub AllHeld : Variant → Shape → Call → Process → (HeldRow → Type 0) → Type 0
AllHeld variant shape call q P = (h : HeldRow) → IsAmong h (held_by variant shape call q) → P h

-- each row that the process holds has this
abbrev pub EachHeld : Variant → Shape → State → ℕ → (HeldRow → Type 0) → Type 0
EachHeld variant shape s p P = (call : Call) (q : Process) → IsOpen s p call q → AllHeld variant shape call q P

abbrev pub filled_by : Variant → Shape → Call → Process → List Named
filled_by variant shape call q = fills (stage_of variant shape call q)

-- The row was claimed, and no process is filling it: only such rows are ever named by a child word or known to a call.
pub record IsSettled (variant : Variant) (shape : Shape) (s : State) (base : ℕ) (kind : Kind) : Type 0 where
  pub claimed : IsClaimed shape s.words base kind
  pub unfilled : (p : ℕ) (call : Call) (q : Process) → IsOpen s p call q → (b : ℕ) (k : Kind)
      → filled_by variant shape call q ≡ (b, k) ∷ [] → base ≢ b

-- a process is in a call that holds the row
pub record IsHeld (variant : Variant) (shape : Shape) (s : State) (base : ℕ) : Type 0 where
  pub holder : ℕ
  pub call : Call
  pub process : Process
  pub is_open : IsOpen s holder call process
  pub row : HeldRow
  pub among : IsAmong row (held_by variant shape call process)
  pub is : row.base ≡ base

-- no row is among them twice
abbrev pub AreDistinct : List HeldRow → Type 0
AreDistinct [] = Unit {0}
AreDistinct (h ∷ hs) = ((x : HeldRow) → IsAmong x hs → h.base ≢ x.base) × AreDistinct hs

-- Where n steps were made at most.
pub record IsSound (variant : Variant) (shape : Shape) (n : ℕ) (s : State) : Type 0 where
  pub long : length s.words ≡ table_words shape
  -- versions and claims rise by little in each step
  pub versions : (base : ℕ) (kind : Kind) → kind_at shape base ≡ Some kind → slice_index s.words base ≤ 3 * n
  pub claims : (kind : Kind) → slice_index s.words (claims_of kind) ≤ n + 1
  -- the rows that child words name are settled, and so is the root
  pub root : IsSettled variant shape s (root_base shape) Full
  pub children : (word : ℕ) → IsGoodAt (IsSettled variant shape s) shape word (slice_index s.words word)
  -- each open call knows settled rows alone, with versions that were not locked, and in the optimistic tree not obsolete
  pub knows : (p : ℕ) (call : Call) (q : Process) → IsOpen s p call q
      → Knows (IsSettled variant shape s) (setting shape variant call) (stage_of variant shape call q)
  -- a row that a process holds is locked from the version that was kept, and no two processes hold one row
  pub locked : (p : ℕ) → EachHeld variant shape s p (λ h. slice_index s.words h.base ≡ h.kept + 2)
  -- A process holds each locked row, without exception: a fresh row and one that is released
  -- forever are not locked, and the root is a row as any other.
  pub held : (base : ℕ) (kind : Kind) → kind_at shape base ≡ Some kind → is_locked (slice_index s.words base) ≡ true
      → IsHeld variant shape s base
  pub distinct : (p : ℕ) (call : Call) (q : Process) → IsOpen s p call q → AreDistinct (held_by variant shape call q)
  pub apart : (p r : ℕ) (call other : Call) (q w : Process) → IsOpen s p call q → IsOpen s r other w → (h x : HeldRow)
      → IsAmong h (held_by variant shape call q) → IsAmong x (held_by variant shape other w) → h.base ≡ x.base → p ≡ r
  -- a row that a process fills was claimed, and no two processes fill one row
  pub filled : (p : ℕ) (call : Call) (q : Process) → IsOpen s p call q → (b : ℕ) (k : Kind) → filled_by variant shape call q ≡ (b, k) ∷ []
      → IsClaimed shape s.words b k
  pub fills_apart : (p r : ℕ) (call other : Call) (q w : Process) → IsOpen s p call q → IsOpen s r other w → (b d : ℕ) (k l : Kind)
      → filled_by variant shape call q ≡ (b, k) ∷ [] → filled_by variant shape other w ≡ (d, l) ∷ [] → b ≡ d → p ≡ r
