-- Steps of a run of the coupled tree, and what a call on a key does in one.
use Rattle.std.specs.Prelude.{◌≡◌, ◌≢◌, ℕ, ◌<◌, true, false, List, slice_index, Option, Some}
use Rattle.events.specs.declared.event.Call.{Call}
use Rattle.events.specs.declared.event.Reply.{Reply}
use Rattle.map_object.specs.MapObject.{Contents}
use Rattle.art_rows.specs.declared.table.Shape.{Shape}
use Rattle.art_rows.specs.declared.table.Kind.{Kind}
use Rattle.art_rows.specs.declared.table.Child.TheVariants.{Row}
use Rattle.art_rows.specs.Words.{is_obsolete, locked_word}
use Rattle.art_rows.specs.declared.variant.Variant.TheVariants.{Coupled}
use Rattle.art_rows.specs.declared.access.Access.TheVariants.{Exchange as Swap}
use Rattle.art_control_states.specs.declared.stage.HeldRow.{HeldRow}
use Rattle.art_control_states.specs.declared.stage.Hold.{Hold}
use Rattle.art_control_states.specs.declared.stage.Outcome.{Outcome}
use Rattle.art_control_states.specs.declared.stage.Stage.{Stage}
use Rattle.art_control_states.specs.declared.stage.Stage.TheVariants.{Unlock, Obsolete}
use Rattle.art_control_states.specs.Stages.{setting}
use Rattle.art_control_states.specs.Calls.{OnKey}
use Rattle.art_core.specs.Core.{Plan, State}
use Rattle.art_core.specs.Meaning.{Reached, child_on, Means}
use Rattle.art_schedules.specs.trees.Trees.{IsAtRest}
use Rattle.art_schedules.specs.versions.Versions.{IsAtStage, EachHeld}
use Rattle.art_schedules.specs.calm.Calm.{calm_of}
use Rattle.art_schedules.specs.calm.Changes.{AsksFor, IsRunStep}
use Rattle.art_schedules.specs.changes.Effects.{Effect}
use Rattle.art_schedules.specs.changes.Courses.{IsGoneBy, ComesInBy}
use Rattle.art_schedules.specs.changes.Follows.{KeepsTree}
use Rattle.art_schedules.specs.coupled.Knows.{KnowsWay}
use Rattle.art_schedules.specs.coupled.Goes.{Goes}
use Rattle.art_schedules.specs.effects.Marks.{HangsOnAbove}

-- A step of a run of the coupled tree, before which calm is a tree at rest that means these pairs.
pub record IsCoupledStep (plan : Plan) (start : Contents) (words schedule : List ℕ) (p : ℕ) (s t : State) (claims : ℕ)
    (m : Contents) : Type 0 where
  pub coupled : plan.variant ≡ Coupled
  pub run : IsRunStep plan start words schedule p s t
  pub rests : IsAtRest plan.shape claims (calm_of plan words schedule)
  pub means : Means plan.shape (calm_of plan words schedule) m

-- the row hangs in the calm tree on a row that a process releases, having made it obsolete
pub record IsLeaving (shape : Shape) (s : State) (calm : List ℕ) (leaving : ℕ → Option ℕ) (base : ℕ) (kind : Kind) : Type 0 where
  pub process : ℕ
  pub call : Call
  pub hold : Hold
  pub outcome : Option Outcome
  pub at : IsAtStage Coupled shape s process call (OnKey (Unlock hold outcome))
  pub leaves : leaving process ≡ Some base
  pub byte : ℕ
  pub is_byte : byte < 256
  pub reached : Reached shape calm hold.row.base hold.row.kind
  pub hangs : child_on shape calm hold.row.base hold.row.kind byte ≡ Row base kind

-- A row of the calm tree that is obsolete in the words is about to leave it. For each process,
-- `leaving` names the row that it has made obsolete, as long as it holds the row above.
abbrev pub ObsoleteLeave : Shape → State → List ℕ → (ℕ → Option ℕ) → Type 0
ObsoleteLeave shape s calm leaving = (base : ℕ) (kind : Kind) → Reached shape calm base kind → is_obsolete (slice_index s.words base) ≡ true
    → IsLeaving shape s calm leaving base kind

-- After its step the call is at the next stage, and the calm tree is as it was. There it knows its
-- way, or its work begins, or it has found its reply.
pub record GoesFrom (shape : Shape) (call : Call) (t : State) (p : ℕ) (calm after : List ℕ) (m : Contents) : Type 0 where
  pub next : Stage
  pub at : IsAtStage Coupled shape t p call (OnKey next)
  pub keeps : KeepsTree shape calm after
  pub goes : Goes (setting shape Coupled call) after t.words m next

-- After its step a call that has found its reply is at the next stage, and the calm tree is as it
-- was.
pub record StaysFrom (shape : Shape) (call : Call) (t : State) (p : ℕ) (calm after : List ℕ) (reply : Reply) : Type 0 where
  pub next : Stage
  pub at : IsAtStage Coupled shape t p call (OnKey next)
  pub keeps : KeepsTree shape calm after
  pub knows : KnowsWay (setting shape Coupled call) after t.words (Some reply) next

-- ---- obsolete rows

-- no process holds a row that was obsolete when it was locked
abbrev pub HeldAreLive : Shape → State → Type 0
HeldAreLive shape s = (p : ℕ) → EachHeld Coupled shape s p (λ h. is_obsolete h.kept ≡ false)

-- the process takes no obsolete row in its step
abbrev pub TakesLive : Shape → State → ℕ → Type 0
TakesLive shape s p = (h : HeldRow) → AsksFor Coupled shape s p (Swap h.base h.kept (locked_word h.kept)) → slice_index s.words h.base ≡ h.kept
    → is_obsolete h.kept ≡ false

-- The row that the process makes obsolete hangs in the calm tree on the row above that it holds too; from now on it is named as leaving.
abbrev pub MakesLeave : Shape → List ℕ → Hold → Option ℕ → Type 0
MakesLeave shape calm h named = HangsOnAbove shape calm h × (named ≡ Some h.row.base)

-- What a step of process p does to the rows that are obsolete: one that it makes obsolete is named,
-- and one that was named leaves the calm tree as p releases the row above. What comes into the calm
-- tree is not obsolete after the step.
pub record LeavesBy (shape : Shape) (s t : State) (p : ℕ) (calm : List ℕ) (effect : Option Effect)
    (leaving next : ℕ → Option ℕ) : Type 0 where
  pub others : (r : ℕ) → r ≢ p → next r ≡ leaving r
  pub makes : (call : Call) (h : Hold) → IsAtStage Coupled shape s p call (OnKey (Obsolete h)) → MakesLeave shape calm h (next p)
  pub leaves : (call : Call) (h : Hold) (outcome : Option Outcome) (base : ℕ) → IsAtStage Coupled shape s p call (OnKey (Unlock h outcome))
      → leaving p ≡ Some base
      → IsGoneBy effect base
  pub fresh : (base : ℕ) (kind : Kind) → ComesInBy effect base kind → is_obsolete (slice_index t.words base) ≡ false
