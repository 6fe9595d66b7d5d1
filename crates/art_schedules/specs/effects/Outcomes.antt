-- What a step of a run makes of calm's tree.
use Rattle.std.specs.Prelude.{◌≡◌, ◌≢◌, ◌⊎◌, ℕ, false, List, slice_index, Option, Some, None}
use Rattle.events.specs.declared.event.Call.{Call}
use Rattle.events.specs.declared.event.Reply.{Reply}
use Rattle.events.specs.declared.event.Reply.TheVariants.{Refused}
use Rattle.map_object.specs.MapObject.{Contents, after_reply, IsLegalReply}
use Rattle.art_rows.specs.declared.table.Shape.{Shape}
use Rattle.art_rows.specs.declared.table.Kind.{Kind}
use Rattle.art_rows.specs.Words.{is_obsolete}
use Rattle.art_rows.specs.declared.variant.Variant.{Variant}
use Rattle.art_control_states.specs.declared.stage.Outcome.{Outcome}
use Rattle.art_control_states.specs.declared.stage.Stage.{Stage}
use Rattle.art_control_states.specs.declared.stage.Stage.TheVariants.{Over}
use Rattle.art_control_states.specs.Stages.{setting, reply_for}
use Rattle.art_control_states.specs.Calls.{OnKey}
use Rattle.art_core.specs.Core.{State}
use Rattle.art_core.specs.Meaning.{Reached}
use Rattle.art_schedules.specs.trees.Trees.{IsClaimed}
use Rattle.art_schedules.specs.versions.Holding.{Named}
use Rattle.art_schedules.specs.versions.Versions.{IsAtStage, EachHeld}
use Rattle.art_schedules.specs.versions.Writers.{IsHeldBy}
use Rattle.art_schedules.specs.changes.Effects.{Effect, base_of_effect, pairs_after, HasEffect, ComesIn}
use Rattle.art_schedules.specs.changes.Courses.{ComesInBy, TreeGoesOn}
use Rattle.art_schedules.specs.effects.AtWork.{fresh_of, AtWork, AtEnd}

-- The effect is at a row that the process held.
pub record IsEffect (variant : Variant) (shape : Shape) (s : State) (p : ℕ) (calm after : List ℕ) (e : Effect) : Type 0 where
  pub has : HasEffect shape calm after e
  pub held : IsHeldBy variant shape s p (base_of_effect e)

abbrev pub IsEffectBy : Variant → Shape → State → ℕ → List ℕ → List ℕ → Option Effect → Type 0
IsEffectBy variant shape s p calm after None = Unit {0}
IsEffectBy variant shape s p calm after (Some e) = IsEffect variant shape s p calm after e

-- The step of process p has this effect on calm's tree, or none; a row that leaves it was obsolete before the step.
pub record Makes (variant : Variant) (shape : Shape) (s : State) (p : ℕ) (calm after : List ℕ) (m : Contents)
    (effect : Option Effect) : Type 0 where
  pub goes : TreeGoesOn shape s.words calm after m effect
  pub by : IsEffectBy variant shape s p calm after effect

-- The fresh row of a call is the one of before, or one that was not claimed then.
abbrev pub FreshGoesOn : Shape → State → Option Named → Option Named → Type 0
FreshGoesOn shape s fresh later = (later ≡ fresh)
    ⊎ ((row : Named) × (later ≡ Some row) × ((kind : Kind) → IsClaimed shape s.words row.0 kind → ⊥))

-- What a step of a call at work does: it goes on and calm's tree stays; or it is refused, and
-- calm's tree stays; or this is the step of its effect, and its reply is the map's, not a refusal;
-- the row that comes is not obsolete.
pub data WorkStep (variant : Variant) (shape : Shape) (s : State) (p : ℕ) (t : State) (calm after : List ℕ) (m : Contents) (call : Call)
    (fresh : Option Named)
    : Type 0 where
  Works : (stage : Stage) → (later : Option Named) → IsAtStage variant shape t p call (OnKey stage)
      → AtWork (setting shape variant call) t.words after later stage
      → FreshGoesOn shape s fresh later → Makes variant shape s p calm after m None → WorkStep variant shape s p t calm after m call fresh
  IsRefused : (stage : Stage) → IsAtStage variant shape t p call (OnKey stage)
      → AtEnd (setting shape variant call) t.words after Refused stage
      → Makes variant shape s p calm after m None → WorkStep variant shape s p t calm after m call fresh
  TakesEffect : (stage : Stage) → (e : Effect) → (reply : Reply) → IsAtStage variant shape t p call (OnKey stage)
      → AtEnd (setting shape variant call) t.words after reply stage → Makes variant shape s p calm after m (Some e) → fresh ≡ fresh_of e
      → pairs_after e m ≡ after_reply m call reply → IsLegalReply m call reply → reply ≢ Refused
      → ((b : ℕ) (k : Kind) → ComesIn e b k → is_obsolete (slice_index t.words b) ≡ false)
      → WorkStep variant shape s p t calm after m call fresh

-- What a step of a call at its end does: it releases a row, or it answers; calm's tree stays.
pub data EndStep (variant : Variant) (shape : Shape) (s : State) (p : ℕ) (t : State) (calm after : List ℕ) (m : Contents)
    (call : Call) (reply : Reply)
    (stage : Stage) : Type 0 where
  Leaves : (next : Stage) → IsAtStage variant shape t p call (OnKey next) → AtEnd (setting shape variant call) t.words after reply next
      → Makes variant shape s p calm after m None → EndStep variant shape s p t calm after m call reply stage
  Answers : (o : Outcome) → reply ≡ reply_for o → stage ≡ Over o → Makes variant shape s p calm after m None
      → EndStep variant shape s p t calm after m call reply stage

-- each row that the process holds is one of calm's tree
abbrev pub HoldsReached : Variant → Shape → State → ℕ → List ℕ → Type 0
HoldsReached variant shape s p calm = EachHeld variant shape s p (λ h. Reached shape calm h.base h.kind)

-- the effect of the step, if it has one, brings another row into the tree than this one
abbrev pub IsOther : Option Effect → Option Named → Type 0
IsOther effect None = Unit {0}
IsOther effect (Some row) = ComesInBy effect row.0 row.1 → ⊥

-- the fresh rows of two calls are two rows, where both have one
abbrev pub AreTwoRows : Option Named → Option Named → Type 0
AreTwoRows None other = Unit {0}
AreTwoRows (Some row) None = Unit {0}
AreTwoRows (Some row) (Some other) = row.0 ≢ other.0
