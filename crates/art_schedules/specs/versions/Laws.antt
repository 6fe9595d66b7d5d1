-- The laws of rows and versions of the two full trees.
use Rattle.std.specs.Prelude.{◌≡◌, ◌⊎◌, ℕ, ◌<◌, ◌^◌, List, ◌++◌, [], ◌∷◌}
use Rattle.map_object.specs.MapObject.{Contents}
use Rattle.art_rows.specs.declared.variant.Variant.{Variant}
use Rattle.art_rows.specs.declared.variant.Variant.TheVariants.{Coupled, Optimistic}
use Rattle.art_core.specs.Core.{Plan, State, opened_on}
use Rattle.art_core.specs.Runs.{Gives}
use Rattle.art_core.specs.Plans.{IsRun}
use Rattle.art_schedules.specs.versions.Versions.{IsSound}
use Rattle.art_schedules.specs.versions.Writers.{WritesOwn}

-- a tree that leaves out no lock and no check
abbrev pub IsFull : Variant → Type 0
IsFull variant = (variant ≡ Coupled) ⊎ (variant ≡ Optimistic)

-- In every state that a schedule gives, rows and versions are sound, after so few steps that no version outgrows its word.
abbrev pub RowsAreSound : Type 0
RowsAreSound = (plan : Plan) (start : Contents) (words schedule : List ℕ) (s : State) → IsRun plan start words schedule s
    → IsFull plan.variant
    → (n : ℕ) × (n < 2 ^ 62) × IsSound plan.variant plan.shape n s

-- In each step a process writes only words of rows that it holds, takes or fills.
abbrev pub HoldersWrite : Type 0
HoldersWrite = (plan : Plan) (start : Contents) (words schedule : List ℕ) (p : ℕ) (s t : State)
    → IsRun plan start words (schedule ++ p ∷ []) t
    → IsFull plan.variant → Gives plan (opened_on plan words) schedule s → WritesOwn plan.variant plan.shape s p t
