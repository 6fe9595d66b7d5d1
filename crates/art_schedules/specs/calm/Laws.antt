-- The laws of calm in the two full trees.
use Rattle.std.specs.Prelude.{◌≡◌, ℕ, List, [], ◌∷◌, ◌++◌}
use Rattle.art_core.specs.Core.{Plan, State, opened_on}
use Rattle.art_core.specs.Runs.{Gives}
use Rattle.art_schedules.specs.calm.Calm.{calm_after, calm_of}

-- Calm is the words before the first step, and after each step what calm_after makes of it.
pub record CalmGoes (plan : Plan) (words : List ℕ) : Type 0 where
  pub first : calm_of plan words [] ≡ words
  pub next : (schedule : List ℕ) (p : ℕ) (t : State) → Gives plan (opened_on plan words) (schedule ++ p ∷ []) t
      → calm_of plan words (schedule ++ p ∷ []) ≡ calm_after plan.shape (calm_of plan words schedule) t.words
