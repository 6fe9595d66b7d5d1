-- When the reads of threads have their moments.
use Rattle.std.specs.Prelude.{◌≡◌, ℕ, List}
use Rattle.art_rows.specs.Table.{opening}
use Rattle.art_rows.specs.declared.variant.Variant.TheVariants.{Optimistic}
use Rattle.art_core.specs.Core.{Plan, opened}
use Rattle.art_core.specs.Runs.{Gives, HasFewSteps}
use Rattle.art_schedules.specs.moments.Reads.{AnsweredScansHaveMoments, AnsweredGetsHaveMoments}
use Rattle.running.specs.declared.view.Setup.{Setup}
use Rattle.running.specs.declared.view.View.{View}
use Rattle.running.specs.Ends.{plan_of, state_of}

-- If the tree is the optimistic one and the processes made few enough steps, this holds for every
-- schedule that gives them.
abbrev pub InRuns : (Plan → List ℕ → List ℕ → Type 0) → Setup → View → Type 0
InRuns Holds setup v = setup.variant ≡ Optimistic → (words schedule : List ℕ)
    → Gives (plan_of setup v) (opened (plan_of setup v)) schedule (state_of words v) → HasFewSteps (state_of words v)
    → Holds (plan_of setup v) (opening setup.shape) schedule

-- Each scan that was answered has one moment at which nothing that it read is different.
abbrev pub ScansHaveMoments : Setup → View → Type 0
ScansHaveMoments setup v = InRuns AnsweredScansHaveMoments setup v

-- Each get that was answered has one moment at which the last row that it read is not different,
-- and says the reply.
abbrev pub GetsHaveMoments : Setup → View → Type 0
GetsHaveMoments setup v = InRuns AnsweredGetsHaveMoments setup v
