-- What it means that the reads of a machine have their moments.
use Rattle.std.specs.Prelude.{◌≡◌, ℕ, List}
use Rattle.art_rows.specs.declared.variant.Variant.TheVariants.{Optimistic}
use Rattle.art_core.specs.Core.{Plan, State}
use Rattle.art_core.specs.Plans.{IsRun}
use Rattle.art_schedules.specs.moments.Reads.{AnsweredScansHaveMoments, AnsweredGetsHaveMoments}
use Rattle.machine.specs.declared.machines.Machine.{Machine}
use Rattle.machine.specs.Machines.{Shows, start_of}

-- If the tree is the optimistic one, this is so of whatever schedule gives what the machine shows.
abbrev pub InRuns : (Plan → List ℕ → List ℕ → Type 0) → Machine → Type 0
InRuns Holds m = (plan : Plan) (first schedule : List ℕ) (s : State) → IsRun plan (start_of m) first schedule s → Shows plan m s
    → m.variant ≡ Optimistic
    → Holds plan first schedule

-- Each scan that was answered in it has one moment at which nothing that it read changes.
abbrev pub ScansHaveMoments : Machine → Type 0
ScansHaveMoments m = InRuns AnsweredScansHaveMoments m

-- Each get that was answered in it has one moment at which the last row that it read does not
-- change, and says the reply.
abbrev pub GetsHaveMoments : Machine → Type 0
GetsHaveMoments m = InRuns AnsweredGetsHaveMoments m
