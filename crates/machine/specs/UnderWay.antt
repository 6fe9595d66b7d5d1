-- What holds of words and runners at all times: a schedule gives a state that they show.
use Rattle.std.specs.Prelude.{ℕ, ◌+◌, ◌<◌, ◌^◌, List, map, sum}
use Rattle.map_object.specs.MapObject.{Contents}
use Rattle.art_rows.specs.declared.table.Shape.{Shape}
use Rattle.art_rows.specs.declared.variant.Variant.{Variant}
use Rattle.art_core.specs.Core.{Plan, State, opened_on}
use Rattle.art_core.specs.Runs.{Gives}
use Rattle.art_core.specs.Starts.{StartsOn, IsStartOf}
use Rattle.art_core.specs.Plans.{IsPlan}
use Rattle.machine.specs.declared.runner.Runner.{Runner}
use Rattle.machine.specs.Fitting.{ShowsState}

-- The steps that were made and the turns that are left are few together.
pub record IsUnderWay (shape : Shape) (variant : Variant) (start : Contents) (left : ℕ) (words : List ℕ)
    (runners : List Runner) : Type 0 where
  pub plan : Plan
  pub first : List ℕ
  pub schedule : List ℕ
  pub state : State
  pub within : IsPlan plan
  pub start_within : IsStartOf plan start
  pub starts : StartsOn plan.shape plan.variant start first
  pub gives : Gives plan (opened_on plan first) schedule state
  pub few : sum (map (λ q. q.steps) state.processes) + left < 2 ^ 61
  pub shows : ShowsState plan shape variant words runners state
