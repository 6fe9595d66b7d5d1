-- Plans within the limits, the states that schedules give of them, and those whose history is serial.
use Rattle.std.specs.Prelude.{◌≡◌, ℕ, ◌≤◌, IsTrue, List, [], ◌∷◌, length, map, sum, All}
use Rattle.events.specs.declared.event.Event.{Event}
use Rattle.events.specs.declared.event.Event.TheVariants.{Invoke, Answer}
use Rattle.events.specs.Limits.{process_limit, call_limit}
use Rattle.map_object.specs.MapObject.{Contents}
use Rattle.art_rows.specs.Table.{IsWithinLimits}
use Rattle.art_rows.specs.TreeCalls.{is_tree_call}
use Rattle.art_core.specs.Core.{Plan, State, opened_on}
use Rattle.art_core.specs.Runs.{Gives, HasFewSteps}
use Rattle.art_core.specs.Starts.{StartsOn, IsStartOf}

-- a plan within the limits
pub record IsPlan (plan : Plan) : Type 0 where
  pub shape : IsWithinLimits plan.shape
  pub some_script : 1 ≤ length plan.scripts
  pub few_scripts : length plan.scripts ≤ process_limit
  pub few_calls : sum (map (λ script. length script) plan.scripts) ≤ call_limit
  pub calls : All (λ script. All (λ call. IsTrue (is_tree_call call)) script) plan.scripts

-- A state that a schedule gives, of a plan within the limits, after few steps. It starts with these pairs, on these words.
pub record IsRun (plan : Plan) (start : Contents) (words : List ℕ) (schedule : List ℕ) (s : State) : Type 0 where
  pub within : IsPlan plan
  pub start_within : IsStartOf plan start
  pub starts : StartsOn plan.shape plan.variant start words
  pub gives : Gives plan (opened_on plan words) schedule s
  pub few_steps : HasFewSteps s

-- each call is answered before the next is invoked, the last one too
abbrev pub IsSerial : List Event → Type 0
IsSerial [] = Unit {0}
IsSerial (Invoke p call ∷ Answer q reply ∷ events) = (p ≡ q) × IsSerial events
IsSerial events = ⊥
