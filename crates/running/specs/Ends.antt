-- What is known of processes that have come to their end together.
use Rattle.std.specs.Prelude.{◌≡◌, ℕ, ◌<◌, ◌≤◌, List, [], map, length, All}
use Rattle.std.specs.List.{range_with_len}
use Rattle.atomic_table.specs.Table.{Step}
use Rattle.events.specs.declared.event.Call.{Call}
use Rattle.events.specs.declared.event.Event.{Event}
use Rattle.events.specs.Events.{process_of, events_of}
use Rattle.events.specs.Histories.{AreHistoryEvents}
use Rattle.art_rows.specs.Table.{opening}
use Rattle.art_core.specs.Core.{Plan, State, history_of, opened}
use Rattle.art_core.specs.Runs.{Gives, HasFewSteps}
use Rattle.art_core.specs.Laws.{begun_plan}
use Rattle.art_core.specs.Plans.{IsPlan, IsRun}
use Rattle.running.specs.declared.view.Setup.{Setup}
use Rattle.running.specs.declared.view.View.{View}
use Rattle.running.specs.Views.{numbers_of}
use Rattle.running.specs.Rule.{Seated}

-- the calls that the processes began, as scripts
abbrev pub plan_of : Setup → View → Plan
plan_of setup v = begun_plan setup.shape setup.variant (map (λ x. x.1) v.processes)

-- the processes of a view, on these words
abbrev pub state_of : List ℕ → View → State
state_of words v = record { words = words; processes = map (λ x. x.1) v.processes }

-- The view has each process once. The events of each are those of its log, all of them, in order, and there is no event of another process.
pub record HasOwnEvents (setup : Setup) (v : View) (events : List Event) : Type 0 where
  pub numbers : numbers_of v.processes ≡ range_with_len 0 setup.processes
  pub each : All (λ x. events_of x.0 events ≡ map (λ e. e.1) x.1.log) v.processes
  pub known : All (λ e. process_of e < setup.processes) events

-- Some schedule gives the processes of the view, on some words, with the calls that they began as
-- scripts. What they logged is a history; where they made few steps, all holds that is proved of
-- such runs.
pub record Ended (setup : Setup) (v : View) : Type 0 where
  pub words : List ℕ
  pub schedule : List ℕ
  pub within : IsPlan (plan_of setup v)
  pub gives : Gives (plan_of setup v) (opened (plan_of setup v)) schedule (state_of words v)
  pub history : AreHistoryEvents (history_of (state_of words v))
  pub own : HasOwnEvents setup v (history_of (state_of words v))
  pub run : HasFewSteps (state_of words v) → IsRun (plan_of setup v) [] (opening setup.shape) schedule (state_of words v)

-- What a look shows: nothing has changed, there are no more processes than there may be, and what is known where they are all.
abbrev pub Looks : Step Call → Seated → ℕ → Seated → Type 0
Looks step me n new = (new.1 ≡ me.1) × (new.0.view ≡ me.0.view) × (length me.0.view.processes ≤ me.0.view.setup.processes)
    × (length me.0.view.processes ≡ me.0.view.setup.processes → Ended me.0.view.setup me.0.view)
