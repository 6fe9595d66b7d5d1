-- That what fits each call of the coupled tree is kept.
use Rattle.std.specs.Prelude.{List, ℕ}
use Rattle.events.specs.declared.event.Call.{Call}
use Rattle.map_object.specs.MapObject.{Contents}
use Rattle.art_rows.specs.declared.table.Shape.{Shape}
use Rattle.art_rows.specs.declared.variant.Variant.TheVariants.{Coupled}
use Rattle.art_core.specs.Core.{State, history_of}
use Rattle.art_core.specs.Plans.{IsRun}
use Rattle.events.specs.Operations.{operations}
use Rattle.orders.specs.Orders.{IsLinearizable}
use Rattle.art_schedules.specs.stories.Fitting.{AreLed, the_plan}
use Rattle.art_schedules.specs.coupled_runs.KeptScans.{ScansAreKept}
use Rattle.art_schedules.specs.coupled_runs.CoupledFits.{Ghosts, IsWorld, CoupledFits, OfScans}

-- each step of a run preserves what fits a call, with a ghost and a fact about the whole state
abbrev pub CoupledAreLed : Shape → List (List Call) → Contents → List ℕ → OfScans → Type 0
CoupledAreLed shape scripts start words Scans =
    AreLed (the_plan Coupled shape scripts) start words Ghosts (λ g schedule s calm. IsWorld shape g s calm) (CoupledFits shape Scans)

-- there is something that fits scans, and is kept
abbrev pub HaveScans : Shape → List (List Call) → Contents → List ℕ → Type 1
HaveScans shape scripts start words = (Scans : OfScans) × ScansAreKept (the_plan Coupled shape scripts) start words Scans

-- What stories give (`orders-of-ghosts`): where what fits each call is kept, each run is linearizable.
abbrev pub LedAreLinearizable : Type 1
LedAreLinearizable = (shape : Shape) (scripts : List (List Call)) (start : Contents) (words : List ℕ) (Scans : OfScans)
    → CoupledAreLed shape scripts start words Scans → (schedule : List ℕ) (s : State)
    → IsRun (the_plan Coupled shape scripts) start words schedule s
    → IsLinearizable start (operations (history_of s))
