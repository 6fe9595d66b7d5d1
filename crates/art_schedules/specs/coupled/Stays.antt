-- What a step of any process has to leave of the rows that a call holds, so that what the call knows stays so.
use Rattle.std.specs.Prelude.{ℕ, List, true, Option}
use Rattle.map_object.specs.MapObject.{Contents}
use Rattle.events.specs.declared.event.Call.{Call}
use Rattle.events.specs.declared.event.Reply.{Reply}
use Rattle.art_rows.specs.declared.table.Shape.{Shape}
use Rattle.art_rows.specs.declared.variant.Variant.TheVariants.{Coupled}
use Rattle.art_rows.specs.Rows.{is_insert}
use Rattle.art_control_states.specs.declared.stage.Stage.{Stage}
use Rattle.art_control_states.specs.Stages.{setting}
use Rattle.art_schedules.specs.versions.Holding.{Each}
use Rattle.art_schedules.specs.versions.Locking.{held_at_stage}
use Rattle.art_schedules.specs.changes.Effects.{Effect}
use Rattle.art_schedules.specs.changes.Courses.{IsGoneBy, ComesInBy, IsStill}
use Rattle.art_schedules.specs.changes.Follows.{Follows}
use Rattle.art_schedules.specs.coupled.Knows.{KnowsWay}

-- Where the calm tree changes by an effect, or by none, a call whose rows are still knows what it knew.
abbrev pub WaysAreKept : Type 0
WaysAreKept = (shape : Shape) (call : Call) (n : ℕ) (calm words after later : List ℕ) (pairs : Contents) (effect : Option Effect)
    (found : Option Reply)
    (stage : Stage) → Follows shape n calm after pairs (IsGoneBy effect) (ComesInBy effect)
    → Each (IsStill calm words after later effect) (held_at_stage true (is_insert call) stage)
    → KnowsWay (setting shape Coupled call) calm words found stage
    → KnowsWay (setting shape Coupled call) after later found stage
