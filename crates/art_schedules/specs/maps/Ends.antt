-- That the inserts of starting pairs come to an end.
use Rattle.std.specs.Prelude.{ℕ, ◌*◌, ◌≤◌, List, length}
use Rattle.map_object.specs.MapObject.{Contents}
use Rattle.art_rows.specs.declared.table.Shape.{Shape}
use Rattle.art_rows.specs.declared.variant.Variant.{Variant}
use Rattle.art_core.specs.Core.{State, opened}
use Rattle.art_core.specs.Runs.{Gives}
use Rattle.art_core.specs.Starts.{start_plan}
use Rattle.art_core.specs.Plans.{IsPlan}

-- In every variant no schedule of the inserts has more than 1,002 steps a pair: an insert is called, makes at most 1,000 accesses, and is
-- answered.
abbrev pub StartsEnd : Type 0
StartsEnd = (shape : Shape) (variant : Variant) (start : Contents) → IsPlan (start_plan shape variant start)
    → (schedule : List ℕ) (s : State)
    → Gives (start_plan shape variant start) (opened (start_plan shape variant start)) schedule s → length schedule ≤ 1002 * length start
