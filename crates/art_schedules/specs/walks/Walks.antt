-- The law of scans that run alone.
use Rattle.std.specs.Prelude.{ℕ, ◌≤◌, List, length}
use Rattle.events.specs.declared.event.Call.TheVariants.{Scan}
use Rattle.events.specs.Limits.{pair_limit}
use Rattle.map_object.specs.MapObject.{Contents}
use Rattle.art_rows.specs.declared.table.Shape.{Shape}
use Rattle.art_rows.specs.declared.variant.Variant.{Variant}
use Rattle.art_core.specs.Meaning.{Means}
use Rattle.art_schedules.specs.trees.Trees.{IsAtRest}
use Rattle.art_schedules.specs.alone.Laws.{DoesAlone}

-- In every variant a scan, alone on a table at rest, does what it does on the map, where the map has no more pairs than a scan may answer.
abbrev pub ScansAreTheMaps : Type 0
ScansAreTheMaps = (s : Shape) (variant : Variant) (n : ℕ) (words : List ℕ) (m : Contents) (low high : ℕ) → length m ≤ pair_limit
    → IsAtRest s n words
    → Means s words m → DoesAlone s variant n words m (Scan low high)
