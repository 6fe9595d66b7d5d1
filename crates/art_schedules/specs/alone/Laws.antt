-- Laws of calls that run alone.
use Rattle.std.specs.Prelude.{◌≡◌, List, ℕ, Bool, true, false}
use Rattle.events.specs.declared.event.Call.{Call}
use Rattle.events.specs.declared.event.Call.TheVariants.{Get, Insert, Remove, Scan, Replace}
use Rattle.map_object.specs.MapObject.{Contents, reply_to, after}
use Rattle.art_rows.specs.declared.table.Shape.{Shape}
use Rattle.art_rows.specs.declared.variant.Variant.{Variant}
use Rattle.art_rows.specs.TreeCalls.{is_tree_call}
use Rattle.art_rows.specs.Act.{act}
use Rattle.art_core.specs.Meaning.{Means}
use Rattle.art_schedules.specs.trees.Trees.{IsAtRest}
use Rattle.art_schedules.specs.alone.Alone.{RunsAlone}

-- The call runs alone to the reply that the map has for it, and leaves a table at rest that means the map after the call.
pub record DoesAlone (s : Shape) (variant : Variant) (n : ℕ) (words : List ℕ) (m : Contents) (call : Call) : Type 0 where
  pub later : List ℕ
  pub runs : RunsAlone (act s variant call) words later (reply_to m call)
  pub rest : IsAtRest s n later
  pub means : Means s later (after m call)

-- the calls that seek one key and insert nothing
abbrev pub is_seek : Call → Bool
is_seek (Get key) = true
is_seek (Insert key value) = false
is_seek (Remove key) = true
is_seek (Scan low high) = false
is_seek (Replace key expected value) = true

-- In every variant a get, a remove or a replace, alone on a table at rest, does what it does on the map.
abbrev pub SeeksAreTheMaps : Type 0
SeeksAreTheMaps = (s : Shape) (variant : Variant) (n : ℕ) (words : List ℕ) (m : Contents) (call : Call) → is_tree_call call ≡ true
    → is_seek call ≡ true
    → IsAtRest s n words → Means s words m → DoesAlone s variant n words m call
