-- Laws of inserts that run alone.
use Rattle.std.specs.Prelude.{◌≡◌, ℕ, ◌+◌, ◌<◌, ◌≤◌, ◌^◌, true, List}
use Rattle.events.specs.declared.event.Call.{Call}
use Rattle.events.specs.declared.event.Call.TheVariants.{Insert}
use Rattle.events.specs.declared.event.Reply.{Reply}
use Rattle.map_object.specs.MapObject.{Contents, IsLegalReply, after_reply}
use Rattle.art_rows.specs.declared.table.Shape.{Shape}
use Rattle.art_rows.specs.Table.{IsWithinLimits}
use Rattle.art_rows.specs.declared.variant.Variant.{Variant}
use Rattle.art_rows.specs.TreeCalls.{is_tree_call}
use Rattle.art_rows.specs.Act.{act}
use Rattle.art_core.specs.Meaning.{Means}
use Rattle.art_core.specs.Forms.{IsTree}
use Rattle.art_schedules.specs.alone.Alone.{RunsAlone, accesses}
use Rattle.art_schedules.specs.trees.Trees.{IsAtRest}
use Rattle.art_schedules.specs.inserts.Settled.{HasOldOrNewRows, IsAfterInsert}

-- Settled words that are a tree of rows that were reached before or claimed since are at rest.
abbrev pub SettledWordsRest : Type 0
SettledWordsRest = (s : Shape) (n : ℕ) (words later : List ℕ) → IsAtRest s n words → IsAfterInsert s words later → IsTree s later
    → HasOldOrNewRows s words later → IsAtRest s (n + 1) later

-- The call runs alone to a legal reply by at most 1,000 accesses. It leaves a table at rest that
-- means the map after it, with at most one claim more of each kind.
pub record DoesOrRefuses (s : Shape) (variant : Variant) (n : ℕ) (words : List ℕ) (m : Contents) (call : Call) : Type 0 where
  pub reply : Reply
  pub later : List ℕ
  pub runs : RunsAlone (act s variant call) words later reply
  pub few : accesses runs ≤ 1000
  pub legal : IsLegalReply m call reply
  pub rests : IsAtRest s (n + 1) later
  pub means : Means s later (after_reply m call reply)

-- In every variant an insert, alone on a table at rest, does what it does on the map, or is refused and changes nothing of the map.
abbrev pub InsertsAreTheMaps : Type 0
InsertsAreTheMaps = (s : Shape) (variant : Variant) (n : ℕ) (words : List ℕ) (m : Contents) (key value : ℕ)
    → is_tree_call (Insert key value) ≡ true
    → IsWithinLimits s → n < 2 ^ 62 → IsAtRest s n words → Means s words m → DoesOrRefuses s variant n words m (Insert key value)
