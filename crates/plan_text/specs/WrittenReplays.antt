-- The value that a replay is written as: of version 1 where that says it all.
use Rattle.std.specs.Prelude.{◌<◌, ◌^◌, Bool, true, false, ◌&&◌, List, map, All, Option, Some, None}
use Rattle.serde_json.specs.Data.{Data, string}
use Rattle.map_object.specs.MapObject.{Contents}
use Rattle.events.specs.PlainHistories.{has_no_pairs}
use Rattle.history_text.specs.Texts.{number_data, list_data, pair_data}
use Rattle.art_core.specs.NamedTurns.{process_of_item}
use Rattle.art_core.specs.declared.item.Item.{Item}
use Rattle.plan_text.specs.Scripts.{scripts_data}
use Rattle.plan_text.specs.PlanTexts.{are_plain_scripts}
use Rattle.plan_text.specs.Replays.{ReplayView}
use Rattle.plan_text.specs.ReplayTexts.{Parts, document, item_data, rows_data, variant_name}

-- whether a replay has neither a starting pair nor a replace
abbrev pub is_plain : ReplayView → Bool
is_plain r = has_no_pairs r.start && are_plain_scripts r.scripts

-- the start that is written: none in version 1
abbrev pub written_start : Bool → Contents → Option Data
written_start true pairs = None
written_start false pairs = Some (list_data (map pair_data pairs))

-- the values of the members
abbrev pub written_parts : Bool → ReplayView → Parts
written_parts plain r = record {
  limit = number_data r.limit;
  rows = rows_data r.shape;
  schedule = list_data (map item_data r.schedule);
  scripts = scripts_data r.scripts;
  start = written_start plain r.start;
  variant = string (variant_name r.variant);
}

-- the value of the text that is written
abbrev pub written_data : ReplayView → Data
written_data r = document (written_parts (is_plain r) r)

-- each item names its process by a number that a `u64` holds, as all items in memory do
abbrev pub AreHeld : List Item → Type 0
AreHeld items = All (λ item. process_of_item item < 2 ^ 64) items
