-- Scripts of calls as JSON values: one list of calls for each process, as plans and replays write them.
use Rattle.std.specs.Prelude.{◌≡◌, Bool, ◌&&◌, ◌||◌, not, List, map, IsTrue}
use Rattle.std.specs.List.{list_all}
use Rattle.serde_json.specs.Data.{Data}
use Rattle.events.specs.declared.event.Call.{Call}
use Rattle.events.specs.PlainHistories.{is_replace}
use Rattle.history_text.specs.Texts.{list_data, call_data}
use Rattle.art_rows.specs.TreeCalls.{is_tree_call}

-- ---- the values that JSON gives them

abbrev pub script_data : List Call → Data
script_data calls = list_data (map call_data calls)

abbrev pub scripts_data : List (List Call) → Data
scripts_data scripts = list_data (map script_data scripts)

-- which calls a script may have

-- whether a call is one that a tree can do, and a replace only where the text may hold one
abbrev pub is_script_call : Bool → Call → Bool
is_script_call may_replace call = is_tree_call call && (may_replace || not (is_replace call))

abbrev pub is_script : Bool → List Call → Bool
is_script may_replace calls = list_all (is_script_call may_replace) calls

abbrev pub are_scripts : Bool → List (List Call) → Bool
are_scripts may_replace scripts = list_all (is_script may_replace) scripts

-- the value spells these scripts, of calls that they may have
pub record SpellsScripts (may_replace : Bool) (d : Data) (scripts : List (List Call)) : Type 0 where
  pub value : d ≡ scripts_data scripts
  pub standing : IsTrue (are_scripts may_replace scripts)
