-- The text of a plan: JSON whose value is that of its scripts, in one of two versions.
use Rattle.std.specs.Prelude.{◌≡◌, ℕ, Bool, true, false, not, List, codes, IsTrue}
use Rattle.std.specs.List.{list_all}
use Rattle.serde_json.specs.Data.{Data}
use Rattle.events.specs.declared.event.Call.{Call}
use Rattle.events.specs.PlainHistories.{is_replace}
use Rattle.history_text.specs.Texts.{number_data, IsJson}
use Rattle.history_text.specs.ValueFaults.{object_of_two}
use Rattle.plan_text.specs.Scripts.{scripts_data, are_scripts}

-- the version of a text that may hold a replace, and of one that may not
abbrev pub version_of : Bool → ℕ
version_of false = 1
version_of true = 2

-- the value of a text with these scripts, of the version that may hold a replace or of the other
abbrev pub plan_data : Bool → List (List Call) → Data
plan_data may_replace scripts =
    object_of_two (codes "scripts") (scripts_data scripts) (codes "version") (number_data (version_of may_replace))

-- whether no call of a script is a replace, and none of any script
abbrev pub is_plain_script : List Call → Bool
is_plain_script calls = list_all (λ call. not (is_replace call)) calls

abbrev pub are_plain_scripts : List (List Call) → Bool
are_plain_scripts scripts = list_all is_plain_script scripts

-- the value that a plan is written as: of version 1 where that says it all
abbrev pub written_data : List (List Call) → Data
written_data scripts = plan_data (not (are_plain_scripts scripts)) scripts

-- the value of a text spells these scripts, however many they are
pub record SpellsPlanAs (d : Data) (scripts : List (List Call)) : Type 0 where
  pub may_replace : Bool
  pub value : d ≡ plan_data may_replace scripts
  pub standing : IsTrue (are_scripts may_replace scripts)

-- the text spells these scripts, however many they are
pub record SpellsPlan (text : List ℕ) (scripts : List (List Call)) : Type 0 where
  pub value : Data
  pub json : IsJson text value
  pub spelled : SpellsPlanAs value scripts
