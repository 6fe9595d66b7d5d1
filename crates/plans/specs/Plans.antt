-- Plans: a script of calls for each process.
use Rattle.std.specs.Prelude.{◌≤◌, IsTrue, List, length, map, sum, All}
use Rattle.events.specs.declared.event.Call.{Call}
use Rattle.events.specs.Limits.{process_limit, call_limit}
use Rattle.art_rows.specs.TreeCalls.{is_tree_call}

-- no more scripts and calls than a plan may have
pub record AreFew (scripts : List (List Call)) : Type 0 where
  pub some_script : 1 ≤ length scripts
  pub few_scripts : length scripts ≤ process_limit
  pub few_calls : sum (map (λ script. length script) scripts) ≤ call_limit

-- a tree can do each call of each script
abbrev pub AreTreeCalls : List (List Call) → Type 0
AreTreeCalls scripts = All (λ script. All (λ call. IsTrue (is_tree_call call)) script) scripts

-- the scripts of a plan
pub record AreScripts (scripts : List (List Call)) : Type 0 where
  pub few : AreFew scripts
  pub calls : AreTreeCalls scripts
