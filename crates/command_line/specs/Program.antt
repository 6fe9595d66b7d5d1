-- The program's command line: the table of its subcommands.
use Rattle.std.specs.Prelude.{ℕ, List, [], ◌∷◌, Some, None, codes, map, true, false}
use Rattle.clap.specs.Words.{App, Text}
use Rattle.command_line.specs.Commands.{table_app}
use Rattle.command_line.specs.Limits.{around_limit, budget_default, budget_limit, depth_default, depth_limit, rows16_default, rows16_limit}
use Rattle.command_line.specs.Limits.{rows256_default, rows256_limit, rows4_default, rows4_limit}
use Rattle.command_line.specs.Limits.{rows48_default, rows48_limit, shown_limit, steps_limit, turns_limit, u32_limit}
use Rattle.command_line.specs.Limits.{u64_limit, workers_default, workers_limit}
use Rattle.command_line.specs.Tables.{Flag, Usage, among, switch, within}
use Rattle.command_line.specs.Trees.{name_of, place_of, scheduled_place_of, scheduled_trees, strategies, strategy_name, strategy_place, trees}
use Rattle.command_line.specs.declared.line.Strategy.TheVariants.{Pos}
use Rattle.command_line.specs.declared.line.Tree.TheVariants.{Optimistic}

-- `check [CALL]..`
abbrev pub check_usage : Usage
check_usage = record { name = codes "check"; flags = []; takes_calls = true }

-- `--NAME N`, from the least to the greatest, with a default
abbrev pub number_flag : Text → ℕ → ℕ → ℕ → Flag
number_flag name least greatest default =
    record { name = name; values = within least greatest; default = Some default }

-- a subcommand of this name with a budget and workers: `NAME [--budget N] [--workers N]`
abbrev pub search_usage : Text → Usage
search_usage name = record {
  name = name;
  flags = number_flag (codes "budget") 1 budget_limit budget_default
      ∷ number_flag (codes "workers") 1 workers_limit workers_default ∷ [];
  takes_calls = false;
}

-- `judge [--budget N] [--workers N]`
abbrev pub judge_usage : Usage
judge_usage = search_usage (codes "judge")

-- a subcommand of this name with a budget: `NAME [--budget N]`
abbrev pub budget_usage : Text → Usage
budget_usage name = record { name = name; flags = number_flag (codes "budget") 1 budget_limit budget_default ∷ []; takes_calls = false }

-- `--NAME`, whose number is 1 if it is given, and 0 if it is left out
abbrev pub switch_flag : Text → Flag
switch_flag name = record { name = name; values = switch; default = Some 0 }

-- `locate [--budget N] [--order]`
abbrev pub locate_usage : Usage
locate_usage = record {
  name = codes "locate";
  flags = number_flag (codes "budget") 1 budget_limit budget_default ∷ switch_flag (codes "order") ∷ [];
  takes_calls = false;
}

-- `explain [--budget N]`
abbrev pub explain_usage : Usage
explain_usage = budget_usage (codes "explain")

-- `draw [--budget N] [--workers N] [--around N] [--calls N]`
abbrev pub draw_usage : Usage
draw_usage = record {
  name = codes "draw";
  flags = number_flag (codes "budget") 1 budget_limit budget_default
      ∷ number_flag (codes "workers") 1 workers_limit workers_default
      ∷ number_flag (codes "around") 0 around_limit around_limit
      ∷ number_flag (codes "calls") 0 shown_limit shown_limit ∷ [];
  takes_calls = false;
}

-- `page [--budget N] [--workers N]`
abbrev pub page_usage : Usage
page_usage = search_usage (codes "page")

-- `follow [--budget N]`
abbrev pub follow_usage : Usage
follow_usage = budget_usage (codes "follow")

-- `--NAME N`, which is required, with any number up to the greatest
abbrev pub required_flag : Text → ℕ → Flag
required_flag name greatest = record { name = name; values = within 0 greatest; default = None }

-- `generate --seed N --processes N --calls N --get N --insert N --remove N --scan N --lo N --hi N`
abbrev pub generate_usage : Usage
generate_usage = record {
  name = codes "generate";
  flags = required_flag (codes "seed") u64_limit ∷ required_flag (codes "processes") u32_limit
      ∷ required_flag (codes "calls") u32_limit ∷ required_flag (codes "get") u32_limit
      ∷ required_flag (codes "insert") u32_limit ∷ required_flag (codes "remove") u32_limit
      ∷ required_flag (codes "scan") u32_limit ∷ required_flag (codes "lo") u32_limit
      ∷ required_flag (codes "hi") u32_limit ∷ [];
  takes_calls = false;
}

-- `--strategy NAME`, and `pos` if it is left out
abbrev pub strategy_flag : Flag
strategy_flag = record {
  name = codes "strategy";
  values = among (map strategy_name strategies);
  default = Some (strategy_place Pos);
}

-- `--tree NAME` with a schedule, and `optimistic` if it is left out
abbrev pub scheduled_tree_flag : Flag
scheduled_tree_flag = record {
  name = codes "tree";
  values = among (map name_of scheduled_trees);
  default = Some (scheduled_place_of Optimistic);
}

-- how many rows of each kind there are: `[--rows4 N] [--rows16 N] [--rows48 N] [--rows256 N]`
abbrev pub rows_flags : List Flag → List Flag
rows_flags later =
    number_flag (codes "rows4") 0 rows4_limit rows4_default
    ∷ number_flag (codes "rows16") 0 rows16_limit rows16_default
    ∷ number_flag (codes "rows48") 0 rows48_limit rows48_default
    ∷ number_flag (codes "rows256") 1 rows256_limit rows256_default ∷ later

-- `schedule --seed N [--strategy NAME] [--depth N] [--tree NAME]`, the rows, and `[--limit N]`
abbrev pub schedule_usage : Usage
schedule_usage = record {
  name = codes "schedule";
  flags = required_flag (codes "seed") u64_limit ∷ strategy_flag
      ∷ number_flag (codes "depth") 1 depth_limit depth_default ∷ scheduled_tree_flag
      ∷ rows_flags (number_flag (codes "limit") 1 turns_limit turns_limit ∷ []);
  takes_calls = false;
}

-- `replay`
abbrev pub replay_usage : Usage
replay_usage = record { name = codes "replay"; flags = []; takes_calls = false }

-- `--tree NAME`, and `optimistic` if it is left out
abbrev pub tree_flag : Flag
tree_flag = record {
  name = codes "tree";
  values = among (map name_of trees);
  default = Some (place_of Optimistic);
}

-- `drive [--tree NAME] [--rows4 N] [--rows16 N] [--rows48 N] [--rows256 N] [--limit N]`
abbrev pub drive_usage : Usage
drive_usage = record {
  name = codes "drive";
  flags = tree_flag ∷ rows_flags (number_flag (codes "limit") 1 steps_limit steps_limit ∷ []);
  takes_calls = false;
}

-- the subcommands of the program
abbrev pub bench_table : List Usage
bench_table =
    check_usage ∷ judge_usage ∷ locate_usage ∷ explain_usage ∷ draw_usage ∷ page_usage ∷ follow_usage ∷ generate_usage ∷ schedule_usage
    ∷ replay_usage ∷ drive_usage ∷ []

-- the program, as `clap` reads it
unfoldable pub bench_app : App
bench_app = table_app (codes "bench") bench_table
