-- What the words of a command line ask for.
use Rattle.std.specs.Prelude.{ℕ, Bool, true, false, ◌≡◌, ◌<◌, ◌≤◌, ◌⊎◌, ⊤, List, [], ◌∷◌, ◌++◌, Option, Some, None, map, codes}
use Rattle.std.specs.Prelude.{IfSome}
use Rattle.std.specs.List.{All}
use Rattle.std.specs.Option.{option_map_or}
use Rattle.clap.specs.Words.{Text, subcommand_of}
use Rattle.command_line.specs.Limits.{around_limit, budget_default, budget_limit, depth_limit, rows16_default, rows16_limit, rows256_default}
use Rattle.command_line.specs.Limits.{rows256_limit, rows4_default, rows4_limit, rows48_default}
use Rattle.command_line.specs.Limits.{rows48_limit, shown_limit, steps_limit, turns_limit, workers_default, workers_limit}
use Rattle.command_line.specs.Numbers.{IsNumber, IsNumberWithin, number_of}
use Rattle.command_line.specs.Program.{bench_app, bench_table, draw_usage, drive_usage}
use Rattle.command_line.specs.Requests.{Asked, Asks}
use Rattle.command_line.specs.Trees.{name_of, place_of, scheduled_place_of, strategy_place}
use Rattle.command_line.specs.Words.{AreOptionsOf, Given, value_given}
use Rattle.command_line.specs.Words.{option_words as words_of}
use Rattle.command_line.specs.declared.line.Line.{Line}
use Rattle.command_line.specs.declared.line.Line.TheVariants.{Check, Judge, Locate, Explain, Draw, Page, Follow, Generate, Schedule, Replay, Drive}
use Rattle.command_line.specs.declared.line.Rows.{Rows}
use Rattle.command_line.specs.declared.line.Tree.{Tree}
use Rattle.command_line.specs.declared.line.Tree.TheVariants.{Optimistic}

-- the numbers of rows, and others after them
abbrev pub rows_then : Rows → List ℕ → List ℕ
rows_then rows later = rows.rows4 ∷ rows.rows16 ∷ rows.rows48 ∷ rows.rows256 ∷ later

-- the number of a switch
abbrev pub switch_number : Bool → ℕ
switch_number true = 1
switch_number false = 0

-- the subcommand of a line, the numbers of its options in the order of the table, and its calls
abbrev pub asked_by : Line → Asked
asked_by (Check order) = record { name = codes "check"; numbers = []; calls = order.items }
asked_by (Judge budget workers) =
    record { name = codes "judge"; numbers = budget ∷ workers ∷ []; calls = [] }
asked_by (Locate budget order) = record { name = codes "locate"; numbers = budget ∷ switch_number order ∷ []; calls = [] }
asked_by (Explain budget) = record { name = codes "explain"; numbers = budget ∷ []; calls = [] }
asked_by (Draw budget workers around calls) =
    record { name = codes "draw"; numbers = budget ∷ workers ∷ around ∷ calls ∷ []; calls = [] }
asked_by (Page budget workers) =
    record { name = codes "page"; numbers = budget ∷ workers ∷ []; calls = [] }
asked_by (Follow budget) = record { name = codes "follow"; numbers = budget ∷ []; calls = [] }
asked_by (Generate seed processes calls get insert remove scan lo hi) = record {
  name = codes "generate";
  numbers = seed ∷ processes ∷ calls ∷ get ∷ insert ∷ remove ∷ scan ∷ lo ∷ hi ∷ [];
  calls = [];
}
asked_by (Schedule asked) = record {
  name = codes "schedule";
  numbers = asked.seed ∷ strategy_place asked.strategy ∷ asked.depth ∷ scheduled_place_of asked.tree ∷ rows_then asked.rows (asked.limit ∷ []);
  calls = [];
}
asked_by Replay = record { name = codes "replay"; numbers = []; calls = [] }
asked_by (Drive asked) =
    record { name = codes "drive"; numbers = place_of asked.tree ∷ rows_then asked.rows (asked.limit ∷ []); calls = [] }

-- the words ask for this line; the first word is the program's name
abbrev pub IsLineOf : List Text → Line → Type 0
IsLineOf words line = Asks bench_table (subcommand_of bench_app words) (asked_by line)

-- the numbers of rows are within their limits
abbrev pub AreRowsWithin : Rows → Type 0
AreRowsWithin rows = (rows.rows4 ≤ rows4_limit) × (rows.rows16 ≤ rows16_limit) × (rows.rows48 ≤ rows48_limit) × (1 ≤ rows.rows256)
    × (rows.rows256 ≤ rows256_limit)

-- each number of the line is within its limits, and the tree of a schedule is not the map under a
-- lock; the numbers of `generate` have only the limits of their types
abbrev pub IsWithinLimits : Line → Type 0
IsWithinLimits (Check order) = ⊤
IsWithinLimits (Judge budget workers) =
    (1 ≤ budget) × (budget ≤ budget_limit) × (1 ≤ workers) × (workers ≤ workers_limit)
IsWithinLimits (Locate budget order) = (1 ≤ budget) × (budget ≤ budget_limit)
IsWithinLimits (Explain budget) = (1 ≤ budget) × (budget ≤ budget_limit)
IsWithinLimits (Draw budget workers around calls) = (1 ≤ budget) × (budget ≤ budget_limit) × (1 ≤ workers)
    × (workers ≤ workers_limit) × (around ≤ around_limit) × (calls ≤ shown_limit)
IsWithinLimits (Page budget workers) =
    (1 ≤ budget) × (budget ≤ budget_limit) × (1 ≤ workers) × (workers ≤ workers_limit)
IsWithinLimits (Follow budget) = (1 ≤ budget) × (budget ≤ budget_limit)
IsWithinLimits (Generate seed processes calls get insert remove scan lo hi) = ⊤
IsWithinLimits (Schedule asked) = (1 ≤ asked.depth) × (asked.depth ≤ depth_limit) × (scheduled_place_of asked.tree < 6)
    × AreRowsWithin asked.rows × (1 ≤ asked.limit) × (asked.limit ≤ turns_limit)
IsWithinLimits Replay = ⊤
IsWithinLimits (Drive asked) = AreRowsWithin asked.rows × (1 ≤ asked.limit) × (asked.limit ≤ steps_limit)

-- the words are a name, `check`, and texts that each spell a number
abbrev pub IsCheck : List Text → List Text → Type 0
IsCheck words calls = (name : Text) × (words ≡ name ∷ codes "check" ∷ calls) × All IsNumber calls

-- the line is a check of the numbers that the texts spell
abbrev pub ChecksNumbers : List Text → Line → Type 0
ChecksNumbers calls (Check order) = order.items ≡ map number_of calls
ChecksNumbers calls other = ⊥

-- the words of an option: its flag and its value, and none if it is left out
abbrev pub option_words : Text → Option Text → List Text
option_words flag value = option_map_or (λ text. flag ∷ text ∷ []) value []

-- the words are a name, `judge` and these options of it, in either order; the value of each option
-- spells a number within its limits
pub record IsJudge (words : List Text) (budget workers : Option Text) : Type 0 where
  pub name : Text
  pub options : List Text
  pub words_are : words ≡ name ∷ codes "judge" ∷ options
  pub in_an_order :
      (options ≡ option_words (codes "--budget") budget ++ option_words (codes "--workers") workers)
      ⊎ (options
      ≡ option_words (codes "--workers") workers ++ option_words (codes "--budget") budget)
  pub budget_within : IfSome budget (IsNumberWithin budget_limit)
  pub workers_within : IfSome workers (IsNumberWithin workers_limit)

-- the words of a switch: its flag, and none if it is left out
abbrev pub switch_words : Text → Bool → List Text
switch_words flag true = flag ∷ []
switch_words flag false = []

-- the words are a name, `locate` and these options of it, in either order; the value of the budget
-- spells a number within its limits, and `--order` has no value
pub record IsLocate (words : List Text) (budget : Option Text) (order : Bool) : Type 0 where
  pub name : Text
  pub options : List Text
  pub words_are : words ≡ name ∷ codes "locate" ∷ options
  pub in_an_order :
      (options ≡ option_words (codes "--budget") budget ++ switch_words (codes "--order") order)
      ⊎ (options
      ≡ switch_words (codes "--order") order ++ option_words (codes "--budget") budget)
  pub budget_within : IfSome budget (IsNumberWithin budget_limit)

-- the words are a name, `draw` and these options of it
pub record IsDraw (words : List Text) (given : List Given) : Type 0 where
  pub name : Text
  pub words_are : words ≡ name ∷ codes "draw" ∷ words_of given
  pub options : AreOptionsOf draw_usage.flags given

-- the words are a name, `drive` and these options of it
pub record IsDrive (words : List Text) (given : List Given) : Type 0 where
  pub name : Text
  pub words_are : words ≡ name ∷ codes "drive" ∷ words_of given
  pub options : AreOptionsOf drive_usage.flags given

-- the tree is the one that the value names, and optimistic if there is no value
abbrev pub NamesTree : Option Text → Tree → Type 0
NamesTree None tree = tree ≡ Optimistic
NamesTree (Some text) tree = name_of tree ≡ text

-- the number that the value of an option spells, or the default if it is left out
abbrev pub number_given : List Given → Text → ℕ → ℕ
number_given given name default = option_map_or number_of (value_given given name) default

-- the line is a drawing with the numbers that the options name
abbrev pub Draws : List Given → Line → Type 0
Draws given (Draw budget workers around calls) =
    (budget ≡ number_given given (codes "budget") budget_default)
    × (workers ≡ number_given given (codes "workers") workers_default)
    × (around ≡ number_given given (codes "around") around_limit)
    × (calls ≡ number_given given (codes "calls") shown_limit)
Draws given other = ⊥

-- the line is a drive at the tree, with the rows and with the limit that the options name
abbrev pub Drives : List Given → Line → Type 0
Drives given (Drive asked) = NamesTree (value_given given (codes "tree")) asked.tree
    × (asked.rows.rows4 ≡ number_given given (codes "rows4") rows4_default)
    × (asked.rows.rows16 ≡ number_given given (codes "rows16") rows16_default)
    × (asked.rows.rows48 ≡ number_given given (codes "rows48") rows48_default)
    × (asked.rows.rows256 ≡ number_given given (codes "rows256") rows256_default)
    × (asked.limit ≡ number_given given (codes "limit") steps_limit)
Drives given other = ⊥
