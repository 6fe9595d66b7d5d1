-- The command of a table, as `clap` reads it: its subcommands and their arguments.
use Rattle.std.specs.Prelude.{ℕ, Bool, true, not, if◌then◌else◌, is_some, Some, codes, List, [], ◌∷◌, ◌++◌, map}
use Rattle.clap.specs.Words.{App, Rule, Text, new_rule}
use Rattle.clap.specs.Simple.{new_shape}
use Rattle.clap.specs.Lexer.{usize_max}
use Rattle.clap.specs.declared.builder.action.ArgAction.TheVariants.{Set}
use Rattle.clap.specs.declared.builder.value_parser.ValueParser.{ValueParser}
use Rattle.clap.specs.declared.builder.value_parser.ValueParser.TheVariants.{String, Unsigned}
use Rattle.command_line.specs.Tables.{Choice, Flag, Usage, among, has_none, switch, switch_text, within}

-- `[CALL]..`: any number of values, each a number that a `u32` holds
abbrev pub calls_rule : Rule
calls_rule = record (new_rule (codes "CALL")) {
  range = Some (record { start_inclusive = 0; end_inclusive = usize_max });
  parser = Some (Unsigned 0 4294967295);
}

-- what `clap` checks of a value: a number within its limits, or any text
abbrev pub parser_for : Choice → ValueParser
parser_for (within least greatest) = Unsigned least greatest
parser_for (among words) = String
parser_for switch = String

-- how many values it takes
abbrev pub values_of : Choice → ℕ
values_of (within least greatest) = 1
values_of (among words) = 1
values_of switch = 0

-- the texts that are read as values if none is given
abbrev pub missing_of : Choice → List Text
missing_of (within least greatest) = []
missing_of (among words) = []
missing_of switch = switch_text ∷ []

-- `--NAME VALUE`, or `--NAME`; it is required if it has no default
abbrev pub option_rule : Flag → Rule
option_rule f = record (new_rule f.name) {
  long = Some f.name;
  action = Some Set;
  range = Some (record { start_inclusive = values_of f.values; end_inclusive = values_of f.values });
  value_names = 1;
  missing = missing_of f.values;
  parser = Some (parser_for f.values);
  required = not (is_some f.default);
}

-- the arguments of a subcommand
abbrev pub calls_rules : Bool → List Rule
calls_rules takes_calls = if takes_calls then calls_rule ∷ [] else []

abbrev pub rules_for : Usage → List Rule
rules_for u = map option_rule u.flags ++ calls_rules u.takes_calls

-- a subcommand with these arguments
abbrev pub leaf : Text → List Rule → App
leaf name rules = record { top = record (new_shape name) { rules = rules }; subs = [] }

-- the program: one of its subcommands is required
abbrev pub table_app : Text → List Usage → App
table_app name table = record {
  top = record (new_shape name) { subcommand_required = true; is_leaf = has_none table };
  subs = map (λ u. (leaf u.name (rules_for u)).top) table;
}
