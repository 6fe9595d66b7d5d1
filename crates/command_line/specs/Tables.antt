-- Tables of subcommands: the name of each, its options with their values and defaults, and whether
-- it takes the numbers of calls.
use Rattle.std.specs.Prelude.{◌-◌, ◌==◌, ℕ, Bool, true, false, not, ◌&&◌, nat_le, length, List, [], ◌∷◌, Option, map, codes, find}
use Rattle.std.specs.List.{list_all, list_any, position_or_len}
use Rattle.std.specs.Option.{option_map_or}
use Rattle.std.specs.Str.{bytes_eq}
use Rattle.clap.specs.Lexer.{has_byte}
use Rattle.clap.specs.Walk.{is_empty, texts}
use Rattle.clap.specs.Words.{Text}
use Rattle.command_line.specs.Limits.{u64_limit}
use Rattle.command_line.specs.declared.table.Subcommand.{Subcommand}
use Rattle.command_line.specs.declared.table.ValueOption.{ValueOption}
use Rattle.command_line.specs.declared.table.Values.{Values}
use Rattle.command_line.specs.declared.table.Values.TheVariants.{Within, Among, Switch}

-- The values that an option may have, each with a number. A value is a number from the least to the
-- greatest, or one of some words: then its number is its place among them. A switch has no value, and
-- its number is 1 if it is given.
pub data Choice : Type 0 where
  within : ℕ → ℕ → Choice
  among : List Text → Choice
  switch : Choice

-- the least and the greatest number of a value
abbrev pub least_of : Choice → ℕ
least_of (within least greatest) = least
least_of (among words) = 0
least_of switch = 0

abbrev pub greatest_of : Choice → ℕ
greatest_of (within least greatest) = greatest
greatest_of (among words) = length words - 1
greatest_of switch = 1

-- the text that is read as the value of a switch that is given
abbrev pub switch_text : Text
switch_text = codes "given"

-- the text is one of the words
abbrev pub is_among : Text → List Text → Bool
is_among text words = list_any (λ word. bytes_eq word text) words

-- an option `--NAME VALUE`, or `--NAME` for a switch, with the number that is read if it is left
-- out; an option without a default is required
pub record Flag : Type 0 where
  pub name : Text
  pub values : Choice
  pub default : Option ℕ

-- a subcommand: its name, its options, and whether it takes `[CALL]..` after them
pub record Usage : Type 0 where
  pub name : Text
  pub flags : List Flag
  pub takes_calls : Bool

-- the same as the program's code writes them, without the texts of help
abbrev pub choice_of : Values → Choice
choice_of (Within least greatest) = within least greatest
choice_of (Among words) = among (texts words.now)
choice_of Switch = switch

abbrev pub flag_of : ValueOption → Flag
flag_of o = record { name = o.name.now; values = choice_of o.values; default = o.default }

abbrev pub usage_of : Subcommand → Usage
usage_of s = record {
  name = s.name.now;
  flags = map flag_of s.options.now;
  takes_calls = s.takes_calls;
}

-- the first subcommand of this name
abbrev pub usage_named : Text → List Usage → Option Usage
usage_named name table = find (λ u. bytes_eq u.name name) table

-- the first option of this name
abbrev pub flag_named : Text → List Flag → Option Flag
flag_named name flags = find (λ f. bytes_eq f.name name) flags

-- its place, or the number of options if none has this name
abbrev pub place_named : Text → List Flag → ℕ
place_named name flags = position_or_len (λ f. bytes_eq f.name name) flags

-- ---- tables that `clap` reads as they are meant

-- `--NAME` names the option, and nothing else has its name
abbrev pub is_flag_name : Text → List Flag → Bool
is_flag_name name others = not (is_empty name) && not (has_byte 61 name)
    && not (bytes_eq name (codes "help")) && not (bytes_eq name (codes "CALL"))
    && not (list_any (λ f. bytes_eq name f.name) others)

-- the word begins with no hyphen, and so is no flag
abbrev pub is_no_flag : Text → Bool
is_no_flag [] = true
is_no_flag (x ∷ xs) = not (x == 45)

-- a `u64` can represent the numbers, or there is a word, and none that may be taken for a flag
abbrev pub is_choice : Choice → Bool
is_choice (within least greatest) = nat_le greatest u64_limit
is_choice (among words) = not (is_empty words) && list_all is_no_flag words
is_choice switch = true

-- the option may have its values (`is_choice`), and the default is within their limits
abbrev pub has_limits : Flag → Bool
has_limits f = is_choice f.values
    && option_map_or (λ n. nat_le (least_of f.values) n && nat_le n (greatest_of f.values)) f.default
    true

-- each option has a name of its own, and limits
abbrev pub are_flags : List Flag → Bool
are_flags [] = true
are_flags (f ∷ fs) = is_flag_name f.name fs && has_limits f && are_flags fs

-- no subcommand has the name `help`, and each has such options
abbrev pub are_usages : List Usage → Bool
are_usages [] = true
are_usages (u ∷ us) = not (bytes_eq u.name (codes "help")) && are_flags u.flags && are_usages us

-- there is no subcommand
abbrev pub has_none : List Usage → Bool
has_none [] = true
has_none (u ∷ us) = false

-- there is a subcommand, and each is as it should be
abbrev pub is_table : List Usage → Bool
is_table table = not (has_none table) && are_usages table
