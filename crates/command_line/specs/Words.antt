-- The words that name a subcommand of a table, with options and calls.
use Rattle.std.specs.Prelude.{◌≡◌, ⊤, ◌||◌, Bool, true, false, is_some, List, [], ◌∷◌, ◌++◌, Option, Some, None, map, codes, find}
use Rattle.std.specs.Prelude.{option_map, unwrap_or}
use Rattle.std.specs.List.{All, list_all, list_any}
use Rattle.std.specs.Str.{bytes_eq}
use Rattle.clap.specs.Words.{Text}
use Rattle.command_line.specs.Numbers.{IsNumber, IsNumberFrom, number_of}
use Rattle.command_line.specs.Requests.{Asked, AreNumbersOf}
use Rattle.command_line.specs.Tables.{Choice, Flag, Usage, among, flag_named, is_among, switch, switch_text, usage_named, within}

-- an option's name, and the text of its value; a switch has none
abbrev pub Given : Type 0
Given = Text × Option Text

-- the words of a value: its text, if there is one
abbrev pub value_words : Option Text → List Text
value_words None = []
value_words (Some text) = text ∷ []

-- the words of options: the flag of each, and its value if it has one
abbrev pub option_words : List Given → List Text
option_words [] = []
option_words (g ∷ gs) = (codes "--" ++ g.0) ∷ (value_words g.1 ++ option_words gs)

-- an option of this name is given
abbrev pub has_option : Text → List Given → Bool
has_option name given = list_any (λ g. bytes_eq g.0 name) given

-- the text that is read as the value of an option that is given; `switch_text` for a switch
abbrev pub text_given : Given → Text
text_given g = unwrap_or g.1 switch_text

-- the value that is given to the option of this name, and none if it is left out
abbrev pub value_given : List Given → Text → Option Text
value_given given name = option_map text_given (find (λ g. bytes_eq g.0 name) given)

-- the text spells a number within the limits, or is one of the words; a switch has no text, and
-- every other option has one
abbrev pub IsValue : Choice → Option Text → Type 0
IsValue (within least greatest) None = ⊥
IsValue (within least greatest) (Some text) = IsNumberFrom least greatest text
IsValue (among words) None = ⊥
IsValue (among words) (Some text) = is_among text words ≡ true
IsValue switch None = ⊤
IsValue switch (Some text) = ⊥

-- so it is by the values of the option
abbrev pub IsValueOf : Option Flag → Option Text → Type 0
IsValueOf None value = ⊥
IsValueOf (Some f) value = IsValue f.values value

-- each is an option of the subcommand, is given once, and has a value that the option takes, or none
-- if it is a switch
abbrev pub AreOptionsOf : List Flag → List Given → Type 0
AreOptionsOf flags [] = ⊤
AreOptionsOf flags (g ∷ gs) =
    IsValueOf (flag_named g.0 flags) g.1 × (has_option g.0 gs ≡ false) × AreOptionsOf flags gs

-- each option that has no default is given
abbrev pub has_required : List Flag → List Given → Bool
has_required flags given = list_all (λ f. is_some f.default || has_option f.name given) flags

-- the words are a name, the name of a subcommand, options of it in any order, and calls if it takes
-- them
pub record IsUse (table : List Usage) (words : List Text) (usage : Usage) (given : List Given) (calls : List Text) : Type 0 where
  pub program : Text
  pub words_are : words ≡ program ∷ usage.name ∷ (option_words given ++ calls)
  pub named : usage_named usage.name table ≡ Some usage
  pub options : AreOptionsOf usage.flags given
  pub required : has_required usage.flags given ≡ true
  pub numbers : All IsNumber calls
  pub no_calls : usage.takes_calls ≡ false → calls ≡ []

-- what is asked for is the subcommand, with the number of each option that is given, the default of
-- each other, and the numbers of the calls
pub record Gives (usage : Usage) (given : List Given) (texts : List Text) (asked : Asked) : Type 0 where
  pub name : asked.name ≡ usage.name
  pub numbers : AreNumbersOf usage.flags (value_given given) asked.numbers
  pub calls : asked.calls ≡ map number_of texts
