-- What the matches of a command ask for, by its table.
use Rattle.std.specs.Prelude.{◌≡◌, ◌<◌, ◌≤◌, ◌^◌, suc, length, slice_index, ⊤, ℕ, Bool, true, false, List, [], ◌∷◌, Option, Some, None, map}
use Rattle.std.specs.Prelude.{codes, unwrap_or}
use Rattle.std.specs.Prelude.{position}
use Rattle.std.specs.List.{All, list_all}
use Rattle.std.specs.Option.{option_map_or}
use Rattle.std.specs.Str.{bytes_eq}
use Rattle.clap.specs.Words.{Row, Text, all_of, first_of}
use Rattle.command_line.specs.Numbers.{IsNumber, IsSpelled, number_of}
use Rattle.command_line.specs.Tables.{Choice, Flag, Usage, among, greatest_of, is_among, least_of, place_named}
use Rattle.command_line.specs.Tables.{switch, usage_named, usage_of, within}
use Rattle.command_line.specs.declared.asked.Request.{Request}

-- a subcommand, the numbers of its options in the order of the table, and the numbers of its calls
pub record Asked : Type 0 where
  pub name : Text
  pub numbers : List ℕ
  pub calls : List ℕ

abbrev pub asked_of : Request → Asked
asked_of r = record { name = r.subcommand.now.name.now; numbers = r.numbers.items; calls = r.calls.items }

-- the options of its subcommand
abbrev pub flags_of : Request → List Flag
flags_of r = (usage_of r.subcommand.now).flags

-- the number of its option of this name
abbrev pub number_named : Text → Request → ℕ
number_named name r = slice_index r.numbers.items (place_named name (flags_of r))

-- its subcommand is the first of its name
abbrev pub IsDescribedBy : List Usage → Request → Type 0
IsDescribedBy table r = usage_named r.subcommand.now.name.now table ≡ Some (usage_of r.subcommand.now)

-- The number of a text: the text spells it, or it is the place of the first word that is this text.
-- For a switch it is 1, whatever the text is.
abbrev pub StandsFor : Choice → Text → ℕ → Type 0
StandsFor (within least greatest) text n =
    IsSpelled text × (number_of text < 2 ^ 64) × (n ≡ number_of text)
StandsFor (among words) text n = position (λ word. bytes_eq word text) words ≡ Some n
StandsFor switch text n = n ≡ 1

-- the number is that of the value, or the default if there is no value
abbrev pub IsReadFrom : Flag → Option Text → ℕ → Type 0
IsReadFrom f None n = f.default ≡ Some n
IsReadFrom f (Some text) n = StandsFor f.values text n

-- the number is read from the value, and is within the limits of the option
pub record IsNumberOf (f : Flag) (value : Option Text) (n : ℕ) : Type 0 where
  pub read : IsReadFrom f value n
  pub least : least_of f.values ≤ n
  pub greatest : n ≤ greatest_of f.values

-- the numbers are those of the options, in their order, with these values
abbrev pub AreNumbersOf : List Flag → (Text → Option Text) → List ℕ → Type 0
AreNumbersOf [] value [] = ⊤
AreNumbersOf [] value (n ∷ ns) = ⊥
AreNumbersOf (f ∷ fs) value [] = ⊥
AreNumbersOf (f ∷ fs) value (n ∷ ns) = IsNumberOf f (value f.name) n × AreNumbersOf fs value ns

-- the values of an argument, and none if it was not used
abbrev pub values_of : Text → List Row → List Text
values_of id rows = unwrap_or (all_of id rows) []

-- the calls are the numbers that these texts spell, and none if the subcommand takes none
abbrev pub AreCallsOf : Bool → List Text → List ℕ → Type 0
AreCallsOf true texts calls = All IsNumber texts × (calls ≡ map number_of texts)
AreCallsOf false texts calls = calls ≡ []

-- the subcommand that was met, with the rows of its matches, asks for this
pub record Asks (table : List Usage) (met : Option (Text × List Row)) (asked : Asked) : Type 0 where
  pub usage : Usage
  pub rows : List Row
  pub named : usage_named asked.name table ≡ Some usage
  pub subcommand : met ≡ Some (asked.name, rows)
  pub numbers : AreNumbersOf usage.flags (λ name. first_of name rows) asked.numbers
  pub calls : AreCallsOf usage.takes_calls (values_of (codes "CALL") rows) asked.calls

-- ---- values that `clap` does not check

-- the value is one of the words of its option, if the option takes words
abbrev pub is_named : Choice → Option Text → Bool
is_named (within least greatest) value = true
is_named (among words) value = option_map_or (λ text. is_among text words) value true
is_named switch value = true

-- the value of each option is one of its words, if the option takes words
abbrev pub are_named : List Flag → (Text → Option Text) → Bool
are_named flags value = list_all (λ f. is_named f.values (value f.name)) flags

-- and of the options of the subcommand that was met
abbrev pub has_named : List Usage → Option (Text × List Row) → Bool
has_named table met = option_map_or (λ m. option_map_or (λ u.
    are_named u.flags (λ name. first_of name m.1)) (usage_named m.0 table) true) met true

-- a subcommand was met, and asks for something if its values are words of their options
pub record Meets (table : List Usage) (met : Option (Text × List Row)) : Type 0 where
  pub usage : Usage
  pub rows : List Row
  pub name : Text
  pub named : usage_named name table ≡ Some usage
  pub subcommand : met ≡ Some (name, rows)
  pub numbers : are_named usage.flags (λ name. first_of name rows) ≡ true
      → (ns : List ℕ) × AreNumbersOf usage.flags (λ name. first_of name rows) ns
  pub calls : (ns : List ℕ) × AreCallsOf usage.takes_calls (values_of (codes "CALL") rows) ns

-- ---- what a request of a table may be

-- the numbers of these options, from this place on
abbrev pub numbers_from : ℕ → List Flag → List ℕ → List ℕ
numbers_from i [] ns = []
numbers_from i (f ∷ fs) ns = slice_index ns i ∷ numbers_from (suc i) fs ns

-- each is there, and within the limits of its option
abbrev pub AreWithinFrom : ℕ → List Flag → List ℕ → Type 0
AreWithinFrom i [] ns = ⊤
AreWithinFrom i (f ∷ fs) ns = (i < length ns) × (least_of f.values ≤ slice_index ns i)
    × (slice_index ns i ≤ greatest_of f.values) × AreWithinFrom (suc i) fs ns

-- there is a number within its limits for each option and no other, and there are calls only if the
-- subcommand takes them
pub record Fits (u : Usage) (asked : Asked) : Type 0 where
  pub all : asked.numbers ≡ numbers_from 0 u.flags asked.numbers
  pub within : AreWithinFrom 0 u.flags asked.numbers
  pub no_calls : u.takes_calls ≡ false → asked.calls ≡ []

-- so it is by the first subcommand of the name, and there is one
abbrev pub IsAskable : List Usage → Asked → Type 0
IsAskable [] asked = ⊥
IsAskable (u ∷ us) asked = (bytes_eq asked.name u.name ≡ true → Fits u asked)
    × (bytes_eq asked.name u.name ≡ false → IsAskable us asked)

-- these are the options of the first subcommand of this name, and there is one
abbrev pub AreFlagsOf : List Usage → Text → List Flag → Type 0
AreFlagsOf [] name flags = ⊥
AreFlagsOf (u ∷ us) name flags = (bytes_eq name u.name ≡ true → flags ≡ u.flags) × (bytes_eq name u.name ≡ false → AreFlagsOf us name flags)

-- the request is of this subcommand: it has its name and its options, and fits it
pub record IsRequestOf (u : Usage) (r : Request) : Type 0 where
  pub name : r.subcommand.now.name.now ≡ u.name
  pub flags : flags_of r ≡ u.flags
  pub fits : Fits u (asked_of r)
