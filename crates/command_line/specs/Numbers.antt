-- The numbers that texts spell, as `parse` reads them.
use Rattle.std.specs.Prelude.{ℕ, ◌<◌, ◌≤◌, ◌^◌}
use Rattle.std.specs.Str.Parse.{IsNumeral, digits_value, without_leading_plus}
use Rattle.clap.specs.Words.{Text}

-- the number that the digits of a text write, after a plus or none
abbrev pub number_of : Text → ℕ
number_of text = digits_value 10 (without_leading_plus text)

-- the text is a numeral, after a plus or none
abbrev pub IsSpelled : Text → Type 0
IsSpelled text = IsNumeral 10 (without_leading_plus text)

-- the text spells a number that a `u32` holds
abbrev pub IsNumber : Text → Type 0
IsNumber text = IsSpelled text × (number_of text < 2 ^ 32)

-- the text spells a number from the least to the greatest
abbrev pub IsNumberFrom : ℕ → ℕ → Text → Type 0
IsNumberFrom least greatest text =
    IsSpelled text × (least ≤ number_of text) × (number_of text ≤ greatest)

-- the text spells a number from 1 to the limit
abbrev pub IsNumberWithin : ℕ → Text → Type 0
IsNumberWithin = IsNumberFrom 1
