-- The versions of the texts of histories, and what a text of each may contain.
use Rattle.history_text.specs.declared.version.TextVersion.TheVariants.{One, Two, Three}
use Rattle.std.specs.Prelude.{ℕ, Bool, true, false}
use Rattle.history_text.specs.declared.version.TextVersion.{TextVersion}

-- the number of a version, by which a text names it
abbrev pub version_number : TextVersion → ℕ
version_number One = 1
version_number Two = 2
version_number Three = 3

-- whether texts of a version have a start and may have a replace
abbrev pub has_start : TextVersion → Bool
has_start One = false
has_start Two = true
has_start Three = true

-- whether a text of a version may have partial answers
abbrev pub may_be_partial : TextVersion → Bool
may_be_partial One = false
may_be_partial Two = false
may_be_partial Three = true

-- whether events of a text of a version may have a note
abbrev pub has_notes : TextVersion → Bool
has_notes One = false
has_notes Two = false
has_notes Three = true
