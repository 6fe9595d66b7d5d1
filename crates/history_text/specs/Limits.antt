-- The limit of texts, which is this program's own.
use Rattle.std.specs.Prelude.{ℕ}

-- the most bytes of a text
abbrev pub text_limit : ℕ
text_limit = 16777216
