-- The limits of the lines of streams, which are this program's own.
use Rattle.std.specs.Prelude.{ℕ}

-- the most bytes of a line
abbrev pub line_limit : ℕ
line_limit = 1048576

-- processes are numbered from 0, each below this
abbrev pub number_limit : ℕ
number_limit = 65536
