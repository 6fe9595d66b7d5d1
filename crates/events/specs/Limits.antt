-- The limits of histories, which are this program's own.
use Rattle.std.specs.Prelude.{ℕ}

-- processes are numbered from 0, each below this
abbrev pub process_limit : ℕ
process_limit = 64

-- the most calls of a history
abbrev pub call_limit : ℕ
call_limit = 4096

-- the most pairs in one reply
abbrev pub pair_limit : ℕ
pair_limit = 4096

-- the most pairs that a history starts with
abbrev pub start_limit : ℕ
start_limit = 4096
