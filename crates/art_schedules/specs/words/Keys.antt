-- Where keys move to when a byte is put among them.
use Rattle.std.specs.Prelude.{ℕ, ◌+◌, nat_lt, if◌then◌else◌}

-- a place, after one more is put in at place p: those from p on are one later
abbrev pub place_moved : ℕ → ℕ → ℕ
place_moved p i = if nat_lt i p then i else i + 1
