-- The limit of searches, which is this program's own.
use Rattle.std.specs.Prelude.{ℕ}

-- the most configurations that a search may count
abbrev pub budget_limit : ℕ
budget_limit = 1000000
