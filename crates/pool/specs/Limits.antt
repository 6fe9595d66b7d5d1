-- The limit of workers, which is this program's own.
use Rattle.std.specs.Prelude.{ℕ}

-- the most threads that search side by side
abbrev pub worker_limit : ℕ
worker_limit = 64
