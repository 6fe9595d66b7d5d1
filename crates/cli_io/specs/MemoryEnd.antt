-- What a contract sees of a source or a sink in memory.
use Rattle.std.specs.Prelude.{ℕ, ◌-◌, ◌==◌, if◌then◌else◌, List, Option, None, Some}

-- the bytes to come from a source, or the bytes written to a sink; the most bytes of a call; how
-- many calls come before the one that fails; and how many have failed
pub record MemoryEnd : Type 0 where
  pub bytes : List ℕ
  pub most : ℕ
  pub fails_in : Option ℕ
  pub failures : ℕ

-- how many calls come before the one that fails, after one more call
abbrev pub after_call : Option ℕ → Option ℕ
after_call None = None
after_call (Some calls) = if calls == 0 then None else Some (calls - 1)
