-- What a contract sees of a sink that may be left out.
use Rattle.std.specs.Prelude.{ℕ, Option, None, Some}

-- how many calls have failed; without a sink none
abbrev pub failures_of : {K : Type 0} → (K → ℕ) → Option K → ℕ
failures_of failures None = 0
failures_of failures (Some sink) = failures sink
