-- From what mixes, and how many processes and calls, a plan is drawn.
use Rattle.std.specs.Prelude.{ℕ, ◌+◌, ◌*◌, ◌≡◌, ◌≤◌}
use Rattle.events.specs.Limits.{process_limit, call_limit}
use Rattle.workload.specs.declared.mix.Mix.{Mix}

-- the shares of the kinds are a hundred together
abbrev pub IsWholeMix : Mix → Type 0
IsWholeMix mix = mix.get + mix.insert + mix.remove + mix.scan ≡ 100

-- the least key is not above the greatest
abbrev pub HasKeys : Mix → Type 0
HasKeys mix = mix.lo ≤ mix.hi

-- a plan may have this many processes, with this many calls each
pub record AreWithin (processes calls : ℕ) : Type 0 where
  pub some_process : 1 ≤ processes
  pub few_processes : processes ≤ process_limit
  pub few_calls : processes * calls ≤ call_limit
