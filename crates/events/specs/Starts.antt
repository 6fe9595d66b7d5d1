-- The pairs of a key and a value that the map holds when a history starts.
use Rattle.std.specs.Prelude.{ℕ, ◌<◌, ◌≤◌, List, length, AllPairs}
use Rattle.events.specs.Limits.{start_limit}

-- each key is below the later ones
abbrev pub KeysRise : List (ℕ × ℕ) → Type 0
KeysRise pairs = AllPairs (λ a b. a.0 < b.0) pairs

-- pairs that a history may start with
pub record IsStart (pairs : List (ℕ × ℕ)) : Type 0 where
  pub rising : KeysRise pairs
  pub few : length pairs ≤ start_limit
