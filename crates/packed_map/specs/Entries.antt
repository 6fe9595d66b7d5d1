-- The entries of a map, by rising key.
use Rattle.std.specs.Prelude.{ℕ, ◌==◌, ◌<◌, if◌then◌else◌, List, [], ◌∷◌, Option, Some, None, AllPairs}

-- what entries have at a key
abbrev pub value_at : {V : Type 0} → List (ℕ × V) → ℕ → Option V
value_at [] key = None
value_at (e ∷ es) key = if e.0 == key then Some e.1 else value_at es key

-- the keys of entries rise
abbrev pub KeysRise : {V : Type 0} → List (ℕ × V) → Type 0
KeysRise es = AllPairs (λ d e. d.0 < e.0) es

-- no entry, or one
abbrev pub entry_if : {V : Type 0} → ℕ → Option V → List (ℕ × V)
entry_if key None = []
entry_if key (Some v) = (key, v) ∷ []
