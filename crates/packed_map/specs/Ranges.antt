-- The keys of a range.
use Rattle.std.specs.Prelude.{ℕ, ◌&&◌, Bool, List, map, nat_le}
use Rattle.std.specs.List.{filter}

-- whether a key is in a range
abbrev pub is_between : ℕ → ℕ → ℕ → Bool
is_between low high key = nat_le low key && nat_le key high

-- the keys of entries in a range
abbrev pub keys_between : {V : Type 0} → ℕ → ℕ → List (ℕ × V) → List ℕ
keys_between low high es = map (λ e. e.0) (filter (λ e. is_between low high e.0) es)
