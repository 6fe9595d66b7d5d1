-- The place at which a key would be inserted.
use Rattle.std.specs.Prelude.{◌≡◌, ℕ, ◌+◌, ◌<◌, ◌≤◌, List, length}
use Rattle.std.specs.List.{HoldsAt}

-- the entry before a place has a lower key, and the entry there a higher one, if there are such
-- entries
pub record IsGap {V : Type 0} (key : ℕ) (es : List (ℕ × V)) (i : ℕ) : Type 0 where
  pub within : i ≤ length es
  pub lower : (k : ℕ) → k + 1 ≡ i → HoldsAt (λ e. e.0 < key) es k
  pub higher : i < length es → HoldsAt (λ e. key < e.0) es i
