-- One key of entries has another value, or none.
use Rattle.std.specs.Prelude.{◌≡◌, ℕ, ◌<◌, List, ◌++◌, Option, All}
use Rattle.packed_map.specs.Entries.{entry_if}

-- the entries of lower and of higher keys are the same in both; between them the first has the old
-- value of the key, and the second the new one, if there is one
pub record IsEdit {V : Type 0} (key : ℕ) (was is : Option V) (old new : List (ℕ × V)) : Type 0 where
  pub front : List (ℕ × V)
  pub back : List (ℕ × V)
  pub lower : All (λ e. e.0 < key) front
  pub higher : All (λ e. key < e.0) back
  pub before : old ≡ front ++ (entry_if key was ++ back)
  pub after : new ≡ front ++ (entry_if key is ++ back)
