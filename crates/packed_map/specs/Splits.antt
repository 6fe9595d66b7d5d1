-- Entries are split in two.
use Rattle.std.specs.Prelude.{◌≡◌, ◌⊎◌, ℕ, ◌<◌, ◌≤◌, List, ◌++◌, All, Any}

-- entries are split at a least key, which is one of theirs or the one that will be inserted
pub record IsCut {V : Type 0} (key : ℕ) (es front back : List (ℕ × V)) (from : ℕ) : Type 0 where
  pub parts : es ≡ front ++ back
  pub before : All (λ e. e.0 < from) front
  pub behind : All (λ e. from ≤ e.0) back
  pub least : (from ≡ key) ⊎ Any (λ e. e.0 ≡ from) es
