-- What a change leaves of a calm tree.
use Rattle.std.specs.Prelude.{◌≡◌, ◌⊎◌, ◌↔◌, ℕ, ◌<◌, ◌≤◌, ◌^◌, false, List, length, slice_index, All}
use Rattle.map_object.specs.MapObject.{Contents}
use Rattle.art_rows.specs.declared.table.Shape.{Shape}
use Rattle.art_rows.specs.declared.table.Kind.{Kind}
use Rattle.art_rows.specs.Table.{claims_of, info_at}
use Rattle.art_rows.specs.Words.{is_obsolete}
use Rattle.art_core.specs.Meaning.{Reached, Means, AllUnlocked}
use Rattle.art_core.specs.Forms.{level_in, path_in}
use Rattle.art_schedules.specs.trees.Trees.{IsAtRest, SameTree, LeadsTo, AreZeroPastClaims}

-- at most this many claims of each kind were made
abbrev pub HasFewClaims : ℕ → List ℕ → Type 0
HasFewClaims n words = (kind : Kind) → slice_index words (claims_of kind) ≤ n

-- The later words are a tree at rest, which means these pairs. Its rows are those of the calm tree
-- except for some that are gone, and fresh ones. Ways to rows that are not gone stay, and there are
-- no others but to fresh rows; of no row of the calm tree has the info changed.
pub record Follows (s : Shape) (n : ℕ) (calm later : List ℕ) (pairs : Contents) (gone : ℕ → Type 0)
    (fresh : ℕ → Kind → Type 0) : Type 0 where
  pub rests : IsAtRest s n later
  pub means : Means s later pairs
  pub rows : (b : ℕ) (k : Kind) → Reached s later b k ↔ ((Reached s calm b k × (gone b → ⊥)) ⊎ fresh b k)
  pub info : (b : ℕ) (k : Kind) → Reached s calm b k → slice_index later (info_at b) ≡ slice_index calm (info_at b)
  pub level : (b : ℕ) (k : Kind) → Reached s calm b k → level_in later b k ≡ level_in calm b k
  pub path : (b : ℕ) (k : Kind) → Reached s calm b k → path_in later b k ≡ path_in calm b k
  pub ways : (key b : ℕ) (k : Kind) (x : ℕ) → LeadsTo s calm key b k x → (gone b → ⊥) → LeadsTo s later key b k x
  pub ways_before : (key b : ℕ) (k : Kind) (x : ℕ) → LeadsTo s later key b k x → LeadsTo s calm key b k x ⊎ fresh b k

-- The later words say the same of each row of the calm tree, except for its version: other rows,
-- the clock and the counts of claims may have changed. No row is locked, none of the tree is
-- obsolete, claims have not fallen, and a row that was not claimed has only zeros.
pub record KeepsTree (s : Shape) (calm later : List ℕ) : Type 0 where
  pub long : length later ≡ length calm
  pub small : All (λ w. w < 2 ^ 64) later
  pub claims : (kind : Kind) → slice_index calm (claims_of kind) ≤ slice_index later (claims_of kind)
  pub same : SameTree s calm later
  pub unlocked : AllUnlocked s later
  pub live : (base : ℕ) (kind : Kind) → Reached s calm base kind → is_obsolete (slice_index later base) ≡ false
  pub fresh : AreZeroPastClaims s later
