-- Leaves of a map: each has the entries from its least key on that are below the least key of the
-- next leaf.
use Rattle.std.specs.Prelude.{◌≡◌, ℕ, ◌+◌, ◌<◌, ◌≤◌, List, [], ◌∷◌, length, All, AllPairs}
use Rattle.std.specs.List.{flat_map, HoldsAt, AllWithin}
use Rattle.packed_map.specs.declared.leaf.Leaf.{Leaf}
use Rattle.packed_map.specs.Entries.{KeysRise}

-- the entries of leaves, one leaf after another
abbrev pub entries_of : {V : Type 0} → List (Leaf V) → List (ℕ × V)
entries_of leaves = flat_map (λ leaf. leaf.entries.items) leaves

-- there is a first leaf, and it takes any key below those of the others
abbrev pub StartsAtZero : {V : Type 0} → List (Leaf V) → Type 0
StartsAtZero [] = ⊥
StartsAtZero (leaf ∷ leaves) = leaf.from ≡ 0

-- the keys of a leaf are not below its least
abbrev pub IsFromLeast : {V : Type 0} → Leaf V → Type 0
IsFromLeast leaf = All (λ e. leaf.from ≤ e.0) leaf.entries.items

-- the keys of a leaf are below the least key of a later leaf
abbrev pub IsBefore : {V : Type 0} → Leaf V → Leaf V → Type 0
IsBefore leaf later = (leaf.from ≤ later.from) × All (λ e. e.0 < later.from) leaf.entries.items

-- leaves of a map
pub record AreLeaves {V : Type 0} (leaves : List (Leaf V)) : Type 0 where
  pub first : StartsAtZero leaves
  pub least : All (λ leaf. IsFromLeast leaf) leaves
  pub parted : AllPairs (λ leaf later. IsBefore leaf later) leaves
  pub rising : KeysRise (entries_of leaves)

-- a key belongs into the last leaf whose least key is not above it
pub record IsLeafOf {V : Type 0} (key : ℕ) (leaves : List (Leaf V)) (i : ℕ) : Type 0 where
  pub there : i < length leaves
  pub from : HoldsAt (λ leaf. leaf.from ≤ key) leaves i
  pub later : AllWithin (λ leaf. key < leaf.from) leaves (i + 1) (length leaves)
