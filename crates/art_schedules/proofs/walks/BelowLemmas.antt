-- The pairs below a row: whose keys they have, how they rise, and that all that hangs is among them.
use Rattle.art_schedules.proofs.Common.{◌≡◌, ℕ, zero, suc, ◌+◌, ◌/◌, ◌%◌, ◌^◌, ◌<◌, ◌≤◌, List, [], ◌∷◌, ◌++◌, refl, sym, ap, ◌∙◌, subst, arith}
use Rattle.art_schedules.proofs.Common.{⊎_elim, take-take, Bool, true, false, Option, All, Contains, Contents, Shape, Kind, Child, Empty, Leaf}
use Rattle.art_schedules.proofs.Common.{kind_at, key_bytes, child_of, row_child, numbers, Reached, below, slot_of, child_in, child_on, pairs_in}
use Rattle.art_schedules.proofs.Common.{pairs_below, IsTree, level_in, path_in, Contains-nil, Contains-cases, false≢true, take-append-le}
use Rattle.std.specs.Prelude.{◌==◌, Some, None, length, take, slice_index, if◌then◌else◌}
use Rattle.art_rows.specs.declared.table.Child.TheVariants.{Row}
use Rattle.art_schedules.proofs.walks.FlatLemmas.{Contains-from_flat_map}
use Rattle.art_schedules.proofs.walks.NumberLemmas.{Contains-from_numbers}
use Rattle.art_schedules.proofs.walks.KeyLemmas.{BeginsWith}
use Rattle.art_schedules.proofs.trees.Descents.{small_at}

abbrev pub is_leaf : Child → Bool
is_leaf (Leaf k v) = true
is_leaf child = false

abbrev pub leaf_key : Child → ℕ
leaf_key (Leaf k v) = k
leaf_key child = 0

-- the key of a leaf word
leaf_of-small : (s : Shape) (w k v : ℕ) → w < 2 ^ 64 → child_of s w ≡ Leaf k v → k < 2 ^ 32
leaf_of-small s w k v small e = go (w % 4 == 1) (w % 4 == 2) (kind_at s (w / 4)) e
  where
    go : (row leaf : Bool) (kind : Option Kind)
        → (if row then row_child (w / 4) kind else if leaf then Leaf (w / 2 ^ 32) ((w % 2 ^ 32) / 4) else Empty) ≡ Leaf k v → k < 2 ^ 32
    go true leaf None e = absurd (false≢true (ap is_leaf e))
    go true leaf (Some kind) e = absurd (false≢true (ap is_leaf e))
    go false true kind e = let is : w / 2 ^ 32 ≡ k = ap leaf_key e in omega (arith, small, is)
    go false false kind e = absurd (false≢true (ap is_leaf e))

leaf-small : (s : Shape) (words : List ℕ) → All (λ w. w < 2 ^ 64) words → (base : ℕ) (kind : Kind) (x k v : ℕ)
    → child_on s words base kind x ≡ Leaf k v
    → k < 2 ^ 32
leaf-small s words small base kind x k v e = go (slot_of words base kind x) e
  where
    go : (slot : Option ℕ) → child_in s words slot ≡ Leaf k v → k < 2 ^ 32
    go None e = absurd (false≢true (ap is_leaf e))
    go (Some slot) e = leaf_of-small s (slice_index words slot) k v (small_at words slot small) e

module _ (s : Shape) (words : List ℕ) (tree : IsTree s words) where
  -- the pairs under a byte of a row, by what a row below lists
  abbrev pub pairs_under : (ℕ → Kind → Contents) → ℕ → Kind → ℕ → Contents
  pairs_under walk base kind x = pairs_in walk (child_on s words base kind x)

  -- all keys that the walk lists of a row begin with the row's path
  abbrev pub Begins : (ℕ → Kind → Contents) → Type 0
  Begins walk = (base : ℕ) (kind : Kind) (pair : ℕ × ℕ) → Reached s words base kind → Contains (walk base kind) pair
      → (y : ℕ) × BeginsWith (path_in words base kind) y pair.0

  -- Every key under byte x of a row begins with the row's path and x.
  pub under-begins : (walk : ℕ → Kind → Contents) (base : ℕ) (kind : Kind) (x : ℕ) (pair : ℕ × ℕ) → Begins walk
      → Reached s words base kind → x < 256
      → Contains (pairs_under walk base kind x) pair → BeginsWith (path_in words base kind) x pair.0
  under-begins walk base kind x pair begins reached small h = go (child_on s words base kind x) refl h
    where
      path : List ℕ
      path = path_in words base kind

      long : length path ≡ level_in words base kind
      long = (tree.info base kind reached).0

      further : (later bytes : List ℕ) (y : ℕ) → suc (length path) ≤ length later → take (suc (length path)) later ≡ path ++ x ∷ []
          → take (suc (length later)) bytes ≡ later ++ y ∷ [] → take (suc (length path)) bytes ≡ path ++ x ∷ []
      further later bytes y le begun next =
          sym (take-take (suc (length path)) (suc (length later)) bytes (omega (arith, le)))
          ∙ (ap (λ l. take (suc (length path)) l) next ∙ (take-append-le (suc (length path)) later (y ∷ []) le ∙ begun))

      go : (child : Child) → child_on s words base kind x ≡ child → Contains (pairs_in walk child) pair → BeginsWith path x pair.0
      go Empty e h = absurd (Contains-nil pair h)
      go (Leaf k v) e h =
          let is : k ≡ pair.0 = ⊎_elim (λ same. ap (λ p. p.0) same) (λ none. absurd (Contains-nil pair none))
          (Contains-cases (k, v) [] pair h) in
          let one : level_in words base kind + 1 ≡ suc (length path) = omega (arith, long) in
          subst (λ z. BeginsWith path x z) is (subst (λ n. take n (key_bytes k) ≡ path ++ x ∷ []) one
          (tree.leaf base x k v kind reached small e))
      go (Row b k) e h =
          let next = begins b k pair (below reached x small e) h in
          let row = tree.row base b x kind k reached small e in
          let their : length (path_in words b k) ≡ level_in words b k = (tree.info b k (below reached x small e)).0 in
          let one : level_in words base kind + 1 ≡ suc (length path) = omega (arith, long) in
          further (path_in words b k) (key_bytes pair.0) next.0 (omega (arith, row.0, their, long))
          (subst (λ n. take n (path_in words b k) ≡ path ++ x ∷ []) one row.1) next.1

  pub below-begins : (n : ℕ) → Begins (pairs_below n s words)
  below-begins zero base kind pair reached h = absurd (Contains-nil pair h)
  below-begins (suc n) base kind pair reached h =
      let from = Contains-from_flat_map (pairs_under (pairs_below n s words) base kind) (numbers 0 256) pair h in (
        from.0,
        under-begins (pairs_below n s words) base kind from.0 pair (below-begins n) reached
            ((Contains-from_numbers 0 256 from.0 from.1).1) from.2,
      )

  -- all keys that the walk lists are those of a tree
  abbrev pub AreSmall : (ℕ → Kind → Contents) → Type 0
  AreSmall walk = (base : ℕ) (kind : Kind) (pair : ℕ × ℕ) → Contains (walk base kind) pair → pair.0 < 2 ^ 32

  module _ (small_words : All (λ w. w < 2 ^ 64) words) where
    pub under-small : (walk : ℕ → Kind → Contents) (base : ℕ) (kind : Kind) (x : ℕ) (pair : ℕ × ℕ) → AreSmall walk
        → Contains (pairs_under walk base kind x) pair
        → pair.0 < 2 ^ 32
    under-small walk base kind x pair small h = go (child_on s words base kind x) refl h
      where
        go : (child : Child) → child_on s words base kind x ≡ child → Contains (pairs_in walk child) pair → pair.0 < 2 ^ 32
        go Empty e h = absurd (Contains-nil pair h)
        go (Leaf k v) e h =
            ⊎_elim (λ same. subst (λ p. p.0 < 2 ^ 32) same (leaf-small s words small_words base kind x k v e))
            (λ none. absurd (Contains-nil pair none))
            (Contains-cases (k, v) [] pair h)
        go (Row b k) e h = small b k pair h

    pub below-small : (n : ℕ) → AreSmall (pairs_below n s words)
    below-small zero base kind pair h = absurd (Contains-nil pair h)
    below-small (suc n) base kind pair h =
        let from = Contains-from_flat_map (pairs_under (pairs_below n s words) base kind) (numbers 0 256) pair h in
        under-small (pairs_below n s words) base kind from.0 pair (below-small n) from.2
