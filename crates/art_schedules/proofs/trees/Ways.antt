-- The way of a key's bytes down from the root: two reached rows whose paths both begin the bytes are one above the other.
use Rattle.art_schedules.proofs.Common.{◌≡◌, ℕ, zero, suc, ◌+◌, ◌<◌, List, length, take, refl, sym, ap, ap₂, subst, subst₂, ◌∙◌, arith}
use Rattle.std.proofs.Common.{slice_index}
use Rattle.art_schedules.proofs.Common.{⊎_elim, inl, inr, cases_lt, cases_eq, Shape, Kind, Full, Child, Empty, Leaf, info_at, root_base, key_bytes}
use Rattle.art_schedules.proofs.Common.{Reached, root, below, child_on, Hangs, IsTree, level_in, path_in, LeadsTo}
use Rattle.std.specs.Prelude.{◌⊎◌}
use Rattle.art_rows.specs.declared.table.Child.TheVariants.{Row}
use Rattle.art_schedules.proofs.trees.InfoWords.{level_small}
use Rattle.art_schedules.proofs.trees.Bytes.{path_and_byte, take_less}

-- what a child is, it is once
pub same_base : (b c : ℕ) (k j : Kind) → Row b k ≡ Row c j → b ≡ c
same_base b c k j h = cc

pub same_kind : (b c : ℕ) (k j : Kind) → Row b k ≡ Row c j → k ≡ j
same_kind b c k j h = cc

pub same_key : (k v key value : ℕ) → Leaf k v ≡ Leaf key value → k ≡ key
same_key k v key value h = cc

pub same_value : (k v key value : ℕ) → Leaf k v ≡ Leaf key value → v ≡ value
same_value k v key value h = cc

pub row-leaf : (b : ℕ) (k : Kind) (key value : ℕ) → Row b k ≡ Leaf key value → ⊥
row-leaf b k key value h = cc

pub empty-leaf : (key value : ℕ) → Empty ≡ Leaf key value → ⊥
empty-leaf key value h = cc

pub empty-row : (b : ℕ) (k : Kind) → Empty ≡ Row b k → ⊥
empty-row b k h = cc

module _ (s : Shape) (words bytes : List ℕ) where
  -- the child on the byte that selects a child of the row
  abbrev pub next_child : ℕ → Kind → Child
  next_child b k = child_on s words b k (slice_index bytes (level_in words b k))

  -- the row's path begins the bytes
  abbrev pub Begins : ℕ → Kind → Type 0
  Begins b k = path_in words b k ≡ take (level_in words b k) bytes

  -- a row whose path begins the bytes hangs on the row's byte of them
  abbrev pub HasNext : ℕ → Kind → Type 0
  HasNext b k = (c : ℕ) × (j : Kind) × (next_child b k ≡ Row c j) × Begins c j

  -- the row is the one after this many steps down from the root
  abbrev OnWay : ℕ → ℕ → Kind → Type 0
  OnWay zero b k = (b ≡ root_base s) × (k ≡ Full)
  OnWay (suc i) b k = (c : ℕ) × (j : Kind) × OnWay i c j × (next_child c j ≡ Row b k) × Begins b k

  one_on_way : (i b : ℕ) (k : Kind) (c : ℕ) (j : Kind) → OnWay i b k → OnWay i c j → (b ≡ c) × (k ≡ j)
  one_on_way zero b k c j (here, full) (there, also) = (here ∙ sym there, full ∙ sym also)
  one_on_way (suc i) b k c j (above, m, way, on, begins) (above2, m2, way2, on2, begins2) =
      let (same, kinds) = one_on_way i above m above2 m2 way way2 in
      let rows = sym on ∙ (ap₂ (λ a n. next_child a n) same kinds ∙ on2) in
      (same_base b c k j rows, same_kind b c k j rows)

  next_before : (i j b : ℕ) (k : Kind) → i < j → OnWay j b k → (c : ℕ) × (m : Kind) × OnWay i c m × HasNext c m
  next_before i zero b k less way = absurd (omega arith)
  next_before i (suc j) b k less (c, m, way, on, begins) =
      ⊎_elim (λ same. (c, m, subst (λ n. OnWay n c m) (sym same) way, (b, k, on, begins)))
      (λ apart. next_before i j c m (omega arith) way) (cases_eq i j)

  ways_meet : (i j b : ℕ) (k : Kind) (c : ℕ) (m : Kind) → OnWay i b k → OnWay j c m → ((b ≡ c) × (k ≡ m)) ⊎ (HasNext b k ⊎ HasNext c m)
  ways_meet i j b k c m here there = ⊎_elim
      (λ less.
      let (a, n, way, next) = next_before i j c m less there in
      let (same, kinds) = one_on_way i a n b k way here in
      inr (inl (subst₂ (λ a n. HasNext a n) same kinds next)))
      (λ most. ⊎_elim
      (λ same. inl (one_on_way i b k c m here (subst (λ n. OnWay n c m) (sym same) there)))
      (λ apart.
      let (a, n, way, next) = next_before j i b k (omega arith) here in
      let (same, kinds) = one_on_way j a n c m way there in
      inr (inr (subst₂ (λ a n. HasNext a n) same kinds next))) (cases_eq i j)) (cases_lt i j)

  module _ (tree : IsTree s words) (four : length bytes ≡ 4) where
    on_way : (b : ℕ) (k : Kind) → Reached s words b k → Begins b k → (i : ℕ) × OnWay i b k
    on_way b k root begins = (0, (refl, refl))
    on_way b k (below {base = c} {kind = j} r x byte on) begins =
        let (lower, path) = tree.row c b x j k r byte on in
        let few = level_small j (slice_index words (info_at c)) in
        let level = level_in words c j in
        let parts = path_and_byte bytes (path_in words c j) level x (tree.info c j r).0 (omega (arith, few, four))
        (sym (take_less (level + 1) (level_in words b k) bytes (omega (arith, lower)))
        ∙ (ap (λ zs. take (level + 1) zs) (sym begins) ∙ path)) in
        let (i, way) = on_way c j r parts.0 in
        (suc i, (c, j, way, subst (λ z. child_on s words c j z ≡ Row b k) parts.1 on, begins))

    -- two reached rows whose paths begin the bytes are one above the other
    pub rows_meet : (b : ℕ) (k : Kind) (c : ℕ) (m : Kind) → Reached s words b k → Reached s words c m → Begins b k → Begins c m
        → ((b ≡ c) × (k ≡ m)) ⊎ (HasNext b k ⊎ HasNext c m)
    rows_meet b k c m here there begins begins2 =
        let (i, way) = on_way b k here begins in
        let (j, way2) = on_way c m there begins2 in
        ways_meet i j b k c m way way2

-- the child on the byte is the key's leaf, or a row whose path begins the key
abbrev pub IsFoundAt : Shape → List ℕ → ℕ → ℕ → ℕ → Kind → ℕ → Type 0
IsFoundAt s words key value base kind x = (child_on s words base kind x ≡ Leaf key value)
    ⊎ ((c : ℕ) × (j : Kind) × (child_on s words base kind x ≡ Row c j) × (path_in words c j ≡ take (level_in words c j) (key_bytes key)))

module _ (s : Shape) (words : List ℕ) (tree : IsTree s words) where
  -- the way of a key leads to the row that its leaf hangs on
  pub leads_to_leaf : (key value : ℕ) (h : Hangs s words key value) → LeadsTo s words key h.base h.kind h.byte
  leads_to_leaf key value h =
      let few = level_small h.kind (slice_index words (info_at h.base)) in
      let parts = path_and_byte (key_bytes key) (path_in words h.base h.kind) (level_in words h.base h.kind) h.byte
      (tree.info h.base h.kind h.reached).0 few
      (tree.leaf h.base h.byte key value h.kind h.reached h.is_byte h.leaf) in
      record { reached = h.reached; path = sym parts.0; byte = parts.1 }

  -- what hangs anywhere hangs on or below the key's byte of each row that its way leads to
  pub found_at : (key value base : ℕ) (kind : Kind) (x : ℕ) → LeadsTo s words key base kind x → Hangs s words key value
      → IsFoundAt s words key value base kind x
  found_at key value base kind x leads h =
      let up = leads_to_leaf key value h in
      let bytes = key_bytes key in
      let here = ap (λ y. child_on s words base kind y) leads.byte in
      let there = sym (ap (λ y. child_on s words h.base h.kind y) up.byte) ∙ h.leaf in
      ⊎_elim (λ (same : (base ≡ h.base) × (kind ≡ h.kind)). inl (here ∙ (ap₂ (λ b k. next_child s words bytes b k) same.0 same.1 ∙ there)))
      (λ either. ⊎_elim (λ (next : HasNext s words bytes base kind). inr (next.0, next.1, here ∙ next.2, next.3))
      (λ (next : HasNext s words bytes h.base h.kind). absurd (row-leaf next.0 next.1 key value (sym next.2 ∙ there))) either)
      (rows_meet s words bytes tree refl base kind h.base h.kind leads.reached h.reached (sym leads.path) (sym up.path))

  -- a key has one leaf
  pub one_leaf : (key value other : ℕ) → Hangs s words key value → Hangs s words key other → value ≡ other
  one_leaf key value other h g = ⊎_elim
      (λ leaf. same_value key value key other (sym h.leaf ∙ leaf))
      (λ row. absurd (row-leaf row.0 row.1 key value (sym row.2 ∙ h.leaf)))
      (found_at key other h.base h.kind h.byte (leads_to_leaf key value h) g)
