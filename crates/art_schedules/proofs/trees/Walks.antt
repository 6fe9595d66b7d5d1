-- A walk down from the root, by rising bytes, finds what the words mean.
use Rattle.art_schedules.proofs.Common.{◌≡◌, ℕ, zero, suc, ◌+◌, ◌/◌, ◌%◌, ◌^◌, ◌<◌, ◌≤◌, List, [], ◌∷◌, ◌++◌, take, refl, sym, ap}
use Rattle.art_schedules.proofs.Common.{subst, ◌∙◌, arith, ⊎_elim, AllPairs-nil, Contains-first, Contains-nil, Contains-cases, Shape, Kind, Full}
use Rattle.art_schedules.proofs.Common.{Child, Empty, Leaf, root_base, info_at, key_bytes, IsRising, numbers, Reached, root, below, Hangs, Means}
use Rattle.art_schedules.proofs.Common.{child_on, pairs_in, pairs_below, IsTree, level_in, path_in, TreesAreWalked}
use Rattle.std.proofs.Common.{All, Contains, flat_map, slice_index}
use Rattle.art_rows.specs.declared.table.Child.TheVariants.{Row}
use Rattle.art_schedules.proofs.trees.Bytes.{path_and_byte, take_less}
use Rattle.art_schedules.proofs.trees.InfoWords.{level_small}
use Rattle.art_schedules.proofs.trees.Concatenations.{found_from, found_at, found_rising}
use Rattle.art_schedules.proofs.trees.Descents.{leaves-are-small}

-- keys that part at a byte are in the order of that byte
in_order : (level a b : ℕ) → level < 4 → a < 2 ^ 32 → b < 2 ^ 32 → take level (key_bytes a) ≡ take level (key_bytes b)
    → slice_index (key_bytes a) level < slice_index (key_bytes b) level → a < b
in_order zero a b few low high same less = omega (arith, low, high, less)
in_order (suc zero) a b few low high same less =
    let first : (a / 2 ^ 24) % 256 ≡ (b / 2 ^ 24) % 256 = ap (λ zs. slice_index zs 0) same in
    omega (arith, low, high, first, less)
in_order (suc (suc zero)) a b few low high same less =
    let first : (a / 2 ^ 24) % 256 ≡ (b / 2 ^ 24) % 256 = ap (λ zs. slice_index zs 0) same in
    let second : (a / 2 ^ 16) % 256 ≡ (b / 2 ^ 16) % 256 = ap (λ zs. slice_index zs 1) same in
    omega (arith, low, high, first, second, less)
in_order (suc (suc (suc zero))) a b few low high same less =
    let first : (a / 2 ^ 24) % 256 ≡ (b / 2 ^ 24) % 256 = ap (λ zs. slice_index zs 0) same in
    let second : (a / 2 ^ 16) % 256 ≡ (b / 2 ^ 16) % 256 = ap (λ zs. slice_index zs 1) same in
    let third : (a / 2 ^ 8) % 256 ≡ (b / 2 ^ 8) % 256 = ap (λ zs. slice_index zs 2) same in
    omega (arith, low, high, first, second, third, less)
in_order (suc (suc (suc (suc level)))) a b few low high same less = absurd (omega (arith, few))

-- one row more
row_more : (n : ℕ) (s : Shape) (words : List ℕ) (b : ℕ) (k : Kind)
    → pairs_below (suc n) s words b k ≡ flat_map (λ x. pairs_in (pairs_below n s words) (child_on s words b k x)) (numbers 0 256)
row_more n s words b k = refl

module _ (s : Shape) (words : List ℕ) (tree : IsTree s words) (small : All (λ w. w < 2 ^ 64) words) where
  -- what a walk finds under a byte of a row, and in the row
  abbrev IsUnder : ℕ → Kind → ℕ → ℕ → ℕ → Type 0
  IsUnder b k x key value = Hangs s words key value × (take (level_in words b k + 1) (key_bytes key) ≡ path_in words b k ++ x ∷ [])

  abbrev IsIn : ℕ → Kind → ℕ → ℕ → Type 0
  IsIn b k key value = Hangs s words key value × (path_in words b k ≡ take (level_in words b k) (key_bytes key))

  found_child : (n b : ℕ) (k : Kind) (x key value : ℕ)
      → ((c : ℕ) (j : Kind) → Reached s words c j → Contains (pairs_below n s words c j) (key, value) → IsIn c j key value)
      → Reached s words b k → x < 256
      → Contains (pairs_in (pairs_below n s words) (child_on s words b k x)) (key, value) → IsUnder b k x key value
  found_child n b k x key value rows r byte h = go (child_on s words b k x) refl h
    where
      go : (child : Child) → child_on s words b k x ≡ child → Contains (pairs_in (pairs_below n s words) child) (key, value)
          → IsUnder b k x key value
      go Empty on is = absurd (Contains-nil (key, value) is)
      go (Row c j) on is =
          let (hangs, begins) = rows c j (below r x byte on) is in
          let (lower, path) = tree.row b c x k j r byte on in (
            hangs,
            sym (take_less (level_in words b k + 1) (level_in words c j) (key_bytes key) (omega (arith, lower)))
                ∙ (ap (λ zs. take (level_in words b k + 1) zs) (sym begins) ∙ path),
          )
      go (Leaf l v) on is = ⊎_elim
          (λ (same : (l, v) ≡ (key, value)).
          let leaf : child_on s words b k x ≡ Leaf key value = on ∙ ap (λ (p : ℕ × ℕ). Leaf p.0 p.1) same in
          (record { base = b; kind = k; reached = r; byte = x; is_byte = byte; leaf = leaf }, tree.leaf b x key value k r byte leaf))
          (λ later. absurd (Contains-nil (key, value) later)) (Contains-cases (l, v) [] (key, value) is)

  found_row : (n b : ℕ) (k : Kind) (key value : ℕ) → Reached s words b k → Contains (pairs_below n s words b k) (key, value)
      → IsIn b k key value
  found_row zero b k key value r h = absurd (Contains-nil (key, value) h)
  found_row (suc n) b k key value r h =
      let (x, low, high, is) = found_from (λ x. pairs_in (pairs_below n s words) (child_on s words b k x)) 0 256 (key, value)
      (subst (λ ps. Contains ps (key, value)) (row_more n s words b k) h) in
      let (hangs, begins) = found_child n b k x key value (λ c j t is. found_row n c j key value t is) r (omega (arith, high)) is in (
        hangs,
        (path_and_byte (key_bytes key) (path_in words b k) (level_in words b k) x (tree.info b k r).0
            (level_small k (slice_index words (info_at b))) begins).0,
      )

  key_small : (key value : ℕ) → Hangs s words key value → key < 2 ^ 32
  key_small key value h = (leaves-are-small s words h.base h.kind h.byte key value small h.leaf).0

  -- what is found under a byte has lower keys than what is found under a greater one
  under_rising : (b : ℕ) (k : Kind) (x y key value other v : ℕ) → Reached s words b k → x < y → IsUnder b k x key value
      → IsUnder b k y other v → key < other
  under_rising b k x y key value other v r less here there =
      let level = level_in words b k in
      let few = level_small k (slice_index words (info_at b)) in
      let first = path_and_byte (key_bytes key) (path_in words b k) level x (tree.info b k r).0 few here.1 in
      let second = path_and_byte (key_bytes other) (path_in words b k) level y (tree.info b k r).0 few there.1 in
      in_order level key other few (key_small key value here.0) (key_small other v there.0) (sym first.0 ∙ second.0)
      (subst (λ z. z < slice_index (key_bytes other) level) first.1 (subst (λ z. x < z) second.1 less))

  child_rises : (n : ℕ) (child : Child) → ((c : ℕ) (j : Kind) → child ≡ Row c j → IsRising (pairs_below n s words c j))
      → IsRising (pairs_in (pairs_below n s words) child)
  child_rises n Empty rows = AllPairs-nil (λ (a : ℕ × ℕ) (b : ℕ × ℕ). a.0 < b.0)
  child_rises n (Row c j) rows = rows c j refl
  child_rises n (Leaf key value) rows = λ i j d less within. absurd (omega (arith, less, within))

  walk_rises : (n b : ℕ) (k : Kind) → Reached s words b k → IsRising (pairs_below n s words b k)
  walk_rises zero b k r = AllPairs-nil (λ (a : ℕ × ℕ) (b : ℕ × ℕ). a.0 < b.0)
  walk_rises (suc n) b k r =
      subst (λ ps. IsRising ps) (sym (row_more n s words b k))
      (found_rising (λ x. pairs_in (pairs_below n s words) (child_on s words b k x)) 0 256
      (λ x low high. child_rises n (child_on s words b k x) (λ c j on. walk_rises n c j (below r x (omega (arith, high)) on)))
      (λ x y p q low less high here there. under_rising b k x y p.0 p.1 q.0 q.1 r less
      (found_child n b k x p.0 p.1 (λ c j t is. found_row n c j p.0 p.1 t is) r (omega (arith, less, high)) here)
      (found_child n b k y q.0 q.1 (λ c j t is. found_row n c j q.0 q.1 t is) r (omega (arith, high)) there)))

  -- a walk that may go further down finds no less
  child_more : (n m : ℕ) (child : Child) (p : ℕ × ℕ)
      → ((c : ℕ) (j : Kind) → Contains (pairs_below n s words c j) p → Contains (pairs_below m s words c j) p)
      → Contains (pairs_in (pairs_below n s words) child) p → Contains (pairs_in (pairs_below m s words) child) p
  child_more n m Empty p rows h = h
  child_more n m (Row c j) p rows h = rows c j h
  child_more n m (Leaf key value) p rows h = h

  walk_more : (n m b : ℕ) (k : Kind) (p : ℕ × ℕ) → n ≤ m → Contains (pairs_below n s words b k) p → Contains (pairs_below m s words b k) p
  walk_more zero m b k p most h = absurd (Contains-nil p h)
  walk_more (suc n) zero b k p most h = absurd (omega (arith, most))
  walk_more (suc n) (suc m) b k p most h =
      let (x, low, high, is) = found_from (λ x. pairs_in (pairs_below n s words) (child_on s words b k x)) 0 256 p
      (subst (λ ps. Contains ps p) (row_more n s words b k) h) in
      subst (λ ps. Contains ps p) (sym (row_more m s words b k))
      (found_at (λ x. pairs_in (pairs_below m s words) (child_on s words b k x)) 0 256 x p low high
      (child_more n m (child_on s words b k x) p (λ c j t. walk_more n m c j p (omega (arith, most)) t) is))

  -- what is found on the way of a row is found from the root
  walk_from : (top b : ℕ) (k : Kind) → Reached s words b k → (n : ℕ) (p : ℕ × ℕ) → n + level_in words b k ≤ top
      → Contains (pairs_below n s words b k) p
      → Contains (pairs_below top s words (root_base s) Full) p
  walk_from top b k root n p few h = walk_more n top (root_base s) Full p (omega (arith, few)) h
  walk_from top b k (below {base = c} {kind = j} r x byte on) n p few h =
      walk_from top c j r (suc n) p (omega (arith, few, (tree.row c b x j k r byte on).0))
      (subst (λ ps. Contains ps p) (sym (row_more n s words c j))
      (found_at (λ x. pairs_in (pairs_below n s words) (child_on s words c j x)) 0 256 x p (omega arith) (omega (arith, byte))
      (subst (λ child. Contains (pairs_in (pairs_below n s words) child) p) (sym on) h)))

  found_leaf : (key value : ℕ) (h : Hangs s words key value) → Contains (pairs_below 1 s words h.base h.kind) (key, value)
  found_leaf key value h =
      subst (λ ps. Contains ps (key, value)) (sym (row_more 0 s words h.base h.kind))
      (found_at (λ x. pairs_in (pairs_below 0 s words) (child_on s words h.base h.kind x)) 0 256 h.byte (key, value) (omega arith)
      (omega (arith, h.is_byte))
      (subst (λ child. Contains (pairs_in (pairs_below 0 s words) child) (key, value)) (sym h.leaf) (Contains-first (key, value) [])))

  walk_means : (top : ℕ) → 4 ≤ top → Means s words (pairs_below top s words (root_base s) Full)
  walk_means top high = record {
    rising = walk_rises top (root_base s) Full root;
    all = λ key value. (
      λ is. (found_row top (root_base s) Full key value root is).0,
      λ h. walk_from top h.base h.kind h.reached 1 (key, value)
          (omega (arith, high, level_small h.kind (slice_index words (info_at h.base)))) (found_leaf key value h),
    );
  }

pub trees-are-walked : TreesAreWalked
trees-are-walked s words tree small = walk_means s words tree small 4 (omega arith)
