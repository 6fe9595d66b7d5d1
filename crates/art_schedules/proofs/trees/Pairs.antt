-- A pair is hung in the place of a child whose keys part from the key.
use Rattle.art_schedules.proofs.Common.{◌≡◌, ℕ, ◌+◌, ◌<◌, List, [], ◌∷◌, ◌++◌, length, take, refl, sym, ap, ap₂, subst, subst₂, ◌∙◌}
use Rattle.std.proofs.Common.{slice_index}
use Rattle.art_schedules.proofs.Common.{arith, ⊎_elim, inl, inr, cases_eq, All-take, Shape, Kind, Four, Full, Child, Empty, Leaf, info_at}
use Rattle.art_schedules.proofs.Common.{root_base, key_bytes, info_of, info_word, key_byte-small, Reached, root, below, Hangs, child_on, HasForm}
use Rattle.art_schedules.proofs.Common.{IsTree, level_in, path_in, LeadsTo, ChangesAt, IsPair, Parts, HasRowMore, PairsAreHung}
use Rattle.std.specs.Prelude.{◌⊎◌, ◌≢◌}
use Rattle.std.proofs.lemmas.List.{length-take-le}
use Rattle.art_rows.specs.declared.table.Child.TheVariants.{Row}
use Rattle.art_schedules.proofs.trees.Bytes.{PartsAt, parts_at, deeper, parted_byte, one_more, take_less}
use Rattle.art_schedules.proofs.trees.InfoWords.{level_back, path_back, path_byte}
use Rattle.art_schedules.proofs.words.ByteLemmas.{key_bytes-small}
use Rattle.art_schedules.proofs.trees.Infos.{IsInfo, MayHang, LeafMayHang}
use Rattle.art_schedules.proofs.trees.Ways.{empty-leaf, empty-row, row-leaf, same_base, same_kind, same_key}
use Rattle.art_schedules.proofs.trees.Changes.{elsewhere, infos_stay, forms_stay, child_there, one_kind, way_byte, way_leaf, IsPlace}
use Rattle.art_schedules.proofs.trees.NewMaps.{HasOtherLeaves, means_put}

-- the byte at which the child's keys part from the key lies after the row's path
record IsBehind (level d a b : ℕ) : Type 0 where
  few : d < 4
  lower : level < d
  small : a < 256
  apart : a ≢ b

module _ (s : Shape) (words : List ℕ) (key base : ℕ) (kind : Kind) (x d a b : ℕ) (tree : IsTree s words)
    (leads : LeadsTo s words key base kind x)
    (byte : b ≡ slice_index (key_bytes key) d) where
  behind_list : (zs : List ℕ) → PartsAt zs (key_bytes key) d → take (level_in words base kind + 1) zs ≡ path_in words base kind ++ x ∷ []
      → a ≡ slice_index zs d
      → a < 256 → IsBehind (level_in words base kind) d a b
  behind_list zs parts begins here small = record {
    few = parts.second;
    lower = deeper zs (key_bytes key) (level_in words base kind) d parts (begins ∙ sym (way_leaf s words key base kind x leads));
    small = small;
    apart = λ same. parts.apart (sym here ∙ (same ∙ byte));
  }

  -- each child parts from the key after the row's path
  behind : (child : Child) → child_on s words base kind x ≡ child → Parts words key d a child → IsBehind (level_in words base kind) d a b
  behind Empty on parts = absurd parts
  behind (Leaf k v) on parts =
      behind_list (key_bytes k) (parts_at (key_bytes k) (key_bytes key) d parts.0)
      (tree.leaf base x k v kind leads.reached (way_byte s words key base kind x leads) on) parts.1
      (subst (λ z. z < 256) (sym parts.1) (key_byte-small k d))
  behind (Row c j) on parts =
      behind_list (path_in words c j) (parts_at (path_in words c j) (key_bytes key) d parts.0)
      (tree.row base c x kind j leads.reached (way_byte s words key base kind x leads) on).1 parts.1
      (subst (λ z. z < 256) (sym parts.1) (path_byte j (slice_index words (info_at c)) d))

module _ (s : Shape) (words later : List ℕ) (key value base : ℕ) (kind : Kind) (x row d a b : ℕ) (tree : IsTree s words)
    (leads : LeadsTo s words key base kind x) (parts : Parts words key d a (child_on s words base kind x))
    (pair : IsPair s words later key value row d a b (child_on s words base kind x))
    (change : ChangesAt s words later base kind x (Row row Four)) where
  abbrev child : Child
  child = child_on s words base kind x

  where_parted : IsBehind (level_in words base kind) d a b
  where_parted = behind s words key base kind x d a b tree leads pair.byte (child_on s words base kind x) refl parts

  way_small : x < 256
  way_small = way_byte s words key base kind x leads

  b_small : b < 256
  b_small = subst (λ z. z < 256) (sym pair.byte) (key_byte-small key d)

  spot : (c : ℕ) (j : Kind) (y : ℕ) → Reached s words c j → y < 256 → IsPlace base kind x c j y
      ⊎ (child_on s later c j y ≡ child_on s words c j y)
  spot = elsewhere s words later base kind x (Row row Four) tree leads.reached change

  same_info : (c : ℕ) (j : Kind) → Reached s words c j → slice_index later (info_at c) ≡ slice_index words (info_at c)
  same_info = infos_stay s words later base kind x (Row row Four) tree leads.reached change

  -- what the new row has on its bytes
  row_on : (y c : ℕ) (j : Kind) → y < 256 → child_on s later row Four y ≡ Row c j → (y ≡ a) × (child ≡ Row c j)
  row_on y c j small on = ⊎_elim
      (λ at. (at, sym pair.old ∙ (sym (ap (λ y. child_on s later row Four y) at) ∙ on)))
      (λ not_a. ⊎_elim
      (λ at. absurd (row-leaf c j key value (sym on ∙ (ap (λ y. child_on s later row Four y) at ∙ pair.leaf))))
      (λ not_b. absurd (empty-row c j (sym (pair.rest y small not_a not_b) ∙ on))) (cases_eq y b)) (cases_eq y a)

  leaf_on : (y k v : ℕ) → y < 256 → child_on s later row Four y ≡ Leaf k v → ((y ≡ a) × (child ≡ Leaf k v)) ⊎ ((y ≡ b) × (k ≡ key))
  leaf_on y k v small on = ⊎_elim
      (λ at. inl (at, sym pair.old ∙ (sym (ap (λ y. child_on s later row Four y) at) ∙ on)))
      (λ not_a. ⊎_elim
      (λ at. inr (at, same_key k v key value (sym on ∙ (ap (λ y. child_on s later row Four y) at ∙ pair.leaf))))
      (λ not_b. absurd (empty-leaf k v (sym (pair.rest y small not_a not_b) ∙ on))) (cases_eq y b)) (cases_eq y a)

  -- the rows that are reached
  at_place : (c : ℕ) (j : Kind) (y : ℕ) → IsPlace base kind x c j y → child_on s later c j y ≡ Row row Four
  at_place c j y at = child_there s later base kind x c j y at ∙ change.here

  reached_before : (c : ℕ) (j : Kind) → Reached s later c j → Reached s words c j ⊎ ((c ≡ row) × (j ≡ Four))
  reached_before c j root = inl root
  reached_before c j (below {base = m} {kind = n} r y small on) = ⊎_elim
      (λ old. ⊎_elim
      (λ at.
      let rows = sym on ∙ at_place m n y at in
      inr (same_base c row j Four rows, same_kind c row j Four rows))
      (λ same. inl (below old y small (sym same ∙ on))) (spot m n y old small))
      (λ (new : (m ≡ row) × (n ≡ Four)). inl (below leads.reached x way_small
      (row_on y c j small (sym (ap₂ (λ m n. child_on s later m n y) new.0 new.1) ∙ on)).1)) (reached_before m n r)

  reached_after : (c : ℕ) (j : Kind) → Reached s words c j → Reached s later c j
  reached_after c j root = root
  reached_after c j (below {base = m} {kind = n} r y small on) =
      let up = reached_after m n r in
      ⊎_elim
      (λ at. below (below up y small (at_place m n y at)) a where_parted.small
      (pair.old ∙ (sym (child_there s words base kind x m n y at) ∙ on)))
      (λ same. below up y small (same ∙ on)) (spot m n y r small)

  row_reached : Reached s later row Four
  row_reached = below (reached_after base kind leads.reached) x way_small change.here

  new_reached : (c : ℕ) (j : Kind) → (c ≡ row) × (j ≡ Four) → Reached s later c j
  new_reached c j new = subst₂ (λ c j. Reached s later c j) (sym new.0) (sym new.1) row_reached

  -- the new row's info
  abbrev word : ℕ
  word = slice_index later (info_at row)

  path_long : length (take d (key_bytes key)) ≡ d
  path_long = length-take-le d (key_bytes key) (omega (arith, where_parted.few))

  row_level : (info_of Four word).level ≡ d
  row_level = ap (λ w. (info_of Four w).level) pair.info
      ∙ level_back Four d (take d (key_bytes key)) where_parted.few path_long
      (All-take (λ x. x < 256) d (key_bytes key) (key_bytes-small key))

  row_path : (info_of Four word).path ≡ take d (key_bytes key)
  row_path = ap (λ w. (info_of Four w).path) pair.info
      ∙ path_back Four d (take d (key_bytes key)) where_parted.few path_long
      (All-take (λ x. x < 256) d (key_bytes key) (key_bytes-small key))

  row_info : IsInfo Four word
  row_info = (ap length row_path ∙ (path_long ∙ sym row_level), pair.info ∙ ap₂ (λ l p. info_word Four l p) (sym row_level) (sym row_path))

  -- what hangs there may
  row_hangs : MayHang kind (slice_index words (info_at base)) x Four word
  row_hangs =
      let level = level_in words base kind in (
        subst (λ n. level < n) (sym row_level) where_parted.lower,
        ap (λ zs. take (level + 1) zs) row_path
            ∙ (take_less (level + 1) d (key_bytes key) (omega (arith, where_parted.lower)) ∙ way_leaf s words key base kind x leads),
      )

  under_row : (zs : List ℕ) (z : ℕ) → take (d + 1) zs ≡ take d (key_bytes key) ++ z ∷ []
      → take ((info_of Four word).level + 1) zs ≡ (info_of Four word).path ++ z ∷ []
  under_row zs z h = subst₂ (λ l p. take (l + 1) zs ≡ p ++ z ∷ []) (sym row_level) (sym row_path) h

  child_hangs : (c : ℕ) (j : Kind) → child ≡ Row c j → MayHang Four word a j (slice_index words (info_at c))
  child_hangs c j on =
      let (differ, byte) = subst (λ z. Parts words key d a z) on parts in
      let at = parts_at (path_in words c j) (key_bytes key) d differ in
      let long = (tree.info c j (below leads.reached x way_small on)).0 in (
        subst (λ n. n < level_in words c j) (sym row_level) (subst (λ n. d < n) long at.first),
        under_row (path_in words c j) a (parted_byte (path_in words c j) (key_bytes key) d a at byte),
      )

  child_leaf : (k v : ℕ) → child ≡ Leaf k v → LeafMayHang Four word a k
  child_leaf k v on =
      let (differ, byte) = subst (λ z. Parts words key d a z) on parts in
      under_row (key_bytes k) a (parted_byte (key_bytes k) (key_bytes key) d a (parts_at (key_bytes k) (key_bytes key) d differ) byte)

  own_leaf : LeafMayHang Four word b key
  own_leaf = under_row (key_bytes key) b (one_more d (key_bytes key) where_parted.few ∙ ap
      (λ z. take d (key_bytes key) ++ z ∷ []) (sym pair.byte))

  -- the later tree
  rows_hang : (m c y : ℕ) (n j : Kind) → Reached s later m n → y < 256 → child_on s later m n y ≡ Row c j
      → MayHang n (slice_index later (info_at m)) y j (slice_index later (info_at c))
  rows_hang m c y n j r small on = ⊎_elim
      (λ old. ⊎_elim
      (λ at. new_hangs at (sym on ∙ at_place m n y at) old)
      (λ same.
      let before = sym same ∙ on in
      subst₂ (λ w v. MayHang n w y j v) (sym (same_info m n old)) (sym (same_info c j (below old y small before)))
      (tree.row m c y n j old small before))
      (spot m n y old small))
      (λ (new : (m ≡ row) × (n ≡ Four)).
      let (at, before) = row_on y c j small (sym (ap₂ (λ m n. child_on s later m n y) new.0 new.1) ∙ on) in
      let hangs = subst₂ (λ y v. MayHang Four word y j v) (sym at) (sym (same_info c j (below leads.reached x way_small before)))
      (child_hangs c j before) in
      subst₂ (λ m n. MayHang n (slice_index later (info_at m)) y j (slice_index later (info_at c))) (sym new.0) (sym new.1) hangs)
      (reached_before m n r)
    where
      new_hangs : IsPlace base kind x m n y → Row c j ≡ Row row Four → Reached s words m n
          → MayHang n (slice_index later (info_at m)) y j (slice_index later (info_at c))
      new_hangs (here, kinds, byte) rows old =
          subst₂ (λ c j. MayHang n (slice_index later (info_at m)) y j (slice_index later (info_at c)))
          (sym (same_base c row j Four rows)) (sym (same_kind c row j Four rows))
          (subst (λ w. MayHang n w y Four word) (sym (same_info m n old))
          (subst (λ y. MayHang n (slice_index words (info_at m)) y Four word) (sym byte)
          (subst₂ (λ m n. MayHang n (slice_index words (info_at m)) x Four word) (sym here) (sym kinds) row_hangs)))

  leaves_hang : (m y k v : ℕ) (n : Kind) → Reached s later m n → y < 256 → child_on s later m n y ≡ Leaf k v
      → LeafMayHang n (slice_index later (info_at m)) y k
  leaves_hang m y k v n r small on = ⊎_elim
      (λ old. ⊎_elim
      (λ at. absurd (row-leaf row Four k v (sym (at_place m n y at) ∙ on)))
      (λ same. subst (λ w. LeafMayHang n w y k) (sym (same_info m n old)) (tree.leaf m y k v n old small (sym same ∙ on)))
      (spot m n y old small))
      (λ (new : (m ≡ row) × (n ≡ Four)). subst₂ (λ m n. LeafMayHang n (slice_index later (info_at m)) y k) (sym new.0) (sym new.1)
      (⊎_elim
      (λ (at : (y ≡ a) × (child ≡ Leaf k v)). subst (λ y. LeafMayHang Four word y k) (sym at.0) (child_leaf k v at.1))
      (λ (at : (y ≡ b) × (k ≡ key)). subst₂ (λ y k. LeafMayHang Four word y k) (sym at.0) (sym at.1) own_leaf)
      (leaf_on y k v small (sym (ap₂ (λ m n. child_on s later m n y) new.0 new.1) ∙ on)))) (reached_before m n r)

  -- where a row hung before: on the byte, if it hangs on the new row
  abbrev Hung : ℕ → Kind → ℕ → ℕ → Kind → Type 0
  Hung m n y c j = (IsPlace base kind x m n y × (c ≡ row))
      ⊎ ((Reached s words m n × (child_on s words m n y ≡ Row c j) × (c ≢ row)) ⊎ ((m ≡ row) × (y ≡ a) × (child ≡ Row c j)))

  not_new : (m : ℕ) (n : Kind) (y c : ℕ) (j : Kind) → Reached s words m n → y < 256 → child_on s words m n y ≡ Row c j → c ≢ row
  not_new m n y c j r small on same = pair.new j (subst (λ c. Reached s words c j) same (below r y small on))

  hung : (m : ℕ) (n : Kind) (y c : ℕ) (j : Kind) → Reached s later m n → y < 256 → child_on s later m n y ≡ Row c j → Hung m n y c j
  hung m n y c j r small on = ⊎_elim
      (λ old. ⊎_elim
      (λ at. inl (at, same_base c row j Four (sym on ∙ at_place m n y at)))
      (λ same. inr (inl (old, sym same ∙ on, not_new m n y c j old small (sym same ∙ on)))) (spot m n y old small))
      (λ (new : (m ≡ row) × (n ≡ Four)).
      let (at, before) = row_on y c j small (sym (ap₂ (λ m n. child_on s later m n y) new.0 new.1) ∙ on) in
      inr (inr (new.0, at, before))) (reached_before m n r)

  -- a row that hangs on the new row hung on the byte, and hangs there no more
  moved : (m : ℕ) (n : Kind) (y c : ℕ) (j : Kind) → y < 256 → Reached s words m n → child_on s words m n y ≡ Row c j → child ≡ Row c j
      → child_on s later m n y ≡ Row c j → c ≢ row → ⊥
  moved m n y c j small r on before there other =
      let (here, byte) = tree.once m base y x c n kind j r leads.reached small way_small on before in
      let kinds = one_kind s words tree base n kind (subst (λ m. Reached s words m n) here r) leads.reached in
      other (same_base c row j Four (sym there ∙ at_place m n y (here, kinds, byte)))

  hang_once : (m p y z c : ℕ) (n q j : Kind) → Reached s later m n → Reached s later p q → y < 256 → z < 256
      → child_on s later m n y ≡ Row c j
      → child_on s later p q z ≡ Row c j → (m ≡ p) × (y ≡ z)
  hang_once m p y z c n q j r t small other on there = go (hung m n y c j r small on) (hung p q z c j t other there)
    where
      go : Hung m n y c j → Hung p q z c j → (m ≡ p) × (y ≡ z)
      go (inl (at, new)) (inl (beside, also)) = (at.0 ∙ sym beside.0, at.2 ∙ sym beside.2)
      go (inl (at, new)) (inr (inl (old, before, not))) = absurd (not new)
      go (inl (at, new)) (inr (inr (row_is, byte, before))) = absurd (not_new base kind x c j leads.reached way_small before new)
      go (inr (inl (old, before, not))) (inl (beside, also)) = absurd (not also)
      go (inr (inl (old, before, not))) (inr (inl (old2, before2, not2))) = tree.once m p y z c n q j old old2 small other before before2
      go (inr (inl (old, before, not))) (inr (inr (row_is, byte, before2))) = absurd (moved m n y c j small old before before2 on not)
      go (inr (inr (row_is, byte, before))) (inl (beside, also)) = absurd (not_new base kind x c j leads.reached way_small before also)
      go (inr (inr (row_is, byte, before))) (inr (inl (old2, before2, not2))) =
          absurd (moved p q z c j other old2 before2 before there not2)
      go (inr (inr (row_is, byte, before))) (inr (inr (row_is2, byte2, before2))) = (row_is ∙ sym row_is2, byte ∙ sym byte2)

  later_tree : IsTree s later
  later_tree = record {
    root = same_info (root_base s) Full root ∙ tree.root;
    form = λ c j r. ⊎_elim
        (λ old. forms_stay s words later base kind x (Row row Four) tree leads.reached change c j old)
        (λ (new : (c ≡ row) × (j ≡ Four)). subst₂ (λ c j. HasForm later c j) (sym new.0) (sym new.1) pair.form) (reached_before c j r);
    info = λ c j r. ⊎_elim
        (λ old. subst (λ w. IsInfo j w) (sym (same_info c j old)) (tree.info c j old))
        (λ (new : (c ≡ row) × (j ≡ Four)). subst₂ (λ c j. IsInfo j (slice_index later (info_at c))) (sym new.0) (sym new.1) row_info)
        (reached_before c j r);
    row = rows_hang;
    leaf = λ m y k v n r small on. leaves_hang m y k v n r small on;
    once = hang_once;
  }

  rows_more : HasRowMore s words later row Four
  rows_more c j = (reached_before c j, λ either. ⊎_elim (λ old. reached_after c j old) (λ new. new_reached c j new) either)

  other_leaves : HasOtherLeaves s words later key
  other_leaves k v other = (before, after)
    where
      before : Hangs s later k v → Hangs s words k v
      before h = ⊎_elim
          (λ old. record {
            base = h.base;
            kind = h.kind;
            reached = old;
            byte = h.byte;
            is_byte = h.is_byte;
            leaf = ⊎_elim
                (λ at. absurd (row-leaf row Four k v (sym (at_place h.base h.kind h.byte at) ∙ h.leaf)))
                (λ same. sym same ∙ h.leaf) (spot h.base h.kind h.byte old h.is_byte);
          })
          (λ (new : (h.base ≡ row) × (h.kind ≡ Four)). ⊎_elim
          (λ (at : (h.byte ≡ a) × (child ≡ Leaf k v)). record
          { base = base; kind = kind; reached = leads.reached; byte = x; is_byte = way_small; leaf = at.1 })
          (λ (at : (h.byte ≡ b) × (k ≡ key)). absurd (other at.1))
          (leaf_on h.byte k v h.is_byte (sym (ap₂ (λ m n. child_on s later m n h.byte) new.0 new.1) ∙ h.leaf)))
          (reached_before h.base h.kind h.reached)

      after : Hangs s words k v → Hangs s later k v
      after h = ⊎_elim
          (λ at. record {
            base = row;
            kind = Four;
            reached = row_reached;
            byte = a;
            is_byte = where_parted.small;
            leaf = pair.old ∙ (sym (child_there s words base kind x h.base h.kind h.byte at) ∙ h.leaf);
          })
          (λ same. record {
            base = h.base;
            kind = h.kind;
            reached = reached_after h.base h.kind h.reached;
            byte = h.byte;
            is_byte = h.is_byte;
            leaf = same ∙ h.leaf;
          }) (spot h.base h.kind h.byte h.reached h.is_byte)

  own_hangs : Hangs s later key value
  own_hangs = record { base = row; kind = Four; reached = row_reached; byte = b; is_byte = b_small; leaf = pair.leaf }

pub pairs-are-hung : PairsAreHung
pairs-are-hung s words later m key value base kind x row d a b tree means leads parts pair change = (
  later_tree s words later key value base kind x row d a b tree leads parts pair change,
  rows_more s words later key value base kind x row d a b tree leads parts pair change,
  means_put s words later m key means (other_leaves s words later key value base kind x row d a b tree leads parts pair change) value
      (later_tree s words later key value base kind x row d a b tree leads parts pair change)
      (own_hangs s words later key value base kind x row d a b tree leads parts pair change),
)
