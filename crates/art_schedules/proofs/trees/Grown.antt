-- A grown row is hung in the place of another.
use Rattle.art_schedules.proofs.Common.{◌≡◌, ℕ, ◌+◌, ◌<◌, List, [], ◌∷◌, ◌++◌, length, take, refl, sym, ap, ap₂, subst, subst₂, ◌∙◌}
use Rattle.std.proofs.Common.{slice_index}
use Rattle.art_schedules.proofs.Common.{arith, ⊎_elim, inl, inr, cases_eq, Shape, Kind, Full, Leaf, info_at, root_base, key_bytes, info_of}
use Rattle.art_schedules.proofs.Common.{info_word, Reached, root, below, Hangs, child_on, HasForm, IsTree, level_in, path_in, LeadsTo, IsGrown}
use Rattle.art_schedules.proofs.Common.{HasRowInPlace, GrownRowsAreHung}
use Rattle.std.specs.Prelude.{◌⊎◌, ◌≢◌}
use Rattle.art_rows.specs.declared.table.Child.TheVariants.{Row}
use Rattle.art_schedules.specs.trees.Trees.{ChangesAtBut}
use Rattle.art_schedules.proofs.trees.InfoWords.{level_small, level_back, path_back, path_bytes}
use Rattle.art_schedules.proofs.trees.Infos.{IsInfo, MayHang, LeafMayHang}
use Rattle.art_schedules.proofs.trees.SameRows.{child_same, form_same, info_same}
use Rattle.art_schedules.proofs.trees.Ways.{empty-leaf, empty-row, row-leaf, same_base, same_kind, same_key}
use Rattle.art_schedules.proofs.trees.Changes.{child_there, one_kind, way_byte, way_leaf, IsPlace}
use Rattle.art_schedules.proofs.trees.NewMaps.{HasOtherLeaves, means_put}

module _ (s : Shape) (words : List ℕ) (tree : IsTree s words) where
  level_same : (b : ℕ) (k : Kind) (c : ℕ) (j : Kind) → Reached s words b k → Reached s words c j → b ≡ c
      → level_in words b k ≡ level_in words c j
  level_same b k c j r t same =
      ap₂ (λ b k. level_in words b k) same (one_kind s words tree c k j (subst (λ b. Reached s words b k) same r) t)

  -- a row hangs on no byte of itself, and the root on none at all
  not_itself : (b : ℕ) (k : Kind) (x c : ℕ) (j : Kind) → Reached s words b k → x < 256 → child_on s words b k x ≡ Row c j → c ≢ b
  not_itself b k x c j r small on same =
      omega (arith, (tree.row b c x k j r small on).0, level_same c j b k (below r x small on) r same)

  root_level : level_in words (root_base s) Full ≡ 0
  root_level = ap (λ w. (info_of Full w).level) tree.root

  not_root : (b : ℕ) (k : Kind) (x c : ℕ) (j : Kind) → Reached s words b k → x < 256 → child_on s words b k x ≡ Row c j → root_base s ≢ c
  not_root b k x c j r small on same =
      omega (arith, (tree.row b c x k j r small on).0, level_same (root_base s) Full c j root (below r x small on) same, root_level)

module _ (s : Shape) (words later : List ℕ) (key value high : ℕ) (above : Kind) (y base : ℕ) (kind : Kind) (x row : ℕ) (larger : Kind)
    (tree : IsTree s words) (down : LeadsTo s words key high above y) (on_high : child_on s words high above y ≡ Row base kind)
    (leads : LeadsTo s words key base kind x) (grown : IsGrown s words later key value base kind row larger x)
    (change : ChangesAtBut s words later high above y base (Row row larger)) where
  y_small : y < 256
  y_small = way_byte s words key high above y down

  x_small : x < 256
  x_small = way_byte s words key base kind x leads

  not_high : base ≢ high
  not_high = not_itself s words tree high above y base kind down.reached y_small on_high

  at_place : (c : ℕ) (j : Kind) (z : ℕ) → IsPlace high above y c j z → child_on s later c j z ≡ Row row larger
  at_place c j z at = child_there s later high above y c j z at ∙ change.here

  -- each other child of the rows is the same, except the one that was grown,
  spot : (c : ℕ) (j : Kind) (z : ℕ) → Reached s words c j → c ≢ base → z < 256
      → IsPlace high above y c j z ⊎ (child_on s later c j z ≡ child_on s words c j z)
  spot c j z r not small = ⊎_elim
      (λ here.
      let same = one_kind s words tree high j above (subst (λ c. Reached s words c j) here r) down.reached in
      ⊎_elim (λ at. inl (here, same, at))
      (λ other. inr (ap₂ (λ c j. child_on s later c j z) here same
      ∙ (change.other_bytes z small other ∙ sym (ap₂ (λ c j. child_on s words c j z) here same)))) (cases_eq z y))
      (λ apart. inr (child_same words later c s j z small (change.others c j r apart not))) (cases_eq c high)

  -- the infos and the forms of these rows are the same,
  same_info : (c : ℕ) (j : Kind) → Reached s words c j → c ≢ base → slice_index later (info_at c) ≡ slice_index words (info_at c)
  same_info c j r not = ⊎_elim
      (λ here. subst (λ c. slice_index later (info_at c) ≡ slice_index words (info_at c)) (sym here) change.info)
      (λ apart. info_same words later c j (change.others c j r apart not)) (cases_eq c high)

  formed : (c : ℕ) (j : Kind) → Reached s words c j → c ≢ base → HasForm later c j
  formed c j r not = ⊎_elim
      (λ here. subst₂ (λ c j. HasForm later c j) (sym here)
      (sym (one_kind s words tree high j above (subst (λ c. Reached s words c j) here r) down.reached)) change.form)
      (λ apart. form_same words later c j (change.others c j r apart not) (tree.form c j r)) (cases_eq c high)

  -- what the grown row has on its bytes
  row_on : (z c : ℕ) (j : Kind) → z < 256 → child_on s later row larger z ≡ Row c j → child_on s words base kind z ≡ Row c j
  row_on z c j small on = ⊎_elim
      (λ at. absurd (row-leaf c j key value (sym on ∙ (ap (λ z. child_on s later row larger z) at ∙ grown.leaf))))
      (λ other. sym (grown.rest z small other) ∙ on) (cases_eq z x)

  leaf_on : (z k v : ℕ) → z < 256 → child_on s later row larger z ≡ Leaf k v → (k ≡ key) ⊎ (child_on s words base kind z ≡ Leaf k v)
  leaf_on z k v small on = ⊎_elim
      (λ at. inl (same_key k v key value (sym on ∙ (ap (λ z. child_on s later row larger z) at ∙ grown.leaf))))
      (λ other. inr (sym (grown.rest z small other) ∙ on)) (cases_eq z x)

  -- the row that was grown is the only one on its byte
  its_place : (m : ℕ) (n : Kind) (z c : ℕ) (j : Kind) → Reached s words m n → z < 256 → child_on s words m n z ≡ Row c j → c ≡ base
      → IsPlace high above y m n z
  its_place m n z c j r small on same =
      let kinds = one_kind s words tree base j kind (subst (λ c. Reached s words c j) same (below r z small on)) leads.reached in
      let (here, byte) = tree.once m high z y base n above kind r down.reached small y_small (on ∙ ap₂ (λ c j. Row c j)
      same kinds) on_high in
      (here, one_kind s words tree high n above (subst (λ m. Reached s words m n) here r) down.reached, byte)

  not_row : (m : ℕ) (n : Kind) (z c : ℕ) (j : Kind) → Reached s words m n → z < 256 → child_on s words m n z ≡ Row c j → c ≢ row
  not_row m n z c j r small on same = grown.new j (subst (λ c. Reached s words c j) same (below r z small on))

  not_base : (m : ℕ) (n : Kind) (z c : ℕ) (j : Kind) → Reached s words m n → z < 256 → child_on s words m n z ≡ Row c j
      → child_on s later m n z ≡ Row c j
      → c ≢ base
  not_base m n z c j r small on there same =
      not_row m n z c j r small on
      (same_base c row j larger (sym there ∙ at_place m n z (its_place m n z c j r small on same)))

  -- the rows that are reached
  reached_before : (c : ℕ) (j : Kind) → Reached s later c j → (Reached s words c j × (c ≢ base)) ⊎ ((c ≡ row) × (j ≡ larger))
  reached_before c j root = inl (root, not_root s words tree high above y base kind down.reached y_small on_high)
  reached_before c j (below {base = m} {kind = n} r z small on) = ⊎_elim
      (λ (old : Reached s words m n × (m ≢ base)). ⊎_elim
      (λ at.
      let rows = sym on ∙ at_place m n z at in
      inr (same_base c row j larger rows, same_kind c row j larger rows))
      (λ same. inl (below old.0 z small (sym same ∙ on), not_base m n z c j old.0 small (sym same ∙ on) on)) (spot m n z old.0 old.1 small))
      (λ (new : (m ≡ row) × (n ≡ larger)).
      let before = row_on z c j small (sym (ap₂ (λ m n. child_on s later m n z) new.0 new.1) ∙ on) in
      inl (below leads.reached z small before, not_itself s words tree base kind z c j leads.reached small before)) (reached_before m n r)

  reached_after : (c : ℕ) (j : Kind) → Reached s words c j → (c ≡ base → Reached s later row larger) × (c ≢ base → Reached s later c j)
  reached_after c j root = (λ same. absurd (not_root s words tree high above y base kind down.reached y_small on_high same), λ other. root)
  reached_after c j (below {base = m} {kind = n} r z small on) =
      let up = reached_after m n r in (
        λ same.
            let at = its_place m n z c j r small on same in
            below (up.1 (λ is. not_high (sym is ∙ at.0))) z small (at_place m n z at),
        λ other. ⊎_elim
            (λ here.
            let kinds = one_kind s words tree base n kind (subst (λ m. Reached s words m n) here r) leads.reached in
            let there = sym (ap₂ (λ m n. child_on s words m n z) here kinds) ∙ on in
            let apart : z ≢ x = λ at. empty-row c j (sym grown.absent ∙ (sym (ap (λ z. child_on s words base kind z) at) ∙ there)) in
            below (up.0 here) z small (grown.rest z small apart ∙ there))
            (λ apart. ⊎_elim
            (λ at. absurd (other (same_base c base j kind (sym on ∙ (child_there s words high above y m n z at ∙ on_high)))))
            (λ same. below (up.1 apart) z small (same ∙ on)) (spot m n z r apart small)) (cases_eq m base),
      )

  row_reached : Reached s later row larger
  row_reached = (reached_after base kind leads.reached).0 refl

  -- the grown row's info
  abbrev word : ℕ
  word = slice_index later (info_at row)

  row_level : (info_of larger word).level ≡ level_in words base kind
  row_level = ap (λ w. (info_of larger w).level) grown.info
      ∙ level_back larger (level_in words base kind) (path_in words base kind) (level_small kind (slice_index words (info_at base)))
      (tree.info base kind leads.reached).0 (path_bytes kind (slice_index words (info_at base)))

  row_path : (info_of larger word).path ≡ path_in words base kind
  row_path = ap (λ w. (info_of larger w).path) grown.info
      ∙ path_back larger (level_in words base kind) (path_in words base kind) (level_small kind (slice_index words (info_at base)))
      (tree.info base kind leads.reached).0 (path_bytes kind (slice_index words (info_at base)))

  row_info : IsInfo larger word
  row_info = (
    ap length row_path ∙ ((tree.info base kind leads.reached).0 ∙ sym row_level),
    grown.info ∙ ap₂ (λ l p. info_word larger l p) (sym row_level) (sym row_path),
  )

  -- what hangs there may
  row_hangs : MayHang above (slice_index words (info_at high)) y larger word
  row_hangs =
      let (lower, begins) = tree.row high base y above kind down.reached y_small on_high in (
        subst (λ n. level_in words high above < n) (sym row_level) lower,
        ap (λ zs. take (level_in words high above + 1) zs)
            row_path ∙ begins,
      )

  child_hangs : (z c : ℕ) (j : Kind) → z < 256 → child_on s words base kind z ≡ Row c j
      → MayHang larger word z j (slice_index words (info_at c))
  child_hangs z c j small on =
      subst₂ (λ l p. (l < level_in words c j) × (take (l + 1) (path_in words c j) ≡ p ++ z ∷ [])) (sym row_level) (sym row_path)
      (tree.row base c z kind j leads.reached small on)

  leaf_hangs : (z k : ℕ) → LeafMayHang kind (slice_index words (info_at base)) z k → LeafMayHang larger word z k
  leaf_hangs z k h = subst₂ (λ l p. take (l + 1) (key_bytes k) ≡ p ++ z ∷ []) (sym row_level) (sym row_path) h

  -- the later tree
  rows_hang : (m c z : ℕ) (n j : Kind) → Reached s later m n → z < 256 → child_on s later m n z ≡ Row c j
      → MayHang n (slice_index later (info_at m)) z j (slice_index later (info_at c))
  rows_hang m c z n j r small on = ⊎_elim
      (λ (old : Reached s words m n × (m ≢ base)). ⊎_elim
      (λ at. new_hangs at (sym on ∙ at_place m n z at) old.0 old.1)
      (λ same.
      let before = sym same ∙ on in
      let stays = same_info c j (below old.0 z small before) (not_base m n z c j old.0 small before on) in
      subst₂ (λ w v. MayHang n w z j v) (sym (same_info m n old.0 old.1)) (sym stays) (tree.row m c z n j old.0 small before))
      (spot m n z old.0 old.1 small))
      (λ (new : (m ≡ row) × (n ≡ larger)).
      let before = row_on z c j small (sym (ap₂ (λ m n. child_on s later m n z) new.0 new.1) ∙ on) in
      let stays = same_info c j (below leads.reached z small before) (not_itself s words tree base kind z c j leads.reached small before) in
      subst₂ (λ m n. MayHang n (slice_index later (info_at m)) z j (slice_index later (info_at c))) (sym new.0) (sym new.1)
      (subst (λ v. MayHang larger word z j v) (sym stays) (child_hangs z c j small before))) (reached_before m n r)
    where
      new_hangs : IsPlace high above y m n z → Row c j ≡ Row row larger → Reached s words m n → m ≢ base
          → MayHang n (slice_index later (info_at m)) z j (slice_index later (info_at c))
      new_hangs (here, kinds, byte) rows old not =
          subst₂ (λ c j. MayHang n (slice_index later (info_at m)) z j (slice_index later (info_at c)))
          (sym (same_base c row j larger rows)) (sym (same_kind c row j larger rows))
          (subst (λ w. MayHang n w z larger word) (sym (same_info m n old not))
          (subst (λ z. MayHang n (slice_index words (info_at m)) z larger word) (sym byte)
          (subst₂ (λ m n. MayHang n (slice_index words (info_at m)) y larger word) (sym here) (sym kinds) row_hangs)))

  leaves_hang : (m z k v : ℕ) (n : Kind) → Reached s later m n → z < 256 → child_on s later m n z ≡ Leaf k v
      → LeafMayHang n (slice_index later (info_at m)) z k
  leaves_hang m z k v n r small on = ⊎_elim
      (λ (old : Reached s words m n × (m ≢ base)). ⊎_elim
      (λ at. absurd (row-leaf row larger k v (sym (at_place m n z at) ∙ on)))
      (λ same. subst (λ w. LeafMayHang n w z k) (sym (same_info m n old.0 old.1)) (tree.leaf m z k v n old.0 small (sym same ∙ on)))
      (spot m n z old.0 old.1 small))
      (λ (new : (m ≡ row) × (n ≡ larger)). subst₂ (λ m n. LeafMayHang n (slice_index later (info_at m)) z k) (sym new.0) (sym new.1)
      (on_row (sym (ap₂ (λ m n. child_on s later m n z) new.0 new.1) ∙ on) (cases_eq z x))) (reached_before m n r)
    where
      on_row : child_on s later row larger z ≡ Leaf k v → (z ≡ x) ⊎ (z ≢ x) → LeafMayHang larger word z k
      on_row there (inl at) =
          let own = same_key k v key value (sym there ∙ (ap (λ z. child_on s later row larger z) at ∙ grown.leaf)) in
          subst₂ (λ z k. LeafMayHang larger word z k) (sym at) (sym own) (leaf_hangs x key (way_leaf s words key base kind x leads))
      on_row there (inr other) = leaf_hangs z k (tree.leaf base z k v kind leads.reached small (sym (grown.rest z small other) ∙ there))

  -- where a row hung before: on the byte, if it hangs on the grown row
  abbrev Hung : ℕ → Kind → ℕ → ℕ → Kind → Type 0
  Hung m n z c j = (IsPlace high above y m n z × (c ≡ row))
      ⊎ ((Reached s words m n × (m ≢ base) × (child_on s words m n z ≡ Row c j)) ⊎ ((m ≡ row) × (child_on s words base kind z ≡ Row c j)))

  hung : (m : ℕ) (n : Kind) (z c : ℕ) (j : Kind) → Reached s later m n → z < 256 → child_on s later m n z ≡ Row c j → Hung m n z c j
  hung m n z c j r small on = ⊎_elim
      (λ (old : Reached s words m n × (m ≢ base)). ⊎_elim
      (λ at. inl (at, same_base c row j larger (sym on ∙ at_place m n z at)))
      (λ same. inr (inl (old.0, old.1, sym same ∙ on))) (spot m n z old.0 old.1 small))
      (λ (new : (m ≡ row) × (n ≡ larger)).
      inr (inr (new.0, row_on z c j small (sym (ap₂ (λ m n. child_on s later m n z) new.0 new.1) ∙ on)))) (reached_before m n r)

  hang_once : (m p z t c : ℕ) (n q j : Kind) → Reached s later m n → Reached s later p q → z < 256 → t < 256
      → child_on s later m n z ≡ Row c j
      → child_on s later p q t ≡ Row c j → (m ≡ p) × (z ≡ t)
  hang_once m p z t c n q j r u small other on there = go (hung m n z c j r small on) (hung p q t c j u other there)
    where
      go : Hung m n z c j → Hung p q t c j → (m ≡ p) × (z ≡ t)
      go (inl (at, new)) (inl (beside, also)) = (at.0 ∙ sym beside.0, at.2 ∙ sym beside.2)
      go (inl (at, new)) (inr (inl (old, not, before))) = absurd (not_row p q t c j old other before new)
      go (inl (at, new)) (inr (inr (is, before))) = absurd (not_row base kind t c j leads.reached other before new)
      go (inr (inl (old, not, before))) (inl (beside, also)) = absurd (not_row m n z c j old small before also)
      go (inr (inl (old, not, before))) (inr (inl (old2, not2, before2))) = tree.once m p z t c n q j old old2 small other before before2
      go (inr (inl (old, not, before))) (inr (inr (is, before2))) =
          absurd (not (tree.once m base z t c n kind j old leads.reached small other before before2).0)
      go (inr (inr (is, before))) (inl (beside, also)) = absurd (not_row base kind z c j leads.reached small before also)
      go (inr (inr (is, before))) (inr (inl (old2, not2, before2))) =
          absurd (not2 (tree.once p base t z c q kind j old2 leads.reached other small before2 before).0)
      go (inr (inr (is, before))) (inr (inr (is2, before2))) =
          (is ∙ sym is2, (tree.once base base z t c kind kind j leads.reached leads.reached small other before before2).1)

  later_tree : IsTree s later
  later_tree = record {
    root = same_info (root_base s) Full root (not_root s words tree high above y base kind down.reached y_small on_high) ∙ tree.root;
    form = λ c j r. ⊎_elim
        (λ (old : Reached s words c j × (c ≢ base)). formed c j old.0 old.1)
        (λ (new : (c ≡ row) × (j ≡ larger)). subst₂ (λ c j. HasForm later c j) (sym new.0) (sym new.1) grown.form) (reached_before c j r);
    info = λ c j r. ⊎_elim
        (λ (old : Reached s words c j × (c ≢ base)). subst (λ w. IsInfo j w) (sym (same_info c j old.0 old.1)) (tree.info c j old.0))
        (λ (new : (c ≡ row) × (j ≡ larger)). subst₂ (λ c j. IsInfo j (slice_index later (info_at c))) (sym new.0) (sym new.1) row_info)
        (reached_before c j r);
    row = rows_hang;
    leaf = λ m z k v n r small on. leaves_hang m z k v n r small on;
    once = hang_once;
  }

  rows_in_place : HasRowInPlace s words later base row larger
  rows_in_place c j = (
    reached_before c j,
    λ either. ⊎_elim
        (λ (old : Reached s words c j × (c ≢ base)). (reached_after c j old.0).1 old.1)
        (λ (new : (c ≡ row) × (j ≡ larger)). subst₂ (λ c j. Reached s later c j) (sym new.0) (sym new.1) row_reached) either,
  )

  other_leaves : HasOtherLeaves s words later key
  other_leaves k v other = (before, after)
    where
      before : Hangs s later k v → Hangs s words k v
      before h = ⊎_elim
          (λ (old : Reached s words h.base h.kind × (h.base ≢ base)). record {
            base = h.base;
            kind = h.kind;
            reached = old.0;
            byte = h.byte;
            is_byte = h.is_byte;
            leaf = ⊎_elim
                (λ at. absurd (row-leaf row larger k v (sym (at_place h.base h.kind h.byte at) ∙ h.leaf)))
                (λ same. sym same ∙ h.leaf) (spot h.base h.kind h.byte old.0 old.1 h.is_byte);
          })
          (λ (new : (h.base ≡ row) × (h.kind ≡ larger)). record {
            base = base;
            kind = kind;
            reached = leads.reached;
            byte = h.byte;
            is_byte = h.is_byte;
            leaf = ⊎_elim (λ own. absurd (other own)) (λ there. there)
                (leaf_on h.byte k v h.is_byte (sym (ap₂ (λ m n. child_on s later m n h.byte) new.0 new.1) ∙ h.leaf));
          }) (reached_before h.base h.kind h.reached)

      on_row : (h : Hangs s words k v) → h.base ≡ base → Hangs s later k v
      on_row h here =
          let kinds = one_kind s words tree base h.kind kind (subst (λ b. Reached s words b h.kind) here h.reached) leads.reached in
          let there = sym (ap₂ (λ m n. child_on s words m n h.byte) here kinds) ∙ h.leaf in
          let apart : h.byte ≢ x = λ at. empty-leaf k v (sym grown.absent ∙ (sym (ap (λ z. child_on s words base kind z) at) ∙ there)) in
          record {
            base = row;
            kind = larger;
            reached = row_reached;
            byte = h.byte;
            is_byte = h.is_byte;
            leaf = grown.rest h.byte h.is_byte apart ∙ there;
          }

      after : Hangs s words k v → Hangs s later k v
      after h = ⊎_elim (λ here. on_row h here)
          (λ apart. record {
            base = h.base;
            kind = h.kind;
            reached = (reached_after h.base h.kind h.reached).1 apart;
            byte = h.byte;
            is_byte = h.is_byte;
            leaf = ⊎_elim
                (λ at. absurd
                (row-leaf base kind k v (sym on_high ∙ (sym (child_there s words high above y h.base h.kind h.byte at) ∙ h.leaf))))
                (λ same. same ∙ h.leaf) (spot h.base h.kind h.byte h.reached apart h.is_byte);
          }) (cases_eq h.base base)

  own_hangs : Hangs s later key value
  own_hangs = record { base = row; kind = larger; reached = row_reached; byte = x; is_byte = x_small; leaf = grown.leaf }

pub grown-rows-are-hung : GrownRowsAreHung
grown-rows-are-hung s words later m key value high above y base kind x row larger tree means down on_high leads grown change = (
  later_tree s words later key value high above y base kind x row larger tree down on_high leads grown change,
  rows_in_place s words later key value high above y base kind x row larger tree down on_high leads grown change,
  means_put s words later m key means
      (other_leaves s words later key value high above y base kind x row larger tree down on_high leads grown change) value
      (later_tree s words later key value high above y base kind x row larger tree down on_high leads grown change)
      (own_hangs s words later key value high above y base kind x row larger tree down on_high leads grown change),
)
