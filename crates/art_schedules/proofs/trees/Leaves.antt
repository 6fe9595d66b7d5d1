-- One leaf of one row is put or taken away.
use Rattle.art_schedules.proofs.Common.{◌≡◌, ℕ, List, refl, sym, subst, ◌∙◌, ⊎_elim, ◌↔◌, Shape, Kind, Child, Empty, Leaf, info_at}
use Rattle.std.proofs.Common.{slice_index}
use Rattle.art_schedules.proofs.Common.{Reached, Hangs, child_on, IsTree, LeadsTo, IsFree, ChangesAt, LeavesArePut, LeavesAreRemoved}
use Rattle.art_rows.specs.declared.table.Child.TheVariants.{Row}
use Rattle.art_schedules.proofs.trees.Infos.{LeafMayHang}
use Rattle.art_schedules.proofs.trees.KeptRows.{KeepsRows, reached_before, reached_after, kept_tree}
use Rattle.art_schedules.proofs.trees.Ways.{found_at, empty-leaf, empty-row, row-leaf, same_key}
use Rattle.art_schedules.proofs.trees.Changes.{elsewhere, infos_stay, forms_stay, child_there, way_byte, way_leaf, way_later}
use Rattle.art_schedules.proofs.trees.NewMaps.{HasOtherLeaves, means_put, means_removed}

-- no row, and no leaf of another key
abbrev IsOwn : ℕ → Child → Type 0
IsOwn key child = ((c : ℕ) (j : Kind) → child ≡ Row c j → ⊥) × ((k v : ℕ) → child ≡ Leaf k v → k ≡ key)

own_empty : (key : ℕ) (child : Child) → child ≡ Empty → IsOwn key child
own_empty key child is = (λ c j row. empty-row c j (sym is ∙ row), λ k v leaf. absurd (empty-leaf k v (sym is ∙ leaf)))

own_leaf : (key value : ℕ) (child : Child) → child ≡ Leaf key value → IsOwn key child
own_leaf key value child is = (λ c j row. row-leaf c j key value (sym row ∙ is), λ k v leaf. same_key k v key value (sym leaf ∙ is))

module _ (s : Shape) (words later : List ℕ) (key base : ℕ) (kind : Kind) (x : ℕ) (child : Child) (tree : IsTree s words)
    (leads : LeadsTo s words key base kind x) (free : IsOwn key (child_on s words base kind x))
    (change : ChangesAt s words later base kind x child)
    (own : IsOwn key child) where
  rows_kept : KeepsRows s words later
  rows_kept = record {
    formed = forms_stay s words later base kind x child tree leads.reached change;
    same = infos_stay s words later base kind x child tree leads.reached change;
    earlier = λ b k y c j r byte on. ⊎_elim
        (λ at. absurd (own.0 c j (sym change.here ∙ (sym (child_there s later base kind x b k y at) ∙ on))))
        (λ same. sym same ∙ on) (elsewhere s words later base kind x child tree leads.reached change b k y r byte);
    stays = λ b k y c j r byte on. ⊎_elim
        (λ at. absurd (free.0 c j (sym (child_there s words base kind x b k y at) ∙ on)))
        (λ same. same ∙ on) (elsewhere s words later base kind x child tree leads.reached change b k y r byte);
    leaves = λ b k y other v r byte on. ⊎_elim
        (λ at. leaf_there b k y at other (own.1 other v (sym change.here ∙ (sym (child_there s later base kind x b k y at) ∙ on))))
        (λ same. tree.leaf b y other v k r byte (sym same ∙ on))
        (elsewhere s words later base kind x child tree leads.reached change b k y r byte);
  }
    where
      leaf_there : (b : ℕ) (k : Kind) (y : ℕ) → (b ≡ base) × (k ≡ kind) × (y ≡ x) → (other : ℕ) → other ≡ key
          → LeafMayHang k (slice_index words (info_at b)) y other
      leaf_there b k y (here, kinds, byte) other same =
          subst (λ b. LeafMayHang k (slice_index words (info_at b)) y other) (sym here)
          (subst (λ k. LeafMayHang k (slice_index words (info_at base)) y other) (sym kinds)
          (subst (λ y. LeafMayHang kind (slice_index words (info_at base)) y other) (sym byte)
          (subst (λ other. LeafMayHang kind (slice_index words (info_at base)) x other) (sym same)
          (way_leaf s words key base kind x leads))))

  other_leaves : HasOtherLeaves s words later key
  other_leaves k v other = (before, after)
    where
      before : Hangs s later k v → Hangs s words k v
      before h =
          let old = reached_before s words later tree rows_kept h.base h.kind h.reached in
          record {
            base = h.base;
            kind = h.kind;
            reached = old;
            byte = h.byte;
            is_byte = h.is_byte;
            leaf = ⊎_elim
                (λ at. absurd
                (other (own.1 k v (sym change.here ∙ (sym (child_there s later base kind x h.base h.kind h.byte at) ∙ h.leaf)))))
                (λ same. sym same ∙ h.leaf) (elsewhere s words later base kind x child tree leads.reached change h.base h.kind
                h.byte old h.is_byte);
          }

      after : Hangs s words k v → Hangs s later k v
      after h = record {
        base = h.base;
        kind = h.kind;
        reached = reached_after s words later tree rows_kept h.base h.kind h.reached;
        byte = h.byte;
        is_byte = h.is_byte;
        leaf = ⊎_elim
            (λ at. absurd (other (free.1 k v (sym (child_there s words base kind x h.base h.kind h.byte at) ∙ h.leaf))))
            (λ same. same ∙ h.leaf) (elsewhere s words later base kind x child tree leads.reached change h.base h.kind h.byte
            h.reached h.is_byte);
      }

  later_tree : IsTree s later
  later_tree = kept_tree s words later tree rows_kept

  same_rows : (b : ℕ) (k : Kind) → Reached s later b k ↔ Reached s words b k
  same_rows b k = (reached_before s words later tree rows_kept b k, reached_after s words later tree rows_kept b k)

-- a free byte has no row and no leaf of another key
free_own : (s : Shape) (words : List ℕ) (key base : ℕ) (kind : Kind) (x : ℕ) → IsFree s words key base kind x
    → IsOwn key (child_on s words base kind x)
free_own s words key base kind x free = ⊎_elim
    (λ empty. own_empty key (child_on s words base kind x) empty) (λ leaf. own_leaf key leaf.0 (child_on s words base kind x) leaf.1) free

pub leaves-are-put : LeavesArePut
leaves-are-put s words later m key value base kind x tree means leads free change =
    let own = free_own s words key base kind x free in
    let leaf = own_leaf key value (Leaf key value) refl in
    let after = later_tree s words later key base kind x (Leaf key value) tree leads own change leaf in
    let rows = same_rows s words later key base kind x (Leaf key value) tree leads own change leaf in
    record {
      tree = after;
      rows = rows;
      means = means_put s words later m key means (other_leaves s words later key base kind x (Leaf key value) tree leads own change leaf)
          value after (record {
            base = base;
            kind = kind;
            reached = (rows base kind).1 leads.reached;
            byte = x;
            is_byte = way_byte s words key base kind x leads;
            leaf = change.here;
          });
    }

pub leaves-are-removed : LeavesAreRemoved
leaves-are-removed s words later m key base kind x tree means leads free change =
    let own = free_own s words key base kind x free in
    let none = own_empty key Empty refl in
    let after = later_tree s words later key base kind x Empty tree leads own change none in
    let rows = same_rows s words later key base kind x Empty tree leads own change none in
    let way = way_later s words later key base kind x leads ((rows base kind).1 leads.reached) change.info in
    record {
      tree = after;
      rows = rows;
      means = means_removed s words later m key means (other_leaves s words later key base kind x Empty tree leads own change none)
          (λ value h. ⊎_elim
          (λ leaf. empty-leaf key value (sym change.here ∙ leaf))
          (λ row. empty-row row.0 row.1 (sym change.here ∙ row.2)) (found_at s later after key value base kind x way h));
    }
