-- Tables whose reached rows have the same infos and the same rows on their bytes: the same rows are reached, and the words are a tree
-- again.
use Rattle.art_schedules.proofs.Common.{◌≡◌, ℕ, ◌<◌, List, sym, ◌∙◌, subst, Shape, Kind, Full, Leaf, info_at, root_base, Reached, root}
use Rattle.std.proofs.Common.{slice_index}
use Rattle.art_schedules.proofs.Common.{below, child_on, HasForm, IsTree}
use Rattle.art_rows.specs.declared.table.Child.TheVariants.{Row}
use Rattle.art_schedules.proofs.trees.Infos.{IsInfo, MayHang, LeafMayHang}

-- the later table has the reached rows' infos and the rows on their bytes, rows in form and leaves that may hang where they hang
pub record KeepsRows (s : Shape) (words later : List ℕ) : Type 0 where
  pub formed : (b : ℕ) (k : Kind) → Reached s words b k → HasForm later b k
  pub same : (b : ℕ) (k : Kind) → Reached s words b k → slice_index later (info_at b) ≡ slice_index words (info_at b)
  pub earlier : (b : ℕ) (k : Kind) (x c : ℕ) (j : Kind) → Reached s words b k → x < 256 → child_on s later b k x ≡ Row c j
      → child_on s words b k x ≡ Row c j
  pub stays : (b : ℕ) (k : Kind) (x c : ℕ) (j : Kind) → Reached s words b k → x < 256 → child_on s words b k x ≡ Row c j
      → child_on s later b k x ≡ Row c j
  pub leaves : (b : ℕ) (k : Kind) (x key value : ℕ) → Reached s words b k → x < 256 → child_on s later b k x ≡ Leaf key value
      → LeafMayHang k (slice_index words (info_at b)) x key

module _ (s : Shape) (words later : List ℕ) (tree : IsTree s words) (keeps : KeepsRows s words later) where
  pub reached_before : (b : ℕ) (k : Kind) → Reached s later b k → Reached s words b k
  reached_before b k root = root
  reached_before b k (below {base = c} {kind = j} r x byte on) =
      let old = reached_before c j r in
      below old x byte (keeps.earlier c j x b k old byte on)

  pub reached_after : (b : ℕ) (k : Kind) → Reached s words b k → Reached s later b k
  reached_after b k root = root
  reached_after b k (below {base = c} {kind = j} r x byte on) = below (reached_after c j r) x byte (keeps.stays c j x b k r byte on)

  rows_hang : (b m x : ℕ) (k j : Kind) → Reached s later b k → x < 256 → child_on s later b k x ≡ Row m j
      → MayHang k (slice_index later (info_at b)) x j (slice_index later (info_at m))
  rows_hang b m x k j r byte on =
      let old = reached_before b k r in
      let there = keeps.earlier b k x m j old byte on in
      subst (λ w. MayHang k w x j (slice_index later (info_at m))) (sym (keeps.same b k old))
      (subst (λ v. MayHang k (slice_index words (info_at b)) x j v) (sym (keeps.same m j (below old x byte there)))
      (tree.row b m x k j old byte there))

  pub kept_tree : IsTree s later
  kept_tree = record {
    root = keeps.same (root_base s) Full root ∙ tree.root;
    form = λ b k r. keeps.formed b k (reached_before b k r);
    info = λ b k r.
        let old = reached_before b k r in
        subst (IsInfo k) (sym (keeps.same b k old)) (tree.info b k old);
    row = rows_hang;
    leaf = λ b x key value k r byte on.
        let old = reached_before b k r in
        subst (λ w. LeafMayHang k w x key) (sym (keeps.same b k old)) (keeps.leaves b k x key value old byte on);
    once = λ a b x y m ka kb j ra rb byte other here there.
        let old = reached_before a ka ra in
        let beside = reached_before b kb rb in
        tree.once a b x y m ka kb j old beside byte other (keeps.earlier a ka x m j old byte here)
        (keeps.earlier b kb y m j beside other there);
  }
