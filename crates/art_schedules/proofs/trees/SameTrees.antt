-- Tables that say the same of each reached row.
use Rattle.art_schedules.proofs.Common.{ℕ, List, sym, ◌∙◌, Shape, Hangs, IsTree, SameTreesAreOne}
use Rattle.art_schedules.specs.trees.Trees.{SameTree}
use Rattle.art_schedules.proofs.trees.SameRows.{child_same, form_same, info_same}
use Rattle.art_schedules.proofs.trees.KeptRows.{KeepsRows, reached_before, reached_after, kept_tree}

module _ (s : Shape) (words later : List ℕ) (tree : IsTree s words) (same : SameTree s words later) where
  rows_kept : KeepsRows s words later
  rows_kept = record {
    formed = λ b k r. form_same words later b k (same b k r) (tree.form b k r);
    same = λ b k r. info_same words later b k (same b k r);
    earlier = λ b k x c j r byte on. sym (child_same words later b s k x byte (same b k r)) ∙ on;
    stays = λ b k x c j r byte on. child_same words later b s k x byte (same b k r) ∙ on;
    leaves = λ b k x key value r byte on. tree.leaf b x key value k r byte (sym (child_same words later b s k x byte (same b k r)) ∙ on);
  }

  hangs_before : (key value : ℕ) → Hangs s later key value → Hangs s words key value
  hangs_before key value h =
      let old = reached_before s words later tree rows_kept h.base h.kind h.reached in
      record {
        base = h.base;
        kind = h.kind;
        reached = old;
        byte = h.byte;
        is_byte = h.is_byte;
        leaf = sym (child_same words later h.base s h.kind h.byte h.is_byte (same h.base h.kind old)) ∙ h.leaf;
      }

  hangs_after : (key value : ℕ) → Hangs s words key value → Hangs s later key value
  hangs_after key value h = record {
    base = h.base;
    kind = h.kind;
    reached = reached_after s words later tree rows_kept h.base h.kind h.reached;
    byte = h.byte;
    is_byte = h.is_byte;
    leaf = child_same words later h.base s h.kind h.byte h.is_byte (same h.base h.kind h.reached) ∙ h.leaf;
  }

pub same-trees : SameTreesAreOne
same-trees s words later m tree means same = record {
  tree = kept_tree s words later tree (rows_kept s words later tree same);
  rows = λ b k. (
    reached_before s words later tree (rows_kept s words later tree same) b k,
    reached_after s words later tree (rows_kept s words later tree same) b k,
  );
  means = record {
    rising = means.rising;
    all = λ key value. (
      λ h. hangs_after s words later tree same key value ((means.all key value).0 h),
      λ h. (means.all key value).1 (hangs_before s words later tree same key value h),
    );
  };
}
