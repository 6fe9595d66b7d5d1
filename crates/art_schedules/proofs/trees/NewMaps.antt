-- The map of a table on which one key's leaf is another than before.
use Rattle.art_schedules.proofs.Common.{ℕ, List, ◌++◌, sym, subst, subst₂, ⊎_elim, ◌↔◌, cases_eq, Shape, Contents, put, above, Hangs, Means}
use Rattle.std.specs.Prelude.{◌≢◌}
use Rattle.art_schedules.proofs.Common.{IsTree}
use Rattle.map_object.specs.MapObject.{below}
use Rattle.std.proofs.Common.{Contains}
use Rattle.art_schedules.proofs.trees.MapValues.{put_at, put_here, put_other, left_out, left_in, rising_with, rising_without}
use Rattle.art_schedules.proofs.trees.Ways.{one_leaf}

-- the leaves of the other keys are the same
abbrev pub HasOtherLeaves : Shape → List ℕ → List ℕ → ℕ → Type 0
HasOtherLeaves s words later key = (k v : ℕ) → k ≢ key → Hangs s later k v ↔ Hangs s words k v

module _ (s : Shape) (words later : List ℕ) (m : Contents) (key : ℕ) (means : Means s words m)
    (others : HasOtherLeaves s words later key) where
  -- the key has a leaf,
  pub means_put : (value : ℕ) → IsTree s later → Hangs s later key value → Means s later (put key value m)
  means_put value tree here = record {
    rising = rising_with m key value means.rising;
    all = λ k v. (
      λ is. ⊎_elim
          (λ same. subst₂ (λ k v. Hangs s later k v) (sym same.0) (sym same.1) here)
          (λ other. (others k v other.0).1 ((means.all k v).0 other.1)) (put_at m key value k v is),
      λ h. ⊎_elim
          (λ same. subst₂ (λ k v. Contains (put key value m) (k, v)) (sym same)
          (one_leaf s later tree key value v here (subst (λ k. Hangs s later k v) same h)) (put_here m key value))
          (λ other. put_other m key value k v other ((means.all k v).1 ((others k v other).0 h))) (cases_eq k key),
    );
  }

  -- the key has no leaf
  pub means_removed : ((value : ℕ) → Hangs s later key value → ⊥) → Means s later (below key m ++ above key m)
  means_removed none = record {
    rising = rising_without m key means.rising;
    all = λ k v. (
      λ is.
          let (other, kept) = left_out m key k v is in
          (others k v other).1 ((means.all k v).0 kept),
      λ h. ⊎_elim
          (λ same. absurd (none v (subst (λ k. Hangs s later k v) same h)))
          (λ other. left_in m key k v other ((means.all k v).1 ((others k v other).0 h))) (cases_eq k key),
    );
  }
