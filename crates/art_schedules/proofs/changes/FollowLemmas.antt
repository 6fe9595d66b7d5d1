-- If the infos of rows stay, so do the ways that lead to them; and trees whose rows say the same.
use Rattle.art_schedules.proofs.Common.{◌≡◌, ◌⊎◌, inl, inr, ℕ, ◌+◌, ◌≤◌, List, refl, sym, ap, ◌∙◌, arith, ◌↔◌, None, Contents, Shape, Kind}
use Rattle.art_schedules.proofs.alone.LikeLemmas.{sits}
use Rattle.art_schedules.proofs.alone.PlaceLemmas.{Sits, sits-inside, kind_at-sits}
use Rattle.art_schedules.proofs.Common.{base_of, info_at, info_of, is_locked, is_obsolete, two-words, Reached, Means, IsAtRest, LeadsTo, HasRows}
use Rattle.art_schedules.proofs.Common.{SameTreesAreOne, IsClaimed, Follows, KeptTreesFollow, IsGoneBy}
use Rattle.art_schedules.proofs.Common.{ComesInBy}
use Rattle.std.proofs.Common.{slice_index}
use Rattle.art_schedules.proofs.trees.Changes.{way_later}
use Rattle.art_schedules.specs.changes.Laws.{LowWordsKeep}

-- a tree at rest of these rows, with their infos, follows
pub follows-by : (s : Shape) (n : ℕ) (calm later : List ℕ) (pairs : Contents) (gone : ℕ → Type 0) (fresh : ℕ → Kind → Type 0)
    → IsAtRest s n later
    → Means s later pairs → ((b : ℕ) (k : Kind) → Reached s later b k ↔ ((Reached s calm b k × (gone b → ⊥)) ⊎ fresh b k))
    → ((b : ℕ) (k : Kind) → Reached s calm b k → slice_index later (info_at b) ≡ slice_index calm (info_at b))
    → Follows s n calm later pairs gone fresh
follows-by s n calm later pairs gone fresh rests means rows infos = record {
  rests = rests;
  means = means;
  rows = rows;
  info = infos;
  level = λ b k r. ap (λ w. (info_of k w).level) (infos b k r);
  path = λ b k r. ap (λ w. (info_of k w).path) (infos b k r);
  ways = λ key b k x leads not.
      way_later s calm later key b k x leads ((rows b k).1 (inl (leads.reached, not))) (infos b k leads.reached);
  ways_before = λ key b k x leads. before key b k x leads ((rows b k).0 leads.reached);
}
  where
    before : (key b : ℕ) (k : Kind) (x : ℕ) → LeadsTo s later key b k x → (Reached s calm b k × (gone b → ⊥)) ⊎ fresh b k
        → LeadsTo s calm key b k x ⊎ fresh b k
    before key b k x leads (inl (r, not)) = inl (way_later s later calm key b k x leads r (sym (infos b k r)))
    before key b k x leads (inr new) = inr new

-- ---- trees whose rows say the same

pub kept-trees-follow : SameTreesAreOne → KeptTreesFollow
kept-trees-follow trees s n claims calm later m rest means keeps few =
    follows-by s claims calm later m (IsGoneBy None) (ComesInBy None) rests hung.means
    (λ b k. (λ r. inl ((hung.rows b k).0 r, λ h. h), λ e. back b k e))
    (λ b k r. keeps.same b k r 1 (omega arith) (two-words k))
  where
    hung : HasRows s calm later m
    hung = trees s calm later m rest.tree means keeps.same

    back : (b : ℕ) (k : Kind) → (Reached s calm b k × (IsGoneBy None b → ⊥)) ⊎ ComesInBy None b k → Reached s later b k
    back b k (inl (r, not)) = (hung.rows b k).1 r
    back b k (inr none) = absurd none

    claimed : (base : ℕ) (kind : Kind) → Reached s calm base kind
        → IsClaimed s later base kind
    claimed base kind r =
        let x = rest.claimed base kind r in
        record { number = x.number; claimed = omega (arith, x.claimed, keeps.claims kind); within = x.within; is = x.is }

    rests : IsAtRest s claims later
    rests = record {
      long = keeps.long ∙ rest.long;
      small = keeps.small;
      unlocked = keeps.unlocked;
      tree = hung.tree;
      live = λ b k r. keeps.live b k ((hung.rows b k).0 r);
      claims = few;
      claimed = λ b k r. claimed b k ((hung.rows b k).0 r);
      fresh = keeps.fresh;
    }

pub low-words-keep : LowWordsKeep
low-words-keep s n calm later rest long small claims same = record {
  long = long;
  small = small;
  claims = claims;
  same = λ b k r j low high. same (b + j) (omega (arith, behind b k (sits s n calm rest r)));
  unlocked = λ b k is. ap is_locked (same b (behind b k (kind_at-sits s b k is))) ∙ rest.unlocked b k is;
  live = λ b k r. ap is_obsolete (same b (behind b k (sits s n calm rest r))) ∙ rest.live b k r;
  fresh = λ k number above low word from to.
      same word (omega (arith, behind (base_of s k number) k (record { number = number; low = low; is = refl }), from))
      ∙ rest.fresh k number (omega (arith, above, claims k)) low word from to;
}
  where
    behind : (b : ℕ) (k : Kind) → Sits s b k → 5 ≤ b
    behind b k x = (sits-inside s b 0 k x (omega (arith, two-words k))).0
