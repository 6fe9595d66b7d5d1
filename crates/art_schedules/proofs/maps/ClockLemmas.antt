-- The clock is no word of a row: where it alone is set, a table at rest stays at rest and means the same map.
use Rattle.art_schedules.proofs.Common.{◌≡◌, ℕ, ◌+◌, ◌<◌, ◌≤◌, List, refl, sym, ap, ◌∙◌, subst, arith, length-set, get_or-set_other}
use Rattle.art_schedules.proofs.Common.{All-set, Contents, Shape, Kind, clock, claims_of, base_of, is_locked, is_obsolete, two-words, Means}
use Rattle.art_schedules.proofs.Common.{IsAtRest, HasRows, SameTreesAreOne}
use Rattle.std.proofs.Common.{slice_set, slice_index}
use Rattle.art_rows.proofs.KindLemmas.{claims-some}
use Rattle.art_schedules.proofs.alone.PlaceLemmas.{Sits, sits-inside, kind_at-sits}
use Rattle.art_schedules.proofs.alone.LikeLemmas.{sits}

-- more claims may have been made
pub rest-more : (s : Shape) (n k : ℕ) (words : List ℕ) → n ≤ k → IsAtRest s n words → IsAtRest s k words
rest-more s n k words le rest = record {
  long = rest.long;
  small = rest.small;
  unlocked = rest.unlocked;
  tree = rest.tree;
  live = rest.live;
  claims = λ kind. omega (arith, le, rest.claims kind);
  claimed = rest.claimed;
  fresh = rest.fresh;
}

module _ (s : Shape) (n : ℕ) (words : List ℕ) (rest : IsAtRest s n words) (value : ℕ) where
  abbrev pub set : List ℕ
  set = slice_set words clock value

  -- each other word is the same
  same : (w : ℕ) → 0 < w → slice_index set w ≡ slice_index words w
  same w behind = get_or-set_other words clock w value 0 (λ is. omega (arith, is, behind))

  row-behind : (base : ℕ) (kind : Kind) → Sits s base kind → 0 < base
  row-behind base kind x = omega (arith, (sits-inside s base 0 kind x (omega (arith, two-words kind))).0)

  pub set-rows : SameTreesAreOne → (m : Contents) → Means s words m → HasRows s words set m
  set-rows same-trees m means = same-trees s words set m rest.tree means (λ base kind reached j low high.
      same (base + j) (omega (arith, low)))

  pub set-rests : (m : Contents) → HasRows s words set m → value < 18446744073709551616 → IsAtRest s n set
  set-rests m rows small = record {
    long = length-set words clock value ∙ rest.long;
    small = All-set (λ w. w < 18446744073709551616) words clock value small rest.small;
    unlocked = λ base kind is. ap is_locked (same base (row-behind base kind (kind_at-sits s base kind is))) ∙ rest.unlocked base kind is;
    tree = rows.tree;
    live = λ base kind r.
        let old = (rows.rows base kind).0 r in
        ap is_obsolete (same base (row-behind base kind (sits s n words rest old))) ∙ rest.live base kind old;
    claims = λ kind. subst (λ c. c ≤ n) (sym (same-claims kind)) (rest.claims kind);
    claimed = λ base kind r.
        let x = rest.claimed base kind ((rows.rows base kind).0 r) in
        record { number = x.number; claimed = subst (λ c. x.number < c) (sym (same-claims kind)) x.claimed; within = x.within; is = x.is };
    fresh = λ kind number high low w from to.
        same w (omega (arith, from, row-behind (base_of s kind number) kind (record { number = number; low = low; is = refl })))
        ∙ rest.fresh kind number (subst (λ c. c ≤ number) (same-claims kind) high) low w from to;
  }
    where
      same-claims : (kind : Kind) → slice_index set (claims_of kind) ≡ slice_index words (claims_of kind)
      same-claims kind = same (claims_of kind) (claims-some kind)
