-- Pairs that are sorted and deduplicated rise, each once.
use Rattle.std.proofs.Common.{◌≡◌, ℕ, get_or, ◌<◌, Bool, true, List, refl, ap, ap₂, sym, ◌∙◌, inl, inr, true≢false, Ordering, Less, Equal, Greater, is_lt, is_eq, arith}
use Rattle.std.proofs.Common.{IsSorted}
use Rattle.std.specs.Prelude.{◌==◌, ◌&&◌, ◌↔◌, false, AllPairs, Contains}
use Rattle.std.specs.Cmp.{IsTotalOrder, IsEquivalence}
use Rattle.std.specs.List.{dedup}
use Rattle.std.specs.Ordering.{MatchOrdering, eq_by_cmp, nat_cmp, ordering_then}
use Rattle.std.proofs.lemmas.Bool.{eqb-true, eq-eqb}
use Rattle.std.proofs.lemmas.Bool.Decides.{nat_tests}
use Rattle.std.proofs.lemmas.Cmp.{ranked, nat_cmp_total, nat_eq_equiv, on_total, then_total, on_equiv, and_equiv}
use Rattle.std.proofs.lemmas.List.Kept.{Contains-dedup, Contains-from_dedup, IsStrictlySortedBy-dedup}
use Rattle.std.proofs.lemmas.Map.Keys.{Less-from_sorted}
use Rattle.explain_reads_from.specs.External.{IsBelow}

-- how two pairs are compared: by key, then by value
abbrev pair_cmp : ℕ × ℕ → ℕ × ℕ → Ordering
pair_cmp p q = ordering_then (nat_cmp p.0 q.0) (nat_cmp p.1 q.1)

abbrev pair_eq : ℕ × ℕ → ℕ × ℕ → Bool
pair_eq p q = p.0 == q.0 && p.1 == q.1

pair_cmp_total : IsTotalOrder pair_cmp
pair_cmp_total = then_total (on_total (λ (t : ℕ × ℕ). t.0) nat_cmp_total) (on_total (λ (t : ℕ × ℕ). t.1) nat_cmp_total)

pair_eq_equiv : IsEquivalence pair_eq
pair_eq_equiv = and_equiv (on_equiv (λ (t : ℕ × ℕ). t.0) nat_eq_equiv) (on_equiv (λ (t : ℕ × ℕ). t.1) nat_eq_equiv)

-- two pairs are the same if neither key nor value differs
number_ties : (m n : ℕ) (o : Ordering) → MatchOrdering o (m < n) (m ≡ n) (n < m) → (m == n) ≡ is_eq o
number_ties m n Less is = grind (arith, nat_tests)
number_ties m n Equal is = eq-eqb m n is
number_ties m n Greater is = grind (arith, nat_tests)

both_tied : (a b : Ordering) → (is_eq a && is_eq b) ≡ is_eq (ordering_then a b)
both_tied Less b = refl
both_tied Equal b = refl
both_tied Greater b = refl

pair_ties : (p q : ℕ × ℕ) → pair_eq p q ≡ eq_by_cmp pair_cmp p q
pair_ties p q =
    ap₂ (λ x y. x && y) (number_ties p.0 q.0 (nat_cmp p.0 q.0) (ranked p.0 q.0 _ refl))
    (number_ties p.1 q.1 (nat_cmp p.1 q.1) (ranked p.1 q.1 _ refl))
    ∙ both_tied (nat_cmp p.0 q.0) (nat_cmp p.1 q.1)

both_hold : (a b : Bool) → (a && b) ≡ true → (a ≡ true) × (b ≡ true)
both_hold true true is = (refl, refl)
both_hold true false is = absurd (true≢false (sym is))
both_hold false b is = absurd (true≢false (sym is))

same_pair : (p q : ℕ × ℕ) → pair_eq p q ≡ true → p ≡ q
same_pair p q is =
    let (key, value) = both_hold (p.0 == q.0) (p.1 == q.1) is in
    ap₂ (λ (k v : ℕ). (k, v)) (eqb-true p.0 q.0 key) (eqb-true p.1 q.1 value)

-- one that is less comes before
below_by : (p q : ℕ × ℕ) (a b : Ordering) → MatchOrdering a (p.0 < q.0) (p.0 ≡ q.0) (q.0 < p.0)
    → MatchOrdering b (p.1 < q.1) (p.1 ≡ q.1) (q.1 < p.1) → ordering_then a b ≡ Less → IsBelow p q
below_by p q Less b keys values less = inl keys
below_by p q Equal Less keys values less = inr (keys, values)
below_by p q Equal Equal keys values less = absurd (true≢false (ap is_lt (sym less)))
below_by p q Equal Greater keys values less = absurd (true≢false (ap is_lt (sym less)))
below_by p q Greater b keys values less = absurd (true≢false (ap is_lt (sym less)))

below_from : (p q : ℕ × ℕ) → pair_cmp p q ≡ Less → IsBelow p q
below_from p q =
    below_by p q (nat_cmp p.0 q.0) (nat_cmp p.1 q.1) (ranked p.0 q.0 (nat_cmp p.0 q.0) refl) (ranked p.1 q.1 (nat_cmp p.1 q.1) refl)

pub rising_pairs : (pairs : List (ℕ × ℕ)) → IsSorted pair_cmp pairs → AllPairs IsBelow (dedup pair_eq pairs)
rising_pairs pairs sorted i j d below within =
    let rest = dedup pair_eq pairs in
    below_from (get_or rest i d) (get_or rest j d)
    (Less-from_sorted pair_cmp rest i j d (IsStrictlySortedBy-dedup pair_cmp_total pair_ties pairs sorted) below within)

pub same_pairs : (pairs : List (ℕ × ℕ)) (pair : ℕ × ℕ) → Contains (dedup pair_eq pairs) pair ↔ Contains pairs pair
same_pairs pairs pair =
    (Contains-from_dedup pair_eq pairs pair, Contains-dedup pair_eq_equiv same_pair pairs pair)
