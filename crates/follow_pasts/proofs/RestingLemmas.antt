-- Keys in further ranges, and the pairs of some keys.
use Rattle.follow_pasts.proofs.Common.{◌≡◌, ℕ, ◌<◌, ◌≤◌, ◌==◌, Bool, true, false, not, cond, List, [], ◌∷◌, length, take, Option, Some, None, inl, inr}
use Rattle.follow_pasts.proofs.Common.{refl, sym, ap, ◌∙◌, subst, ⊎_elim, arith, ◌&&◌, nat_le, filter, list_any, eq-eqb, eqb-true, false≢true, or_cases}
use Rattle.follow_pasts.proofs.Common.{or_left, or_right, nat_tests, take_all, AllPairs-filter, none-some, same_Some, Contents, IsRising, value_at}
use Rattle.follow_pasts.proofs.Common.{AreAbove-first, IsRising-rest, value_at_above, is_same_value, covered, HasDiffering, Range}
use Rattle.std.specs.Prelude.{◌||◌}

-- the keys of all elements, as those of the elements so far
pub covers_all : {X : Type 0} (test : X → Bool) (xs : List X) (i : ℕ) (old ranges : List Range) (key : ℕ) → length xs ≤ i
    → covered ranges key ≡ (covered old key || list_any test (take i xs))
    → covered ranges key ≡ (covered old key || list_any test xs)
covers_all {X} test xs i old ranges key past so_far =
    so_far ∙ ap (λ (l : List X). covered old key || list_any test l) (take_all i xs past)

-- a range of one key
pub one_key : (own key : ℕ) → (nat_le own key && nat_le key own) ≡ (own == key)
one_key own key = grind (arith, nat_tests)

-- ---- the pairs of some keys

-- the pairs of some keys rise as well
pub some_rise : (test : ℕ × ℕ → Bool) (pairs out : Contents) (i : ℕ) (list : Contents) → IsRising pairs → length pairs ≤ i
    → out ≡ filter test (take i pairs) → list ≡ out → IsRising list
some_rise test pairs out i list rising past so_far same =
    subst (λ (m : Contents). IsRising m) (sym (same ∙ (so_far ∙ ap (filter test) (take_all i pairs past))))
    (AllPairs-filter (λ (a : ℕ × ℕ) (b : ℕ × ℕ). a.0 < b.0) test pairs rising)

-- ---- the keys of pairs that are not among other pairs

-- whether a pair is of a key, and others do not have that value there
abbrev pub differs_at : Contents → ℕ → ℕ × ℕ → Bool
differs_at others key pair = (pair.0 == key) && not (is_same_value (value_at others pair.0) (Some pair.1))

pub is_same : (a b : Option ℕ) → is_same_value a b ≡ true → a ≡ b
is_same None None holds = refl
is_same None (Some y) holds = absurd (false≢true holds)
is_same (Some x) None holds = absurd (false≢true holds)
is_same (Some x) (Some y) holds = ap Some (eqb-true x y holds)

pub same_is : (a b : Option ℕ) → a ≡ b → is_same_value a b ≡ true
same_is None None same = refl
same_is None (Some y) same = absurd (none-some y same)
same_is (Some x) None same = absurd (none-some x (sym same))
same_is (Some x) (Some y) same = eq-eqb x y (same_Some x y same)

-- a value that others do not have
abbrev pub Differs : Contents → Contents → ℕ → Type 0
Differs pairs others key = (value : ℕ) × (value_at pairs key ≡ Some value) × (value_at others key ≡ Some value → ⊥)

pub differs_to : (pairs others : Contents) (key : ℕ) → IsRising pairs → list_any (differs_at others key) pairs ≡ true → Differs pairs others key
differs_to [] others key rising holds = absurd (false≢true holds)
differs_to ((k, v) ∷ pairs) others key rising holds =
    by_test (k == key) (is_same_value (value_at others k) (Some v)) refl refl
    holds (differs_to pairs others key (IsRising-rest (k, v) pairs rising))
  where
    by_test : (here same : Bool) → (k == key) ≡ here → is_same_value (value_at others k) (Some v) ≡ same
        → ((here && not same) || list_any (differs_at others key) pairs) ≡ true
        → (list_any (differs_at others key) pairs ≡ true → Differs pairs others key) → Differs ((k, v) ∷ pairs) others key
    by_test true false here same h later = (
      v,
      ap (λ (b : Bool). cond b (Some v) (value_at pairs key)) here,
      λ has. absurd (false≢true (sym same ∙ same_is (value_at others k) (Some v)
          (subst (λ (n : ℕ). value_at others n ≡ Some v) (sym (eqb-true k key here)) has))),
    )
    by_test true true here same h later =
        let (value, at, differ) = later h in
        absurd (none-some value (sym (value_at_above k pairs (AreAbove-first (k, v) pairs rising))
        ∙ subst (λ (n : ℕ). value_at pairs n ≡ Some value) (sym (eqb-true k key here)) at))
    by_test false same here is h later =
        let (value, at, differ) = later h in (value, ap (λ (b : Bool). cond b (Some v) (value_at pairs key)) here ∙ at, differ)

pub differs_from : (pairs others : Contents) (key value : ℕ) → value_at pairs key ≡ Some value → (value_at others key ≡ Some value → ⊥)
    → list_any (differs_at others key) pairs ≡ true
differs_from [] others key value at differ = absurd (none-some value at)
differs_from ((k, v) ∷ pairs) others key value at differ =
    by_test (k == key) (is_same_value (value_at others k) (Some v)) refl refl at (differs_from pairs others key value)
  where
    by_test : (here same : Bool) → (k == key) ≡ here → is_same_value (value_at others k) (Some v) ≡ same
        → cond here (Some v) (value_at pairs key) ≡ Some value
        → (value_at pairs key ≡ Some value → (value_at others key ≡ Some value → ⊥) → list_any (differs_at others key) pairs ≡ true)
        → ((here && not same) || list_any (differs_at others key) pairs) ≡ true
    by_test true false here is h later = refl
    by_test true true here is h later =
        absurd (differ (subst (λ (n : ℕ). value_at others n ≡ Some v) (eqb-true k key here) (is_same (value_at others k) (Some v) is) ∙ h))
    by_test false same here is h later = later h differ

-- the keys of all pairs that others do not have
pub differing_end : (pairs list others : Contents) (i : ℕ) (old ranges : List Range) → list ≡ pairs → IsRising pairs → length list ≤ i
    → ((key : ℕ) → covered ranges key ≡ (covered old key || list_any (differs_at others key) (take i list)))
    → HasDiffering pairs others old ranges
differing_end pairs list others i old ranges same rising past so_far key =
    let is : covered ranges key ≡ (covered old key || list_any (differs_at others key) pairs) =
    covers_all (differs_at others key) list i old ranges key past (so_far key)
    ∙ ap (λ (m : Contents). covered old key || list_any (differs_at others key) m) same in (
      λ holds. ⊎_elim (λ was. inl was) (λ more. inr (differs_to pairs others key rising more))
          (or_cases (covered old key) (list_any (differs_at others key) pairs) (sym is ∙ holds)),
      λ either. is ∙ ⊎_elim (λ was. or_left (covered old key) (list_any (differs_at others key) pairs) was)
          (λ more. or_right (covered old key) (list_any (differs_at others key) pairs) (differs_from pairs others key more.0 more.1 more.2)) either,
    )
