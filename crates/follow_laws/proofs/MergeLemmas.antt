-- Two lists of calls that keep precedence are merged into one that does: no list has effects at the keys of the other.
use Rattle.follow_laws.proofs.Common.{◌≡◌, ℕ, zero, suc, ◌+◌, ◌<◌, ◌≤◌, Bool, true, false, List, [], ◌∷◌, length, Option, Some, None, inl, inr, refl}
use Rattle.follow_laws.proofs.Common.{sym, ap, ◌∙◌, subst, ⊎_elim, arith, ◌≢◌, ◌⊎◌, Contains, filter, ltb-true, ltb-false, All-contains}
use Rattle.follow_laws.proofs.Common.{AllPairs-cons, AllPairs-head, AllPairs-tail, All-from_contains, Contains-nil, Contains-first, Contains-later}
use Rattle.follow_laws.proofs.Common.{Contains-cases, filter_all, filter_none, KeyedCall, IsNoEffect, ends_before, precedes, FitInTurn, left_by}
use Rattle.follow_laws.proofs.Common.{AreDistinct, KeepPrecedence}
use Rattle.follow_laws.proofs.DeadLemmas.{bool_cases}

-- the calls of both, with what they are at a key where the others are nothing
pub record AreMerged (xs ys zs : List KeyedCall) : Type 0 where
  pub from : (z : KeyedCall) → Contains zs z → Contains xs z ⊎ Contains ys z
  pub left : (x : KeyedCall) → Contains xs x → Contains zs x
  pub right : (y : KeyedCall) → Contains ys y → Contains zs y
  pub distinct : AreDistinct zs
  pub precedence : KeepPrecedence zs
  pub as_left : (key : ℕ) (value : Option ℕ) → ((y : KeyedCall) → Contains ys y → IsNoEffect (y.effect key)) → FitInTurn key value xs
      → FitInTurn key value zs × (left_by key value zs ≡ left_by key value xs)
  pub as_right : (key : ℕ) (value : Option ℕ) → ((x : KeyedCall) → Contains xs x → IsNoEffect (x.effect key)) → FitInTurn key value ys
      → FitInTurn key value zs × (left_by key value zs ≡ left_by key value ys)
  pub left_in_turn : (p : KeyedCall → Bool) → ((x : KeyedCall) → Contains xs x → p x ≡ true) → ((y : KeyedCall) → Contains ys y → p y ≡ false)
      → filter p zs ≡ xs
  pub right_in_turn : (p : KeyedCall → Bool) → ((x : KeyedCall) → Contains xs x → p x ≡ false) → ((y : KeyedCall) → Contains ys y → p y ≡ true)
      → filter p zs ≡ ys

-- what two lists are to be to be merged
pub record MayMerge (xs ys : List KeyedCall) : Type 0 where
  pub distinct_left : AreDistinct xs
  pub distinct_right : AreDistinct ys
  pub apart : (x y : KeyedCall) → Contains xs x → Contains ys y → x.inv ≢ y.inv
  pub keep_left : KeepPrecedence xs
  pub keep_right : KeepPrecedence ys
  pub last_left : (x : KeyedCall) → Contains xs x → precedes x x ≡ false
  pub last_right : (y : KeyedCall) → Contains ys y → precedes y y ≡ false

-- some call of a list precedes one, or none does
any_precedes : (ys : List KeyedCall) (x : KeyedCall) → ((y : KeyedCall) × Contains ys y × (precedes y x ≡ true))
    ⊎ ((y : KeyedCall) → Contains ys y → precedes y x ≡ false)
any_precedes [] x = inr (λ y y_in. absurd (Contains-nil y y_in))
any_precedes (y ∷ ys) x = by_first (bool_cases (precedes y x)) (any_precedes ys x)
  where
    by_first : (precedes y x ≡ true) ⊎ (precedes y x ≡ false)
        → (((z : KeyedCall) × Contains ys z × (precedes z x ≡ true)) ⊎ ((z : KeyedCall) → Contains ys z → precedes z x ≡ false))
        → ((z : KeyedCall) × Contains (y ∷ ys) z × (precedes z x ≡ true)) ⊎ ((z : KeyedCall) → Contains (y ∷ ys) z → precedes z x ≡ false)
    by_first (inl is) rest = inl (y, Contains-first y ys, is)
    by_first (inr not) (inl some) = inl (some.0, Contains-later y ys some.0 some.1, some.2)
    by_first (inr not) (inr none) = inr (λ z z_in. ⊎_elim (λ same. subst (λ (a : KeyedCall). precedes a x ≡ false) same not)
        (λ later. none z later) (Contains-cases y ys z z_in))

-- if a call y2 precedes x, y2 does not precede y, and x2 does not precede x, then x2 does not precede y
not_before : (x x2 y y2 : KeyedCall) → precedes y2 x ≡ true → precedes x2 x ≡ false → precedes y2 y ≡ false → precedes x2 y ≡ false
not_before x x2 y y2 h k l = by_res x2.res y2.res h k l
  where
    by_res : (r s : Option ℕ) → ends_before s x.inv ≡ true → ends_before r x.inv ≡ false → ends_before s y.inv ≡ false → ends_before r y.inv ≡ false
    by_res None s h k l = refl
    by_res (Some r) None h k l = cc
    by_res (Some r) (Some s) h k l =
        let a : s < x.inv = ltb-true s x.inv h in
        let b : x.inv ≤ r = ltb-false r x.inv k in
        let c : y.inv ≤ s = ltb-false s y.inv l in
        by_less (bool_cases (ends_before (Some r) y.inv)) (omega arith)
      where
        by_less : (ends_before (Some r) y.inv ≡ true) ⊎ (ends_before (Some r) y.inv ≡ false) → y.inv ≤ r → ends_before (Some r) y.inv ≡ false
        by_less (inr not) less = not
        by_less (inl is) less = let d : r < y.inv = ltb-true r y.inv is in absurd (omega arith)

-- a first call before those merged of the rest
left_first : (x : KeyedCall) (xs ys zs : List KeyedCall) → MayMerge (x ∷ xs) ys → ((y : KeyedCall) → Contains ys y → precedes y x ≡ false)
    → AreMerged xs ys zs → AreMerged (x ∷ xs) ys (x ∷ zs)
left_first x xs ys zs may first merged = record {
  from = λ z z_in. ⊎_elim (λ same. inl (subst (λ (a : KeyedCall). Contains (x ∷ xs) a) same (Contains-first x xs)))
      (λ later. ⊎_elim (λ l. inl (Contains-later x xs z l)) (λ r. inr r) (merged.from z later)) (Contains-cases x zs z z_in);
  left = λ a a_in. ⊎_elim (λ same. subst (λ (b : KeyedCall). Contains (x ∷ zs) b) same (Contains-first x zs))
      (λ later. Contains-later x zs a (merged.left a later)) (Contains-cases x xs a a_in);
  right = λ a a_in. Contains-later x zs a (merged.right a a_in);
  distinct = AllPairs-cons (λ a b. a.inv ≢ b.inv) x zs
      (All-from_contains (λ b. x.inv ≢ b.inv) zs (λ z z_in.
      ⊎_elim (λ l. All-contains (λ b. x.inv ≢ b.inv) xs z (AllPairs-head (λ a b. a.inv ≢ b.inv) x xs may.distinct_left) l)
      (λ r. may.apart x z (Contains-first x xs) r) (merged.from z z_in)))
      merged.distinct;
  precedence = AllPairs-cons (λ a b. precedes b a ≡ false) x zs
      (All-from_contains (λ b. precedes b x ≡ false) zs (λ z z_in.
      ⊎_elim (λ l. All-contains (λ b. precedes b x ≡ false) xs z (AllPairs-head (λ a b. precedes b a ≡ false) x xs may.keep_left) l)
      (λ r. first z r) (merged.from z z_in)))
      merged.precedence;
  as_left = λ key value none fit.
      let rest = merged.as_left key ((x.effect key).leaves value) none fit.1 in ((fit.0, rest.0), rest.1);
  as_right = λ key value none fit.
      let here : IsNoEffect (x.effect key) = none x (Contains-first x xs) in
      let rest = merged.as_right key value (λ a a_in. none a (Contains-later x xs a a_in)) fit in (
        (here.fits value, subst (λ (v : Option ℕ). FitInTurn key v zs) (sym (here.leaves value)) rest.0),
        ap (λ (v : Option ℕ). left_by key v zs) (here.leaves value) ∙ rest.1,
      );
  left_in_turn = λ p yes no.
      let here : p x ≡ true = yes x (Contains-first x xs) in
      rw here (ap (λ (zs2 : List KeyedCall). x ∷ zs2) (merged.left_in_turn p (λ a a_in. yes a (Contains-later x xs a a_in)) no));
  right_in_turn = λ p no yes.
      let here : p x ≡ false = no x (Contains-first x xs) in
      rw here (merged.right_in_turn p (λ a a_in. no a (Contains-later x xs a a_in)) yes);
}

may_rest : (x : KeyedCall) (xs ys : List KeyedCall) → MayMerge (x ∷ xs) ys → MayMerge xs ys
may_rest x xs ys may = record {
  distinct_left = AllPairs-tail (λ a b. a.inv ≢ b.inv) x xs may.distinct_left;
  distinct_right = may.distinct_right;
  apart = λ a b a_in b_in. may.apart a b (Contains-later x xs a a_in) b_in;
  keep_left = AllPairs-tail (λ a b. precedes b a ≡ false) x xs may.keep_left;
  keep_right = may.keep_right;
  last_left = λ a a_in. may.last_left a (Contains-later x xs a a_in);
  last_right = may.last_right;
}

may_turn : (xs ys : List KeyedCall) → MayMerge xs ys → MayMerge ys xs
may_turn xs ys may = record {
  distinct_left = may.distinct_right;
  distinct_right = may.distinct_left;
  apart = λ a b a_in b_in same. may.apart b a b_in a_in (sym same);
  keep_left = may.keep_right;
  keep_right = may.keep_left;
  last_left = may.last_right;
  last_right = may.last_left;
}

turned : (xs ys zs : List KeyedCall) → AreMerged xs ys zs → AreMerged ys xs zs
turned xs ys zs merged = record {
  from = λ z z_in. ⊎_elim (λ l. inr l) (λ r. inl r) (merged.from z z_in);
  left = merged.right;
  right = merged.left;
  distinct = merged.distinct;
  precedence = merged.precedence;
  as_left = merged.as_right;
  as_right = merged.as_left;
  left_in_turn = λ p yes no. merged.right_in_turn p no yes;
  right_in_turn = λ p no yes. merged.left_in_turn p yes no;
}

merged_none : (ys : List KeyedCall) → MayMerge [] ys → AreMerged [] ys ys
merged_none ys may = record {
  from = λ z z_in. inr z_in;
  left = λ x x_in. absurd (Contains-nil x x_in);
  right = λ y y_in. y_in;
  distinct = may.distinct_right;
  precedence = may.keep_right;
  as_left = λ key value none fit. all_none key value ys none;
  as_right = λ key value none fit. (fit, refl);
  left_in_turn = λ p yes no. filter_none p ys (All-from_contains (λ y. p y ≡ false) ys no);
  right_in_turn = λ p no yes. filter_all p ys (All-from_contains (λ y. p y ≡ true) ys yes);
}
  where
    all_none : (key : ℕ) (value : Option ℕ) (xs : List KeyedCall) → ((y : KeyedCall) → Contains xs y → IsNoEffect (y.effect key))
        → FitInTurn key value xs × (left_by key value xs ≡ value)
    all_none key value [] none = (tt, refl)
    all_none key value (x ∷ xs) none =
        let here : IsNoEffect (x.effect key) = none x (Contains-first x xs) in
        let rest = all_none key value xs (λ y y_in. none y (Contains-later x xs y y_in)) in (
          (here.fits value, subst (λ (v : Option ℕ). FitInTurn key v xs) (sym (here.leaves value)) rest.0),
          ap (λ (v : Option ℕ). left_by key v xs) (here.leaves value) ∙ rest.1,
        )

-- if some call of the second list precedes the first call of the first list, no call of the first list precedes the first call of the second
second_first : (x y : KeyedCall) (xs ys : List KeyedCall) → MayMerge (x ∷ xs) (y ∷ ys)
    → (z : KeyedCall) × Contains (y ∷ ys) z × (precedes z x ≡ true) → (a : KeyedCall) → Contains (x ∷ xs) a → precedes a y ≡ false
second_first x y xs ys may (z, z_in, before) a a_in =
    not_before x a y z before
    (⊎_elim (λ same. subst (λ (b : KeyedCall). precedes b x ≡ false) same (may.last_left x (Contains-first x xs)))
    (λ later. All-contains (λ b. precedes b x ≡ false) xs a (AllPairs-head (λ b c. precedes c b ≡ false) x xs may.keep_left) later)
    (Contains-cases x xs a a_in))
    (⊎_elim (λ same. subst (λ (b : KeyedCall). precedes b y ≡ false) same (may.last_right y (Contains-first y ys)))
    (λ later. All-contains (λ b. precedes b y ≡ false) ys z (AllPairs-head (λ b c. precedes c b ≡ false) y ys may.keep_right) later)
    (Contains-cases y ys z z_in))

-- by as many steps as there are calls
pub merge_by : (n : ℕ) (xs ys : List KeyedCall) → length xs + length ys ≤ n → MayMerge xs ys → (zs : List KeyedCall) × AreMerged xs ys zs
merge_by n [] ys less may = (ys, merged_none ys may)
merge_by n (x ∷ xs) [] less may = (x ∷ xs, turned [] (x ∷ xs) (x ∷ xs) (merged_none (x ∷ xs) (may_turn (x ∷ xs) [] may)))
merge_by zero (x ∷ xs) (y ∷ ys) less may = absurd (omega arith)
merge_by (suc n) (x ∷ xs) (y ∷ ys) less may =
    ⊎_elim
    (λ some.
    let may_y = may_rest y ys (x ∷ xs) (may_turn (x ∷ xs) (y ∷ ys) may) in
    let (zs, merged) = merge_by n (x ∷ xs) ys (omega arith) (may_turn ys (x ∷ xs) may_y) in (
      y ∷ zs,
      turned (y ∷ ys) (x ∷ xs) (y ∷ zs)
          (left_first y ys (x ∷ xs) zs (may_turn (x ∷ xs) (y ∷ ys) may) (λ a a_in. second_first x y xs ys may some a a_in)
          (turned (x ∷ xs) ys zs merged)),
    ))
    (λ none.
    let (zs, merged) = merge_by n xs (y ∷ ys) (omega arith) (may_rest x xs (y ∷ ys) may) in
    (x ∷ zs, left_first x xs (y ∷ ys) zs may none merged))
    (any_precedes (y ∷ ys) x)

pub merge : (xs ys : List KeyedCall) → MayMerge xs ys → (zs : List KeyedCall) × AreMerged xs ys zs
merge xs ys may = merge_by (length xs + length ys) xs ys (omega arith) may
