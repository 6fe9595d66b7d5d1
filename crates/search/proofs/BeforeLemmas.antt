-- Lists of numbers that come before a cursor.
use Rattle.search.proofs.Common.{◌≡◌, ℕ, zero, suc, ◌+◌, ◌<◌, ◌≤◌, true, false, List, [], ◌∷◌, ◌++◌, length, refl, sym, ap, ◌∙◌, subst, inl, inr}
use Rattle.search.proofs.Common.{⊎_elim, arith, ◌⊎◌, All, false≢true, both_ways, cases_order, cases_lt, false_from_ne_true, append-nil, append_assoc}
use Rattle.search.proofs.Common.{All-head, is_at_or_before, All-back, ComesBefore, cursor}
use Rattle.search.proofs.LeastOrderLemmas.{is_at_or_before-same, is_at_or_before-lower, is_at_or_before-higher, is_at_or_before-refl}
use Rattle.search.proofs.LeastOrderLemmas.{is_at_or_before-trans, is_at_or_before-append, is_at_or_before-front, is_at_or_before-total}
use Rattle.search.proofs.LeastOrderLemmas.{is_at_or_before-first_lower, is_at_or_before-first_higher, IsLowerAtDifference, is_at_or_before-parts}

-- how a list compares with all that begin with another: it goes on from it, comes before all of
-- them, or after all of them
against : (f p : List ℕ)
    → ((rest : List ℕ) × (f ≡ p ++ rest)) ⊎ (((ys : List ℕ) → is_at_or_before (p ++ ys) f ≡ false) ⊎ ((ys : List ℕ) → is_at_or_before
    (p ++ ys) f ≡ true))
against f [] = inl (f, refl)
against [] (y ∷ p) = inr (inl (λ ys. refl))
against (x ∷ f) (y ∷ p) = by_cases (against f p) (cases_order x y)
  where
    by_cases : ((rest : List ℕ) × (f ≡ p ++ rest)) ⊎
        (((ys : List ℕ) → is_at_or_before (p ++ ys) f ≡ false) ⊎ ((ys : List ℕ) → is_at_or_before (p ++ ys) f ≡ true)) → (x ≡ y)
        ⊎ ((x < y) ⊎ (y < x))
        → ((rest : List ℕ) × (x ∷ f ≡ (y ∷ p) ++ rest)) ⊎
        (((ys : List ℕ) → is_at_or_before ((y ∷ p) ++ ys) (x ∷ f) ≡ false)
        ⊎ ((ys : List ℕ) → is_at_or_before ((y ∷ p) ++ ys) (x ∷ f) ≡ true))
    by_cases (inl begins) (inl same) = inl (begins.0, ap (λ k. k ∷ f) same ∙ ap (λ zs. y ∷ zs) begins.1)
    by_cases (inr (inl before)) (inl same) =
        inr (inl (λ ys. ap (λ k. is_at_or_before (y ∷ (p ++ ys)) (k ∷ f)) same ∙ is_at_or_before-same y (p ++ ys) f ∙ before ys))
    by_cases (inr (inr behind)) (inl same) =
        inr (inr (λ ys. ap (λ k. is_at_or_before (y ∷ (p ++ ys)) (k ∷ f)) same ∙ is_at_or_before-same y (p ++ ys) f ∙ behind ys))
    by_cases h (inr (inl lower)) = inr (inl (λ ys. is_at_or_before-higher y (p ++ ys) x f lower))
    by_cases h (inr (inr higher)) = inr (inr (λ ys. is_at_or_before-lower y (p ++ ys) x f higher))

-- what comes before a list comes before each that this one is at or before
pub ComesBefore-weaker : (f ys zs : List ℕ) → is_at_or_before ys zs ≡ true → ComesBefore f ys → ComesBefore f zs
ComesBefore-weaker f ys zs le h = false_from_ne_true (is_at_or_before zs f) (λ e. both_ways _ h (is_at_or_before-trans ys zs f le e))

-- a list comes before what it begins with one more number
pub ComesBefore-itself : (p : List ℕ) (n : ℕ) → ComesBefore p (cursor p n)
ComesBefore-itself p n = subst (λ q. is_at_or_before (cursor p n) q ≡ false) (append-nil p) (is_at_or_before-append p (n ∷ []) [])

-- a list that comes before a cursor at 0 is at or before the calls taken
pub at_or_before-from_cursor : (p f : List ℕ) → ComesBefore f (cursor p 0) → is_at_or_before f p ≡ true
at_or_before-from_cursor p f h = ⊎_elim (λ begins. of_begins begins.0 begins.1) (λ apart. ⊎_elim
    (λ before. ⊎_elim (λ le. le) (λ ge. absurd (both_ways _ (subst (λ q. is_at_or_before q f ≡ false) (append-nil p) (before [])) ge))
    (is_at_or_before-total f p))
    (λ behind. absurd (both_ways _ h (behind (0 ∷ [])))) apart) (against f p)
  where
    first : (rest : List ℕ) → is_at_or_before (0 ∷ []) rest ≡ false → rest ≡ []
    first [] e = refl
    first (zero ∷ rest) e = absurd (both_ways _ e (is_at_or_before-same 0 [] rest))
    first (suc x ∷ rest) e = absurd (both_ways _ e (is_at_or_before-lower 0 [] (suc x) rest (omega arith)))

    of_begins : (rest : List ℕ) → f ≡ p ++ rest → is_at_or_before f p ≡ true
    of_begins rest is =
        let none = first rest (sym (is_at_or_before-append p (0 ∷ []) rest) ∙ ap (is_at_or_before (p ++ 0 ∷ [])) (sym is) ∙ h) in
        let same : f ≡ p = is ∙ ap (λ zs. p ++ zs) none ∙ append-nil p in
        ap (λ q. is_at_or_before q p) same ∙ is_at_or_before-refl p

-- a list that is at or before the calls taken comes before the cursor
pub ComesBefore-from_at_or_before : (p f : List ℕ) (n : ℕ) → is_at_or_before f p ≡ true → ComesBefore f (cursor p n)
ComesBefore-from_at_or_before p f n le =
    false_from_ne_true (is_at_or_before (cursor p n) f)
    (λ e. both_ways _ (ComesBefore-itself p n) (is_at_or_before-trans (cursor p n) f p e le))

-- a list that comes before a cursor that has moved on came before it where it was, or begins with the calls taken and one that it passed
pub ComesBefore-moved : (p f : List ℕ) (n m : ℕ) → ComesBefore f (cursor p m)
    → ComesBefore f (cursor p n) ⊎ ((k : ℕ) × (rest : List ℕ) × (n ≤ k) × (k < m) × (f ≡ cursor p k ++ rest))
ComesBefore-moved p f n m h = ⊎_elim (λ begins. of_begins begins.0 begins.1) (λ apart. ⊎_elim
    (λ before. inl (before (n ∷ [])))
    (λ behind. absurd (both_ways _ h (behind (m ∷ [])))) apart) (against f p)
  where
    lower : (x : ℕ) (rest : List ℕ) → is_at_or_before (m ∷ []) (x ∷ rest) ≡ false → x < m
    lower x rest e = ⊎_elim (λ same. absurd (both_ways _ e (ap (λ k. is_at_or_before (m ∷ []) (k ∷ rest)) same
        ∙ is_at_or_before-same m [] rest)))
        (λ apart. ⊎_elim (λ lt. lt) (λ gt. absurd (both_ways _ e (is_at_or_before-lower m [] x rest gt))) apart) (cases_order x m)

    of_begins : (rest : List ℕ) → f ≡ p ++ rest → ComesBefore f (cursor p n)
        ⊎ ((k : ℕ) × (rest : List ℕ) × (n ≤ k) × (k < m) × (f ≡ cursor p k ++ rest))
    of_begins [] is = inl (ap (is_at_or_before (cursor p n)) is ∙ is_at_or_before-append p (n ∷ []) [])
    of_begins (x ∷ rest) is = ⊎_elim
        (λ lt. inl (ap (is_at_or_before (cursor p n)) is ∙ is_at_or_before-append p (n ∷ []) (x ∷ rest)
        ∙ is_at_or_before-higher n [] x rest lt))
        (λ le. inr (
          x,
          rest,
          le,
          lower x rest (sym (is_at_or_before-append p (m ∷ []) (x ∷ rest)) ∙ ap (is_at_or_before (cursor p m)) (sym is) ∙ h),
          is
              ∙ sym (append_assoc p (x ∷ []) rest),
        ))
        (cases_lt x n)

-- what comes before a cursor comes before it once it has moved on
pub ComesBefore-move : (p f : List ℕ) (n m : ℕ) → n ≤ m → ComesBefore f (cursor p n) → ComesBefore f (cursor p m)
ComesBefore-move p f n m le h =
    ComesBefore-weaker f (cursor p n) (cursor p m)
    (⊎_elim (λ same. ap (λ k. is_at_or_before (cursor p n) (cursor p k)) (sym same) ∙ is_at_or_before-refl (cursor p n))
    (λ apart. ⊎_elim (λ lt. is_at_or_before-first_lower p n [] m [] lt) (λ gt. absurd (omega arith)) apart) (cases_order n m)) h

-- what comes before a cursor comes before it with the call taken
pub ComesBefore-pushed : (p f : List ℕ) (n m : ℕ) → ComesBefore f (cursor p n) → ComesBefore f (cursor (cursor p n) m)
ComesBefore-pushed p f n m h = ComesBefore-weaker f (cursor p n) (cursor (cursor p n) m) (is_at_or_before-front (cursor p n) (m ∷ [])) h

-- what comes before a cursor with the call just taken came before the cursor, or is the calls taken
pub ComesBefore-push : (p f : List ℕ) (n : ℕ) → ComesBefore f (cursor (cursor p n) 0) → ComesBefore f (cursor p n) ⊎ (f ≡ cursor p n)
ComesBefore-push p f n h = ComesBefore-or_same (cursor p n) f (at_or_before-from_cursor (cursor p n) f h)
  where
    ComesBefore-or_same : (ys f : List ℕ) → is_at_or_before f ys ≡ true → ComesBefore f ys ⊎ (f ≡ ys)
    ComesBefore-or_same [] [] le = inr refl
    ComesBefore-or_same [] (x ∷ f) le = absurd (false≢true le)
    ComesBefore-or_same (y ∷ ys) [] le = inl refl
    ComesBefore-or_same (y ∷ ys) (x ∷ f) le = of (is_at_or_before-parts (x ∷ f) (y ∷ ys) le)
      where
        of : ((rest : List ℕ) × (y ∷ ys ≡ (x ∷ f) ++ rest)) ⊎ IsLowerAtDifference (x ∷ f) (y ∷ ys) → ComesBefore (x ∷ f) (y ∷ ys)
            ⊎ (x ∷ f ≡ y ∷ ys)
        of (inl ([], is)) = inr (sym (is ∙ append-nil (x ∷ f)))
        of (inl (z ∷ rest, is)) =
            inl (ap (λ zs. is_at_or_before zs (x ∷ f)) is
            ∙ (subst (λ q. is_at_or_before ((x ∷ f) ++ z ∷ rest) q ≡ false) (append-nil (x ∷ f))
            (is_at_or_before-append (x ∷ f) (z ∷ rest) [])))
        of (inr d) =
            inl (ap (λ zs. is_at_or_before zs (x ∷ f)) d.ys_is ∙ ap (is_at_or_before (d.front ++ d.y ∷ d.y_rest)) d.xs_is
            ∙ is_at_or_before-first_higher d.front d.y d.y_rest d.x d.x_rest d.lower)

-- past all calls after a front, a cursor is past the front: where all numbers of a list are below m
pub ComesBefore-pop : (p f : List ℕ) (n m : ℕ) → All (λ k. k < m) f → ComesBefore f (cursor p (n + 1))
    → ComesBefore f (cursor (cursor p n) m)
ComesBefore-pop p f n m below h =
    ⊎_elim (λ before. ComesBefore-pushed p f n m before)
    (λ (k, rest, le, lt, is). of rest (is ∙ ap (λ j. cursor p j ++ rest) (omega arith)))
    (ComesBefore-moved p f n (n + 1) h)
  where
    of : (rest : List ℕ) → f ≡ cursor p n ++ rest → ComesBefore f (cursor (cursor p n) m)
    of [] is = ap (is_at_or_before (cursor (cursor p n) m)) is ∙ is_at_or_before-append (cursor p n) (m ∷ []) []
    of (x ∷ rest) is = ap (is_at_or_before (cursor (cursor p n) m)) is ∙ is_at_or_before-append (cursor p n) (m ∷ []) (x ∷ rest)
        ∙ is_at_or_before-higher m [] x rest (All-head (λ k. k < m) x rest (All-back (λ k. k < m) (cursor p n) (x ∷ rest)
        (subst (All (λ k. k < m)) is below)))

pub ComesBefore-popped : (p f : List ℕ) (n m : ℕ) → ComesBefore f (cursor (cursor p n) m) → ComesBefore f (cursor p (n + 1))
ComesBefore-popped p f n m h =
    ComesBefore-weaker f (cursor (cursor p n) m) (cursor p (n + 1))
    (ap (λ q. is_at_or_before q (cursor p (n + 1))) (append_assoc p (n ∷ []) (m ∷ []))
    ∙ is_at_or_before-first_lower p n (m ∷ []) (n + 1) [] (omega arith)) h

-- a list as long as another that comes before it stays before it, whatever follows
pub ComesBefore-longer : (g q rest : List ℕ) → length g ≡ length q → ComesBefore g q → ComesBefore (g ++ rest) q
ComesBefore-longer [] [] rest same h = absurd (false≢true (sym h))
ComesBefore-longer [] (y ∷ q) rest same h = absurd (omega arith)
ComesBefore-longer (x ∷ g) [] rest same h = absurd (omega arith)
ComesBefore-longer (x ∷ g) (y ∷ q) rest same h = ⊎_elim
    (λ is. ap (λ k. is_at_or_before (y ∷ q) (k ∷ (g ++ rest))) is ∙ is_at_or_before-same y q (g ++ rest)
    ∙ ComesBefore-longer g q rest (omega arith) (sym (is_at_or_before-same y q g) ∙ ap (λ k. is_at_or_before (y ∷ q) (k ∷ g)) (sym is) ∙ h))
    (λ apart. ⊎_elim (λ lower. is_at_or_before-higher y q x (g ++ rest) lower)
    (λ higher. absurd (both_ways _ h (is_at_or_before-lower y q x g higher))) apart)
    (cases_order x y)
