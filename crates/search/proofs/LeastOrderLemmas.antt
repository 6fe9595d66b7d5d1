-- Laws of lists of numbers compared by their first difference.
use Rattle.search.proofs.Common.{◌≡◌, ℕ, ◌<◌, true, false, List, [], ◌∷◌, ◌++◌, refl, sym, ap, ◌∙◌, inl, inr, ⊎_elim, arith, ◌⊎◌, false≢true}
use Rattle.search.proofs.Common.{both_ways, cases_order, eq-eqb, ne_eqb, lt-ltb, le-ltb, Operation, Contents, is_at_or_before, IsLeastOrder}

-- lists with the same first number compare as the rest
pub is_at_or_before-same : (x : ℕ) (xs ys : List ℕ) → is_at_or_before (x ∷ xs) (x ∷ ys) ≡ is_at_or_before xs ys
is_at_or_before-same x xs ys = rw (eq-eqb x x refl)

-- a list with a lower first number comes first
pub is_at_or_before-lower : (x : ℕ) (xs : List ℕ) (y : ℕ) (ys : List ℕ) → x < y → is_at_or_before (x ∷ xs) (y ∷ ys) ≡ true
is_at_or_before-lower x xs y ys h = rw (ne_eqb x y (omega arith)) (lt-ltb x y h)

-- a list with a higher first number does not come first
pub is_at_or_before-higher : (x : ℕ) (xs : List ℕ) (y : ℕ) (ys : List ℕ) → y < x → is_at_or_before (x ∷ xs) (y ∷ ys) ≡ false
is_at_or_before-higher x xs y ys h = rw (ne_eqb x y (omega arith)) (le-ltb x y (omega arith))

-- if two lists are in order, the first number of the first is lower, or it is the same and the rest
-- is in order
pub is_at_or_before-cases : (x : ℕ) (xs : List ℕ) (y : ℕ) (ys : List ℕ) → is_at_or_before (x ∷ xs) (y ∷ ys) ≡ true
    → (x < y) ⊎ ((x ≡ y) × (is_at_or_before xs ys ≡ true))
is_at_or_before-cases x xs y ys h = ⊎_elim
    (λ same. inr (same, sym (is_at_or_before-same y xs ys) ∙ ap (λ k. is_at_or_before (k ∷ xs) (y ∷ ys)) (sym same) ∙ h))
    (λ apart. ⊎_elim (λ lower. inl lower) (λ higher. absurd (both_ways _ (is_at_or_before-higher x xs y ys higher) h))
    apart) (cases_order x y)

-- a list is at or before itself
pub is_at_or_before-refl : (xs : List ℕ) → is_at_or_before xs xs ≡ true
is_at_or_before-refl [] = refl
is_at_or_before-refl (x ∷ xs) = is_at_or_before-same x xs xs ∙ is_at_or_before-refl xs

-- one of two lists is at or before the other
pub is_at_or_before-total : (xs ys : List ℕ) → (is_at_or_before xs ys ≡ true) ⊎ (is_at_or_before ys xs ≡ true)
is_at_or_before-total [] ys = inl refl
is_at_or_before-total (x ∷ xs) [] = inr refl
is_at_or_before-total (x ∷ xs) (y ∷ ys) =
    of_rest (is_at_or_before-total xs ys) (cases_order x y)
  where
    of_rest : (is_at_or_before xs ys ≡ true) ⊎ (is_at_or_before ys xs ≡ true) → (x ≡ y) ⊎ ((x < y) ⊎ (y < x))
        → (is_at_or_before (x ∷ xs) (y ∷ ys) ≡ true) ⊎ (is_at_or_before (y ∷ ys) (x ∷ xs) ≡ true)
    of_rest (inl h) (inl same) = inl (ap (λ k. is_at_or_before (k ∷ xs) (y ∷ ys)) same ∙ is_at_or_before-same y xs ys ∙ h)
    of_rest (inr h) (inl same) = inr (ap (λ k. is_at_or_before (y ∷ ys) (k ∷ xs)) same ∙ is_at_or_before-same y ys xs ∙ h)
    of_rest h (inr (inl lower)) = inl (is_at_or_before-lower x xs y ys lower)
    of_rest h (inr (inr higher)) = inr (is_at_or_before-lower y ys x xs higher)

-- lists in order are in order with what comes after
pub is_at_or_before-trans : (xs ys zs : List ℕ) → is_at_or_before xs ys ≡ true → is_at_or_before ys zs ≡ true → is_at_or_before xs zs ≡ true
is_at_or_before-trans [] ys zs h k = refl
is_at_or_before-trans (x ∷ xs) [] zs h k = absurd (false≢true h)
is_at_or_before-trans (x ∷ xs) (y ∷ ys) [] h k = absurd (false≢true k)
is_at_or_before-trans (x ∷ xs) (y ∷ ys) (z ∷ zs) h k =
    by_cases (is_at_or_before-trans xs ys zs) (is_at_or_before-cases x xs y ys h) (is_at_or_before-cases y ys z zs k)
  where
    by_cases : (is_at_or_before xs ys ≡ true → is_at_or_before ys zs ≡ true → is_at_or_before xs zs ≡ true)
        → (x < y) ⊎ ((x ≡ y) × (is_at_or_before xs ys ≡ true)) → (y < z) ⊎ ((y ≡ z) × (is_at_or_before ys zs ≡ true))
        → is_at_or_before (x ∷ xs) (z ∷ zs) ≡ true
    by_cases rest (inl lower) (inl also) = is_at_or_before-lower x xs z zs (omega arith)
    by_cases rest (inl lower) (inr same) = is_at_or_before-lower x xs z zs (omega (arith, same.0))
    by_cases rest (inr same) (inl lower) = is_at_or_before-lower x xs z zs (omega (arith, same.0))
    by_cases rest (inr same) (inr also) = ap (λ j. is_at_or_before (j ∷ xs) (z ∷ zs)) (same.0 ∙ also.0) ∙ is_at_or_before-same z xs zs
        ∙ rest same.1 also.1

-- two lists, each at or before the other, are the same
pub is_at_or_before-antisym : (xs ys : List ℕ) → is_at_or_before xs ys ≡ true → is_at_or_before ys xs ≡ true → xs ≡ ys
is_at_or_before-antisym [] [] h k = refl
is_at_or_before-antisym [] (y ∷ ys) h k = absurd (false≢true k)
is_at_or_before-antisym (x ∷ xs) [] h k = absurd (false≢true h)
is_at_or_before-antisym (x ∷ xs) (y ∷ ys) h k =
    by_cases (is_at_or_before-antisym xs ys) (is_at_or_before-cases x xs y ys h) (is_at_or_before-cases y ys x xs k)
  where
    by_cases : (is_at_or_before xs ys ≡ true → is_at_or_before ys xs ≡ true → xs ≡ ys) → (x < y)
        ⊎ ((x ≡ y) × (is_at_or_before xs ys ≡ true))
        → (y < x) ⊎ ((y ≡ x) × (is_at_or_before ys xs ≡ true)) → x ∷ xs ≡ y ∷ ys
    by_cases rest (inl lower) (inl higher) = absurd (omega arith)
    by_cases rest (inl lower) (inr same) = absurd (omega (arith, same.0))
    by_cases rest (inr same) (inl lower) = absurd (omega (arith, same.0))
    by_cases rest (inr same) (inr also) = ap (λ k. k ∷ xs) same.0 ∙ ap (λ zs. y ∷ zs) (rest same.1 also.1)

-- lists with the same beginning compare as what follows it
pub is_at_or_before-append : (front xs ys : List ℕ) → is_at_or_before (front ++ xs) (front ++ ys) ≡ is_at_or_before xs ys
is_at_or_before-append [] xs ys = refl
is_at_or_before-append (n ∷ front) xs ys = is_at_or_before-same n (front ++ xs) (front ++ ys) ∙ is_at_or_before-append front xs ys

-- the beginning of a list is at or before the whole
pub is_at_or_before-front : (front rest : List ℕ) → is_at_or_before front (front ++ rest) ≡ true
is_at_or_before-front [] rest = refl
is_at_or_before-front (n ∷ front) rest = is_at_or_before-same n front (front ++ rest) ∙ is_at_or_before-front front rest

-- two lists are decided at the first place where they differ: the lower number comes first
pub is_at_or_before-first_lower : (front : List ℕ) (x : ℕ) (xs : List ℕ) (y : ℕ) (ys : List ℕ) → x < y
    → is_at_or_before (front ++ x ∷ xs) (front ++ y ∷ ys) ≡ true
is_at_or_before-first_lower front x xs y ys h = is_at_or_before-append front (x ∷ xs) (y ∷ ys) ∙ is_at_or_before-lower x xs y ys h

-- two lists are decided at the first place where they differ: the higher number does not come first
pub is_at_or_before-first_higher : (front : List ℕ) (x : ℕ) (xs : List ℕ) (y : ℕ) (ys : List ℕ) → y < x
    → is_at_or_before (front ++ x ∷ xs) (front ++ y ∷ ys) ≡ false
is_at_or_before-first_higher front x xs y ys h = is_at_or_before-append front (x ∷ xs) (y ∷ ys) ∙ is_at_or_before-higher x xs y ys h

-- the first place where two lists differ has a lower number in the one
pub record IsLowerAtDifference (xs ys : List ℕ) : Type 0 where
  pub front : List ℕ
  pub x : ℕ
  pub x_rest : List ℕ
  pub y : ℕ
  pub y_rest : List ℕ
  pub xs_is : xs ≡ front ++ x ∷ x_rest
  pub ys_is : ys ≡ front ++ y ∷ y_rest
  pub lower : x < y

-- a list at or before another begins it, or is lower at their first difference
pub is_at_or_before-parts : (xs ys : List ℕ) → is_at_or_before xs ys ≡ true → ((rest : List ℕ) × (ys ≡ xs ++ rest))
    ⊎ IsLowerAtDifference xs ys
is_at_or_before-parts [] ys h = inl (ys, refl)
is_at_or_before-parts (x ∷ xs) [] h = absurd (false≢true h)
is_at_or_before-parts (x ∷ xs) (y ∷ ys) h =
    by_cases (is_at_or_before-parts xs ys) (is_at_or_before-cases x xs y ys h)
  where
    behind : x ≡ y → ((rest : List ℕ) × (ys ≡ xs ++ rest)) ⊎ IsLowerAtDifference xs ys
        → ((rest : List ℕ) × (y ∷ ys ≡ (x ∷ xs) ++ rest)) ⊎ IsLowerAtDifference (x ∷ xs) (y ∷ ys)
    behind same (inl begins) = inl (begins.0, ap (λ k. k ∷ ys) (sym same) ∙ ap (λ zs. x ∷ zs) begins.1)
    behind same (inr d) = inr (record {
      front = x ∷ d.front;
      x = d.x;
      x_rest = d.x_rest;
      y = d.y;
      y_rest = d.y_rest;
      xs_is = ap (λ zs. x ∷ zs) d.xs_is;
      ys_is = ap (λ k. k ∷ ys) (sym same) ∙ ap (λ zs. x ∷ zs) d.ys_is;
      lower = d.lower;
    })

    by_cases : (is_at_or_before xs ys ≡ true → ((rest : List ℕ) × (ys ≡ xs ++ rest)) ⊎ IsLowerAtDifference xs ys)
        → (x < y) ⊎ ((x ≡ y) × (is_at_or_before xs ys ≡ true)) → ((rest : List ℕ) × (y ∷ ys ≡ (x ∷ xs) ++ rest))
        ⊎ IsLowerAtDifference (x ∷ xs) (y ∷ ys)
    by_cases rest (inl lower) = inr (record {
      front = [];
      x = x;
      x_rest = xs;
      y = y;
      y_rest = ys;
      xs_is = refl;
      ys_is =
          refl;
      lower = lower;
    })
    by_cases rest (inr same) = behind same.0 (rest same.1)

-- some calls have one least order
pub IsLeastOrder-unique : (start : Contents) (calls : List Operation) (a b : List ℕ) → IsLeastOrder start calls a
    → IsLeastOrder start calls b → a ≡ b
IsLeastOrder-unique start calls a b least_a least_b =
    is_at_or_before-antisym a b (least_a.least b least_b.is_order) (least_b.least a least_a.is_order)
