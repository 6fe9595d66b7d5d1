-- The points of calls in their orders.
use Rattle.merge_orders.proofs.Common.{◌≡◌, ℕ, ◌+◌, ◌<◌, ◌≤◌, ◌==◌, Bool, true, false, cond, List, [], ◌∷◌, map, take, Option, Some, None, refl}
use Rattle.merge_orders.proofs.Common.{sym, ap, ◌∙◌, subst, ⊎_elim, arith, ◌≢◌, slice_get, All, AllPairs, Contains, eq-eqb, ne_eqb, false≢true}
use Rattle.merge_orders.proofs.Common.{All-contains, AllPairs-cons, same_Some, Operation, greatest, has_number, precedes, calls_at}
use Rattle.merge_orders.proofs.Common.{KeepsPrecedence, point_in, point_of, All-from_contains, AllPairs-nil, AllPairs-head, AllPairs-tail}
use Rattle.merge_orders.proofs.Common.{Contains-first, Contains-later, Contains-nil, Contains-cases, Contains-at, has_number-Contains}
use Rattle.merge_orders.proofs.Common.{has_number-from_Contains, AreRelatedAs, AllPairs-weaker}
use Rattle.std.proofs.Common.{zero, suc, inl, inr, add-one}
use Rattle.std.specs.Prelude.{◌⊎◌}
use Rattle.std.proofs.lemmas.Bool.{eqb-true, eqb-false, ltb-true, ltb-false}
use Rattle.std.specs.List.{cons_option}
use Rattle.std.proofs.lemmas.Option.{none-some}
use Rattle.events.specs.declared.operation.Response.{Response}
use Rattle.events.specs.Precedence.{is_before}
use Rattle.merge_orders.specs.Merge.{up_to}
use Rattle.events.proofs.NumberLemmas.{greatest_bound, greatest_is}
use Rattle.events.proofs.FilterLemmas.{Contains-filter_map, Contains-from_filter_map, AllPairs-from_filter_map}

-- what comes up to a number's place is in the list
pub Contains-from_up_to : (n : ℕ) (order : List ℕ) (k : ℕ) → Contains (up_to n order) k → Contains order k
Contains-from_up_to n [] k h = h
Contains-from_up_to n (m ∷ order) k h = from (m == n) h (Contains-from_up_to n order k)
  where
    from : (b : Bool) → Contains (cond b (m ∷ []) (m ∷ up_to n order)) k → (Contains (up_to n order) k → Contains order k)
        → Contains (m ∷ order) k
    from true h rest =
        ⊎_elim (λ same. subst (Contains (m ∷ order)) same (Contains-first m order)) (λ later. absurd (Contains-nil k later))
        (Contains-cases m [] k h)
    from false h rest =
        ⊎_elim (λ same. subst (Contains (m ∷ order)) same (Contains-first m order)) (λ later. Contains-later m order k (rest later))
        (Contains-cases m (up_to n order) k h)

-- a number of a list is among those up to its place
pub Contains-up_to : (n : ℕ) (order : List ℕ) → Contains order n → Contains (up_to n order) n
Contains-up_to n [] h = h
Contains-up_to n (m ∷ order) h =
    ⊎_elim (λ same. rw (eq-eqb m n same) (subst (Contains (m ∷ [])) same (Contains-first m [])))
    (λ later. onto (m == n) refl (Contains-up_to n order later))
    (Contains-cases m order n h)
  where
    onto : (b : Bool) → (m == n) ≡ b → Contains (up_to n order) n → Contains (cond b (m ∷ []) (m ∷ up_to n order)) n
    onto true e h = subst (Contains (m ∷ [])) (eqb-true m n e) (Contains-first m [])
    onto false e h = Contains-later m (up_to n order) n h

-- what comes up to a number's place is the number or comes before it
pub before-up_to : (R : ℕ → ℕ → Type 0) (n : ℕ) (order : List ℕ) (k : ℕ) → AllPairs R order → Contains order n
    → Contains (up_to n order) k → (k ≡ n) ⊎ R k n
before-up_to R n [] k h is up = absurd (Contains-nil n is)
before-up_to R n (m ∷ order) k h is up = from (m == n) refl up (λ later. before-up_to R n order k (AllPairs-tail R m order h) later)
  where
    from : (b : Bool) → (m == n) ≡ b → Contains (cond b (m ∷ []) (m ∷ up_to n order)) k
        → (Contains order n → Contains (up_to n order) k → (k ≡ n) ⊎ R k n)
        → (k ≡ n) ⊎ R k n
    from true e up rest = ⊎_elim (λ same. inl (sym same ∙ eqb-true m n e)) (λ later. absurd (Contains-nil k later))
        (Contains-cases m [] k up)
    from false e up rest =
        let later = ⊎_elim {C = Contains order n} (λ same. absurd (eqb-false m n e same)) (λ in_rest. in_rest)
        (Contains-cases m order n is) in
        ⊎_elim (λ same. inr (subst (λ j. R j n) same (All-contains (R m) order n (AllPairs-head R m order h) later)))
        (λ k_later. rest later k_later)
        (Contains-cases m (up_to n order) k up)

-- a call's point is not before its invocation
pub point_in-invocation : (calls : List Operation) (order : List ℕ) (n : ℕ) (a : Operation) → Contains order n → slice_get calls n ≡ Some a
    → a.inv ≤ point_in calls order n
point_in-invocation calls order n a is here =
    greatest_bound (λ b. b.inv) (calls_at calls (up_to n order)) a
    (Contains-filter_map (slice_get calls) (up_to n order) n a (Contains-up_to n order is) here)

-- the call at whose invocation the point of a call is: itself, or one that comes before it in its
-- order
pub record IsPointOf (calls : List Operation) (order : List ℕ) (n : ℕ) : Type 0 where
  pub number : ℕ
  pub call : Operation
  pub up_to_it : Contains (up_to n order) number
  pub here : slice_get calls number ≡ Some call
  pub point : point_in calls order n ≡ call.inv

-- each call of an order has its point at such an invocation
pub point_in-is : (calls : List Operation) (order : List ℕ) (n : ℕ) (a : Operation) → Contains order n → slice_get calls n ≡ Some a
    → IsPointOf calls order n
point_in-is calls order n a is here =
    let (c, c_is, same) =
    greatest_is (λ b. b.inv) (calls_at calls (up_to n order)) a
    (Contains-filter_map (slice_get calls) (up_to n order) n a (Contains-up_to n order is) here) in
    let (k, k_is, k_here) = Contains-from_filter_map (slice_get calls) (up_to n order) c c_is in
    record { number = k; call = c; up_to_it = k_is; here = k_here; point = same }

-- a call does not precede the one at whose invocation its point is
pub not_before_point : (calls : List Operation) (order : List ℕ) (n : ℕ) (a : Operation) → All (λ a. precedes a a ≡ false) calls
    → KeepsPrecedence (calls_at calls order) → Contains order n
    → slice_get calls n ≡ Some a → (p : IsPointOf calls order n) → precedes a p.call ≡ false
not_before_point calls order n a none keeps is here p =
    let R = λ (a b : Operation). precedes b a ≡ false in
    ⊎_elim
    (λ same. subst (λ c. precedes a c ≡ false) (same_Some a p.call (sym here ∙ (ap (slice_get calls) (sym same) ∙ p.here)))
    (All-contains (λ a. precedes a a ≡ false) calls a none (Contains-at calls n a here)))
    (λ earlier. earlier p.call a p.here here)
    (before-up_to (AreRelatedAs R (slice_get calls)) n order p.number
    (AllPairs-from_filter_map R (slice_get calls) order keeps) is p.up_to_it)

-- the point of a call that precedes another is before the invocation of that
pub point_in-precedes : (calls : List Operation) (order : List ℕ) (m : ℕ) (a b : Operation) → All (λ a. precedes a a ≡ false) calls
    → KeepsPrecedence (calls_at calls order)
    → Contains order m → slice_get calls m ≡ Some a → precedes a b ≡ true → point_in calls order m < b.inv
point_in-precedes calls order m a b none keeps is here before =
    let p = point_in-is calls order m a is here in
    rw p.point (between a.response p.call.inv b.inv (not_before_point calls order m a none keeps is here p) before)
  where
    between : (response : Option Response) (i j : ℕ) → is_before response i ≡ false → is_before response j ≡ true → i < j
    between None i j after before = absurd (false≢true before)
    between (Some r) i j after before = omega (arith, ltb-false r.res i after, ltb-true r.res j before)

-- the points of an order rise along it
pub point_in-rises : (calls : List Operation) (order : List ℕ) → AllPairs (λ m n. m ≢ n) order
    → AllPairs (λ m n. point_in calls order m ≤ point_in calls order n) order
point_in-rises calls [] distinct = AllPairs-nil (λ m n. point_in calls [] m ≤ point_in calls [] n)
point_in-rises calls (k ∷ order) distinct =
    let others = AllPairs-head (λ m n. m ≢ n) k order distinct in
    AllPairs-cons (λ m n. point_in calls (k ∷ order) m ≤ point_in calls (k ∷ order) n) k order
    (All-from_contains (λ n. point_in calls (k ∷ order) k ≤ point_in calls (k ∷ order) n) order
    (λ n is. rw (first, later n is) (first_least (slice_get calls k) n)))
    (AllPairs-weaker (λ m n. point_in calls order m ≤ point_in calls order n)
    (λ m n. point_in calls (k ∷ order) m ≤ point_in calls (k ∷ order) n) order
    (λ m n m_is n_is le. rw (later m m_is, later n n_is) (both (slice_get calls k) m n le))
    (point_in-rises calls order (AllPairs-tail (λ m n. m ≢ n) k order distinct)))
  where
    first : up_to k (k ∷ order) ≡ k ∷ []
    first = rw (eq-eqb k k refl) refl

    later : (n : ℕ) → Contains order n → up_to n (k ∷ order) ≡ k ∷ up_to n order
    later n is = rw (ne_eqb k n (All-contains (λ n. k ≢ n) order n (AllPairs-head (λ m n. m ≢ n) k order distinct) is)) refl

    first_least : (o : Option Operation) (n : ℕ)
        → greatest (map (λ a. a.inv) (cons_option o [])) ≤ greatest (map (λ a. a.inv) (cons_option o (calls_at calls (up_to n order))))
    first_least None n = omega arith
    first_least (Some a) n = omega arith

    both : (o : Option Operation) (m n : ℕ) → point_in calls order m ≤ point_in calls order n
        → greatest (map (λ a. a.inv) (cons_option o (calls_at calls (up_to m order)))) ≤ greatest
        (map (λ a. a.inv) (cons_option o (calls_at calls (up_to n order))))
    both None m n le = le
    both (Some a) m n le = omega arith

-- the order that the point of a call is taken from: the first one that has it
pub record IsOrderAt (calls : List Operation) (orders : List (List ℕ)) (n : ℕ) : Type 0 where
  pub order : List ℕ
  pub is : Contains orders order
  pub number : Contains order n
  pub point : point_of calls orders n ≡ point_in calls order n

-- a call that is in some order has its point there
pub point_of-is : (calls : List Operation) (orders : List (List ℕ)) (order : List ℕ) (n : ℕ) → Contains orders order → Contains order n
    → IsOrderAt calls orders n
point_of-is calls [] order n is number = absurd (Contains-nil order is)
point_of-is calls (first ∷ orders) order n is number = at (has_number first n) refl (λ later. point_of-is calls orders order n later number)
  where
    at : (b : Bool) → has_number first n ≡ b → (Contains orders order → IsOrderAt calls orders n) → IsOrderAt calls (first ∷ orders) n
    at true e rest = record { order = first; is = Contains-first first orders; number = has_number-Contains first n e; point = rw e refl }
    at false e rest = ⊎_elim
        (λ same. absurd (false≢true (sym e ∙ has_number-from_Contains first n (subst (λ o. Contains o n) (sym same) number))))
        (λ later. let found = rest later in
        record {
          order = found.order;
          is = Contains-later first orders found.order found.is;
          number = found.number;
          point =
              rw e found.point;
        })
        (Contains-cases first orders order is)

-- a call that precedes another has the smaller point
pub point_of-precedes : (calls : List Operation) (orders : List (List ℕ)) (m n : ℕ) (a b : Operation)
    → All (λ a. precedes a a ≡ false) calls
    → All (λ order. KeepsPrecedence (calls_at calls order)) orders → IsOrderAt calls orders m → IsOrderAt calls orders n
    → slice_get calls m ≡ Some a → slice_get calls n ≡ Some b → precedes a b ≡ true → point_of calls orders m < point_of calls orders n
point_of-precedes calls orders m n a b none keep at_m at_n m_is n_is before =
    rw (at_m.point, at_n.point)
    (omega (
      arith,
      point_in-precedes calls at_m.order m a b none
          (All-contains (λ order. KeepsPrecedence (calls_at calls order)) orders at_m.order keep at_m.is) at_m.number m_is before,
      point_in-invocation calls at_n.order n b at_n.number n_is,
    ))

-- what comes up to the number at a place is the front up to that place
up_to-front : (order : List ℕ) (place n : ℕ) → AllPairs (λ m n. m ≢ n) order → slice_get order place ≡ Some n
    → up_to n order ≡ take (suc place) order
up_to-front [] place n distinct h = absurd (none-some n h)
up_to-front (m ∷ order) zero n distinct h = rw (eq-eqb m n (same_Some m n h)) refl
up_to-front (m ∷ order) (suc place) n distinct h =
    let other = All-contains (λ n. m ≢ n) order n (AllPairs-head (λ m n. m ≢ n) m order distinct) (Contains-at order place n h) in
    rw (ne_eqb m n other) (ap (λ ns. m ∷ ns) (up_to-front order place n (AllPairs-tail (λ m n. m ≢ n) m order distinct) h))

-- the point of the call at a place of an order is the greatest place of an invocation so far
pub point_in-at : (calls : List Operation) (order : List ℕ) (place n : ℕ) → AllPairs (λ m n. m ≢ n) order → slice_get order place ≡ Some n
    → point_in calls order n ≡ greatest (map (λ a. a.inv) (calls_at calls (take (place + 1) order)))
point_in-at calls order place n distinct h = rw (add-one place, up_to-front order place n distinct h) refl
