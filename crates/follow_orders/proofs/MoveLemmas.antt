-- A completed call comes to a place of the list: which call precedes which stays, and so do fronts, by the calls' new places.
use Rattle.follow_orders.proofs.Common.{◌≡◌, ℕ, ◌+◌, ◌-◌, ◌<◌, ◌≤◌, Bool, true, false, List, Some, [], ◌∷◌, ◌++◌, length, take, map, get_or, refl, sym}
use Rattle.follow_orders.proofs.Common.{ap, ◌∙◌, min, subst, inl, inr, ⊎_elim, arith, nat_lt, ◌≢◌, ◌⊎◌, cond, slice_get, option_map, IsTrue, IsSomeAnd}
use Rattle.follow_orders.proofs.Common.{All, AllPairs, Contains, cons_option, insert, false_from_ne_true, both_ways, cases_order, cases_lt, lt-ltb}
use Rattle.follow_orders.proofs.Common.{le-ltb, ltb-true, length-map, take-map, map-append, get_or_default, take-append-le, take_at, length-insert}
use Rattle.follow_orders.proofs.Common.{get_or-insert_below, get_or-insert_at, get_or-insert_above, All-map, All-weaker, All-push, Contains-push}
use Rattle.follow_orders.proofs.Common.{Contains-append_left, all_pairs_push, same_Some, slice_get_within, slice_get-get_or, slice_get_past}
use Rattle.follow_orders.proofs.Common.{slice_get-map, Operation, is_completed, is_before, precedes, Contents, calls_at, after_calls, IsLegal}
use Rattle.follow_orders.proofs.Common.{IsCompletedAt, PrecedesAt, IsFront, completed, undone, AreMarked, has_number, All-at, place-push, AllPairs-map}
use Rattle.follow_orders.proofs.Common.{AllPairs-weaker, Contains-map, Contains-from_map, slice_get-below, has_number-Contains}
use Rattle.follow_orders.proofs.Common.{has_number-from_Contains, MayCome, IsClosed, HasCompleted, moved_up, moved, places, IsUndone, IsStateBut, Level}
use Rattle.search.specs.Standing.{pairs_after}

-- ---- the new places

pub moved_low : (p n : ℕ) → n < p → moved_up p n ≡ n
moved_low p n lt = ap (λ b. cond b n (n + 1)) (lt-ltb n p lt)

moved_high : (p n : ℕ) → p ≤ n → moved_up p n ≡ n + 1
moved_high p n le = ap (λ b. cond b n (n + 1)) (le-ltb n p le)

moved_cases : (p n : ℕ) → ((n < p) × (moved_up p n ≡ n)) ⊎ ((p ≤ n) × (moved_up p n ≡ n + 1))
moved_cases p n = ⊎_elim (λ lt. inl (lt, moved_low p n lt)) (λ le. inr (le, moved_high p n le)) (cases_lt n p)

-- none is the place of the call that came
moved_other : (p n : ℕ) → moved_up p n ≢ p
moved_other p n same = ⊎_elim (λ low. absurd (omega (arith, low.0, low.1, same))) (λ high. absurd (omega (arith, high.0, high.1, same)))
    (moved_cases p n)

-- no two are the same
moved_apart : (p m n : ℕ) → moved_up p m ≡ moved_up p n → m ≡ n
moved_apart p m n same = ⊎_elim
    (λ a. ⊎_elim (λ b. omega (arith, a.1, b.1, same)) (λ b. absurd (omega (arith, a.0, a.1, b.0, b.1, same))) (moved_cases p n))
    (λ a. ⊎_elim (λ b. absurd (omega (arith, a.0, a.1, b.0, b.1, same))) (λ b. omega (arith, a.1, b.1, same)) (moved_cases p n))
    (moved_cases p m)

-- each other place is one of them
came_from : (p k : ℕ) → (k ≡ p) ⊎ ((n : ℕ) × (k ≡ moved_up p n))
came_from p k = ⊎_elim (λ same. inl same) (λ apart. inr (⊎_elim (λ lower. (k, sym (moved_low p k lower))) (λ higher. above higher) apart))
    (cases_order k p)
  where
    above : p < k → (n : ℕ) × (k ≡ moved_up p n)
    above higher = let is = moved_high p (k - 1) (omega arith) in (k - 1, omega (arith, is, higher))

-- ---- lists

-- what is at a place of a mapped list
place-map : {X Y : Type 0} (f : X → Y) (xs : List X) (i : ℕ) (y : Y) → slice_get (map f xs) i ≡ Some y
    → (x : X) × (slice_get xs i ≡ Some x) × (y ≡ f x)
place-map f xs i y is =
    let within = slice_get_within (map f xs) i y is in
    let (x, here) = slice_get-below xs i (omega (arith, within, length-map xs f)) in
    (x, here, same_Some y (f x) (sym is ∙ slice_get-map f xs i ∙ ap (option_map f) here))

pub places_moved : (p : ℕ) (levels : List Level) → places (map (moved p) levels) ≡ map (moved_up p) (places levels)
places_moved p [] = refl
places_moved p (level ∷ levels) = ap (λ rest. moved_up p level.place ∷ rest) (places_moved p levels)

-- ---- the calls

module _ (calls : List Operation) (op : Operation) (p : ℕ) (within : p ≤ length calls) where
  abbrev more : List Operation
  more = insert calls p op

  pub length_more : length more ≡ length calls + 1
  length_more = length-insert calls p op within

  own : slice_get more p ≡ Some op
  own = slice_get-get_or more p op (omega (arith, length_more)) ∙ ap (λ a. Some a) (get_or-insert_at calls p op op within)

  moved_past : (n : ℕ) → p ≤ n → slice_get more (n + 1) ≡ slice_get calls n
  moved_past n le = ⊎_elim
      (λ lt. slice_get-get_or more (n + 1) op (omega (arith, length_more))
      ∙ ap (λ a. Some a) (get_or-insert_above calls p op op n le within)
      ∙ sym (slice_get-get_or calls n op lt))
      (λ past. slice_get_past more (n + 1) (omega (arith, length_more)) ∙ sym (slice_get_past calls n past))
      (cases_lt n (length calls))

  moved_before : (n : ℕ) → n < p → slice_get more n ≡ slice_get calls n
  moved_before n lt = slice_get-get_or more n op (omega (arith, length_more))
      ∙ ap (λ a. Some a) (get_or-insert_below calls p op op n lt within)
      ∙ sym (slice_get-get_or calls n op (omega arith))

  moved_same : (n : ℕ) → slice_get more (moved_up p n) ≡ slice_get calls n
  moved_same n = ⊎_elim (λ low. ap (slice_get more) low.1 ∙ moved_before n low.0) (λ high. ap (slice_get more) high.1 ∙ moved_past n high.0)
      (moved_cases p n)

  moved_within : (n : ℕ) → n < length calls → moved_up p n < length more
  moved_within n lt = ⊎_elim (λ low. omega (arith, low.1, lt, length_more)) (λ high. omega (arith, high.1, lt, length_more)) (moved_cases p n)

  within_before : (n : ℕ) → moved_up p n < length more → n < length calls
  within_before n lt = ⊎_elim (λ low. omega (arith, low.0, within)) (λ high. omega (arith, high.1, lt, length_more)) (moved_cases p n)

  calls_at_same : (path : List ℕ) → calls_at more (map (moved_up p) path) ≡ calls_at calls path
  calls_at_same [] = refl
  calls_at_same (k ∷ path) = ap (λ rest. cons_option (slice_get more (moved_up p k)) rest) (calls_at_same path)
      ∙ ap (λ o. cons_option o (calls_at calls path)) (moved_same k)

  moved_known : (path : List ℕ) → All (λ n. n < length calls) path → All (λ n. n < length more) (map (moved_up p) path)
  moved_known path h = All-map (λ n. n < length more) (moved_up p) path
      (All-weaker (λ n. n < length calls) (λ n. moved_up p n < length more) moved_within path h)

  moved_distinct : (path : List ℕ) → AllPairs (λ m n. m ≢ n) path → AllPairs (λ m n. m ≢ n) (map (moved_up p) path)
  moved_distinct path h = AllPairs-map (λ m n. m ≢ n) (moved_up p) path
      (AllPairs-weaker (λ m n. m ≢ n) (λ m n. moved_up p m ≢ moved_up p n) path
      (λ m n m_in n_in other same. other (moved_apart p m n same)) h)

  moved_out : (path : List ℕ) → Contains (map (moved_up p) path) p → ⊥
  moved_out path h = let (n, inside, is) = Contains-from_map (moved_up p) path p h in moved_other p n is

  completed_before : (n : ℕ) → IsCompletedAt more (moved_up p n) → IsCompletedAt calls n
  completed_before n done = subst (λ o. IsSomeAnd o (λ a. IsTrue (is_completed a))) (moved_same n) done

  -- ---- marks

  number_moved : (path : List ℕ) (n : ℕ) → has_number (map (moved_up p) path) (moved_up p n) ≡ has_number path n
  number_moved path n = by (has_number path n) refl
    where
      by : (b : Bool) → has_number path n ≡ b → has_number (map (moved_up p) path) (moved_up p n) ≡ b
      by true is = has_number-from_Contains (map (moved_up p) path) (moved_up p n)
          (Contains-map (moved_up p) path n (has_number-Contains path n is))
      by false is = false_from_ne_true (has_number (map (moved_up p) path) (moved_up p n))
          (λ yes.
          let (m, inside, same) = Contains-from_map (moved_up p) path (moved_up p n)
          (has_number-Contains (map (moved_up p) path) (moved_up p n) yes) in
          both_ways (has_number path n) is (has_number-from_Contains path n (subst (Contains path) (moved_apart p m n same) inside)))

  mark_moved : (taken : List Bool) (n : ℕ) → p ≤ length taken → get_or (insert taken p false) (moved_up p n) false ≡ get_or taken n false
  mark_moved taken n le = ⊎_elim
      (λ low. ap (λ j. get_or (insert taken p false) j false) low.1 ∙ get_or-insert_below taken p false false n low.0 le)
      (λ high. ap (λ j. get_or (insert taken p false) j false) high.1 ∙ get_or-insert_above taken p false false n high.0 le)
      (moved_cases p n)

  marked_moved : (path : List ℕ) (taken : List Bool) (low : ℕ) → AreMarked (length calls) path taken low
      → AreMarked (length more) (map (moved_up p) path) (insert taken p false) (min low p)
  marked_moved path taken low m = record {
    all = length-insert taken p false le ∙ ap (λ j. j + 1) m.all ∙ sym length_more;
    marks = λ k lt. ⊎_elim (λ same. mark_own k same) (λ other. mark_other k other.0 lt other.1) (came_from p k);
    within = let few = m.within in omega (arith, few, length_more);
    below = λ k lt. subst (Contains (map (moved_up p) path)) (moved_low p k (omega arith))
        (Contains-map (moved_up p) path k (m.below k (omega arith)));
  }
    where
      le : p ≤ length taken
      le = let all = m.all in omega (arith, all, within)

      mark_own : (k : ℕ) → k ≡ p → get_or (insert taken p false) k false ≡ has_number (map (moved_up p) path) k
      mark_own k same = ap (λ j. get_or (insert taken p false) j false) same ∙ get_or-insert_at taken p false false le
          ∙ sym (false_from_ne_true (has_number (map (moved_up p) path) k)
          (λ yes. moved_out path (subst (Contains (map (moved_up p) path)) same (has_number-Contains (map (moved_up p) path) k yes))))

      mark_other : (k n : ℕ) → k < length more → k ≡ moved_up p n
          → get_or (insert taken p false) k false ≡ has_number (map (moved_up p) path) k
      mark_other k n lt is = ap (λ j. get_or (insert taken p false) j false) is ∙ mark_moved taken n le
          ∙ m.marks n (within_before n (subst (λ j. j < length more) is lt))
          ∙ sym (number_moved path n) ∙ ap (has_number (map (moved_up p) path)) (sym is)

  -- ---- the call is answered after all others began

  module _ (may : MayCome calls op) where
    preceded_before : (m k : ℕ) → PrecedesAt more m (moved_up p k) → (n : ℕ) × (m ≡ moved_up p n) × PrecedesAt calls n k
    preceded_before m k (a, b, a_here, b_here, e) = ⊎_elim (λ same. absurd (not_own same))
        (λ other. (other.0, other.1, (a, b, sym (moved_same other.0) ∙ ap (slice_get more) (sym other.1) ∙ a_here, b_old, e)))
        (came_from p m)
      where
        b_old : slice_get calls k ≡ Some b
        b_old = sym (moved_same k) ∙ b_here

        not_own : m ≡ p → ⊥
        not_own same =
            let a_is : op ≡ a = same_Some op a (sym own ∙ ap (slice_get more) (sym same) ∙ a_here) in
            let test : nat_lt may.response.res b.inv ≡ true =
            ap (λ r. is_before r b.inv) (sym may.completed) ∙ ap (λ (x : Operation). precedes x b) a_is ∙ e in
            let late = ltb-true may.response.res b.inv test in
            let early = All-at (λ (x : Operation). x.inv < may.response.res) calls k b may.after_invocations b_old in
            omega (arith, late, early)

    preceded_own : (m : ℕ) → PrecedesAt more m p → (n : ℕ) × (m ≡ moved_up p n) × IsCompletedAt calls n
    preceded_own m (a, b, a_here, b_here, e) = ⊎_elim (λ same. absurd (not_own same))
        (λ other. (
          other.0,
          other.1,
          subst (λ o. IsSomeAnd o (λ (x : Operation). IsTrue (is_completed x)))
              (sym (sym (moved_same other.0) ∙ ap (slice_get more) (sym other.1) ∙ a_here)) (completed a b e),
        ))
        (came_from p m)
      where
        not_own : m ≡ p → ⊥
        not_own same =
            let a_is : op ≡ a = same_Some op a (sym own ∙ ap (slice_get more) (sym same) ∙ a_here) in
            let b_is : op ≡ b = same_Some op b (sym own ∙ b_here) in
            both_ways (precedes op op) may.apart
            (ap (λ (x : Operation). precedes x op) a_is ∙ ap (λ (x : Operation). precedes a x) b_is ∙ e)

    closed_moved : (path : List ℕ) → IsClosed calls path → IsClosed more (map (moved_up p) path)
    closed_moved path h = record {
      known = moved_known path h.known;
      distinct = moved_distinct path h.distinct;
      closed = λ i m k is e.
          let (n, here, k_is) = place-map (moved_up p) path i k is in
          let (old, m_is, before) = preceded_before m n (subst (PrecedesAt more m) k_is e) in
          subst (Contains (take i (map (moved_up p) path))) (sym m_is)
          (subst (λ xs. Contains xs (moved_up p old)) (sym (take-map (moved_up p) i path))
          (Contains-map (moved_up p) (take i path) old (h.closed i old n here before)));
    }

    pub front_moved : (start : Contents) (path : List ℕ) → IsFront start calls path → IsFront start more (map (moved_up p) path)
    front_moved start path h =
        let closed = closed_moved path (record { known = h.known; distinct = h.distinct; closed = h.closed }) in
        record {
          known = closed.known;
          distinct = closed.distinct;
          closed = closed.closed;
          legal = subst (IsLegal start) (sym (calls_at_same path)) h.legal;
        }

    undone_moved : (start : Contents) (path : List ℕ) (level : Level) → IsUndone start calls path level
        → IsUndone start more (map (moved_up p) path) (moved p level)
    undone_moved start path level h =
        ap (λ xs. undone (pairs_after start more xs) level.undo) (sym (map-append (moved_up p) path (level.place ∷ [])))
        ∙ ap (λ of. undone (after_calls start of) level.undo) (calls_at_same (path ++ level.place ∷ []))
        ∙ h
        ∙ ap (after_calls start) (sym (calls_at_same path))

    -- a front is in the same state as before
    pub stands_moved : (start : Contents) (levels : List Level) (pairs : Contents) (taken : List Bool) (low : ℕ)
        → IsStateBut start calls levels pairs taken low
        → IsStateBut start more (map (moved p) levels) pairs (insert taken p false) (min low p)
    stands_moved start levels pairs taken low s =
        let path_is = places_moved p levels in
        record {
          is_front = subst (IsFront start more) (sym path_is) (front_moved start (places levels) s.is_front);
          holds = s.holds ∙ ap (after_calls start) (sym (calls_at_same (places levels))) ∙ ap (pairs_after start more) (sym path_is);
          undoes = λ i level is.
              let (old, here, level_is) = place-map (moved p) levels i level is in
              let path = take i (places levels) in
              let front_is : take i (places (map (moved p) levels)) ≡ map (moved_up p) path =
              ap (take i) path_is ∙ take-map (moved_up p) i (places levels) in
              subst (λ xs. IsUndone start more xs level) (sym front_is)
              (subst (IsUndone start more (map (moved_up p) path)) (sym level_is) (undone_moved start path old (s.undoes i old here)));
          marked = subst (λ xs. AreMarked (length more) xs (insert taken p false) (min low p)) (sym path_is)
              (marked_moved (places levels) taken low s.marked);
        }

    -- ---- it goes to the end of an order

    module _ (path : List ℕ) (complete : HasCompleted calls path) where
      pub closed_last : IsClosed calls path → IsClosed more (map (moved_up p) path ++ p ∷ [])
      closed_last h =
          let others = closed_moved path h in
          record {
            known = All-push (λ n. n < length more) (map (moved_up p) path) p others.known (omega (arith, length_more));
            distinct = all_pairs_push (λ m n. m ≢ n) (map (moved_up p) path) p others.distinct
                (λ k d lt is. moved_out path (k, lt, get_or_default (map (moved_up p) path) k p d lt ∙ is));
            closed = λ i m k place e. ⊎_elim
                (λ old.
                let lt = slice_get_within (map (moved_up p) path) i k old in
                subst (λ taken. Contains taken m) (sym (take-append-le i (map (moved_up p) path) (p ∷ []) (omega (arith, lt))))
                (others.closed i m k old e))
                (λ pushed.
                let (n, m_is, done) = preceded_own m (subst (PrecedesAt more m) pushed.1 e) in
                subst (λ taken. Contains taken m) (sym (take_at (map (moved_up p) path) (p ∷ []) i pushed.0))
                (subst (Contains (map (moved_up p) path)) (sym m_is) (Contains-map (moved_up p) path n (complete n done))))
                (place-push (map (moved_up p) path) p i k place);
          }

      pub complete_last : HasCompleted more (map (moved_up p) path ++ p ∷ [])
      complete_last k done = ⊎_elim
          (λ same. subst (Contains (map (moved_up p) path ++ p ∷ [])) (sym same) (Contains-push (map (moved_up p) path) p))
          (λ other. subst (Contains (map (moved_up p) path ++ p ∷ [])) (sym other.1)
          (Contains-append_left (map (moved_up p) path) (p ∷ []) (moved_up p other.0)
          (Contains-map (moved_up p) path other.0 (complete other.0 (completed_before other.0 (subst (IsCompletedAt more) other.1 done))))))
          (came_from p k)
