-- A front, and an order of the calls that are left after it, are an order of all calls.
use Rattle.follow_repairs.proofs.Common.{◌≡◌, ℕ, ◌<◌, Bool, true, false, List, [], ◌∷◌, ◌++◌, length, take, get_or, refl, sym, ap, ◌∙◌, subst, ⊎_elim}
use Rattle.follow_repairs.proofs.Common.{arith, ◌≢◌, slice_get, slice_index, map, IsTrue, IsSomeAnd, All, AllPairs, Contains, false_from_ne_true}
use Rattle.follow_repairs.proofs.Common.{both_ways, cases_order, All-append, All-head, All-tail, All-contains, Contains-append_left}
use Rattle.follow_repairs.proofs.Common.{Contains-append_right, slice_get-get_or, get_or_from_slice_get, Operation, is_completed, precedes}
use Rattle.follow_repairs.proofs.Common.{NonePrecedesItself, calls_at, IsLegal, KeepsPrecedence, IsCompletedAt, IsOrder, after_calls, IsLegal-append}
use Rattle.follow_repairs.proofs.Common.{calls_at-append, IsCompletedAt-below, IsLegalOrder-from_front, AllPairs-append, AllPairs-at, AllPairs-from_at}
use Rattle.follow_repairs.proofs.Common.{All-at, All-from_contains, Contains-at, place_of-Contains, place_before-Contains, AreLeft}
use Rattle.map_object.specs.MapObject.{Contents}
use Rattle.memo.specs.Fronts.{IsFront}
use Rattle.search.specs.Standing.{pairs_after}
use Rattle.events.proofs.NumberLemmas.{has_number-Contains, has_number-from_Contains}
use Rattle.std.specs.List.{cons_option}
use Rattle.orders.proofs.CallsAtLemmas.{slice_get-calls_at, length-calls_at, number_at}
use Rattle.events.specs.Lists.{has_number}
use Rattle.events.proofs.FilterLemmas.{AllPairs-weaker, AllPairs-map, Contains-map, Contains-from_map}

-- what is in the beginning of a list is in the list
Contains-from_take : (xs : List ℕ) (i n : ℕ) → Contains (take i xs) n → Contains xs n
Contains-from_take xs i n h = let (j, before, there) = place_before-Contains xs i n h in Contains-at xs j n there

module _ (calls : List Operation) (path left : List ℕ) (are_left : AreLeft calls path left) where
  pub left_known : All (λ n. n < length calls) left
  left_known = All-from_contains (λ n. n < length calls) left (λ n h. ((are_left.each n).0 h).0)

  -- the calls that are left rise by invocation, and none precedes itself
  pub left_rises : AllPairs (λ a b. a.inv < b.inv) calls → AllPairs (λ a b. a.inv < b.inv) (calls_at calls left)
  left_rises rising = AllPairs-from_at (λ a b. a.inv < b.inv) (calls_at calls left)
      (λ i j a b lt first second.
      let (m, m_here, m_call) = number_at calls left i a left_known first in
      let (n, n_here, n_call) = number_at calls left j b left_known second in
      AllPairs-at (λ a b. a.inv < b.inv) calls m n a b rising (AllPairs-at (λ m n. m < n) left i j m n are_left.rising lt m_here n_here) m_call
      n_call)

  pub left_apart : NonePrecedesItself calls → NonePrecedesItself (calls_at calls left)
  left_apart apart = All-from_contains (λ a. precedes a a ≡ false) (calls_at calls left)
      (λ a h.
      let (i, is) = place_of-Contains (calls_at calls left) a h in
      let (m, m_here, m_call) = number_at calls left i a left_known is in
      All-at (λ a. precedes a a ≡ false) calls m a apart m_call)

  -- the calls of an order of those that are left
  calls_named : (order : List ℕ) → All (λ i. i < length left) order
      → calls_at calls (map (slice_index left) order) ≡ calls_at (calls_at calls left) order
  calls_named [] known = refl
  calls_named (i ∷ order) known =
      let here = slice_get-get_or left i 0 (All-head (λ i. i < length left) i order known) in
      let same = slice_get-calls_at calls left i (get_or left i 0) left_known here in
      ap (λ rest. cons_option (slice_get calls (get_or left i 0)) rest) (calls_named order (All-tail (λ i. i < length left) i order known))
      ∙ ap (λ o. cons_option o (calls_at (calls_at calls left) order)) (sym same)

  named_in_left : (order : List ℕ) (n : ℕ) → All (λ i. i < length left) order → Contains (map (slice_index left) order) n → Contains left n
  named_in_left order n known h =
      let (i, within, is) = Contains-from_map (slice_index left) order n h in
      let lt = All-contains (λ i. i < length left) order i known within in
      subst (Contains left) is (Contains-at left i (get_or left i 0) (slice_get-get_or left i 0 lt))

  -- different places of those that are left are different places
  apart_at : (i j : ℕ) → i < length left → j < length left → i ≢ j → get_or left i 0 ≢ get_or left j 0
  apart_at i j i_lt j_lt other same = ⊎_elim (λ is. other is)
      (λ apart. ⊎_elim
      (λ lt. let up = AllPairs-at (λ m n. m < n) left i j (get_or left i 0) (get_or left j 0) are_left.rising lt
      (slice_get-get_or left i 0 i_lt) (slice_get-get_or left j 0 j_lt) in absurd (omega arith))
      (λ gt. let down = AllPairs-at (λ m n. m < n) left j i (get_or left j 0) (get_or left i 0) are_left.rising gt
      (slice_get-get_or left j 0 j_lt) (slice_get-get_or left i 0 i_lt) in absurd (omega arith)) apart)
      (cases_order i j)

  module _ (start : Contents) (front : IsFront start calls path) (order : List ℕ)
      (h : IsOrder (pairs_after start calls path) (calls_at calls left) order) where
    abbrev named : List ℕ
    named = map (slice_index left) order

    known : All (λ i. i < length left) order
    known = subst (λ size. All (λ i. i < size) order) (length-calls_at calls left left_known) h.legal_order.known

    named_known : All (λ n. n < length calls) named
    named_known = All-from_contains (λ n. n < length calls) named (λ n is. ((are_left.each n).0 (named_in_left order n known is)).0)

    named_distinct : AllPairs (λ m n. m ≢ n) named
    named_distinct = AllPairs-map (λ m n. m ≢ n) (slice_index left) order
        (AllPairs-weaker (λ i j. i ≢ j) (λ i j. get_or left i 0 ≢ get_or left j 0) order
        (λ i j i_in j_in other. apart_at i j (All-contains (λ k. k < length left) order i known i_in)
        (All-contains (λ k. k < length left) order j known j_in) other) h.legal_order.distinct)

    new : (n : ℕ) → Contains named n → Contains path n → ⊥
    new n is = ((are_left.each n).0 (named_in_left order n known is)).1

    distinct : AllPairs (λ m n. m ≢ n) (path ++ named)
    distinct = AllPairs-append (λ m n. m ≢ n) path named front.distinct named_distinct
        (All-from_contains (λ m. All (λ n. m ≢ n) named) path (λ m m_in. All-from_contains (λ n. m ≢ n) named
        (λ n n_in same. new n n_in (subst (Contains path) same m_in))))

    calls_is : calls_at calls named ≡ calls_at (calls_at calls left) order
    calls_is = calls_named order known

    -- no call that is left precedes one of the front
    across : (a b : Operation) → Contains (calls_at calls path) a → Contains (calls_at calls named) b → precedes b a ≡ false
    across a b a_in b_in = false_from_ne_true (precedes b a)
        (λ e.
        let (i, i_is) = place_of-Contains (calls_at calls path) a a_in in
        let (n, n_here, n_call) = number_at calls path i a front.known i_is in
        let (j, j_is) = place_of-Contains (calls_at calls named) b b_in in
        let (m, m_here, m_call) = number_at calls named j b named_known j_is in
        new m (Contains-at named j m m_here) (Contains-from_take path i m (front.closed i m n n_here (b, a, m_call, n_call, e))))

    precedence : KeepsPrecedence (calls_at calls (path ++ named))
    precedence = subst (AllPairs (λ a b. precedes b a ≡ false)) (sym (calls_at-append calls path named))
        (AllPairs-append (λ a b. precedes b a ≡ false) (calls_at calls path) (calls_at calls named)
        (IsLegalOrder-from_front start calls path front).precedence
        (subst (AllPairs (λ a b. precedes b a ≡ false)) (sym calls_is) h.legal_order.precedence)
        (All-from_contains (λ a. All (λ b. precedes b a ≡ false) (calls_at calls named)) (calls_at calls path)
        (λ a a_in. All-from_contains (λ b. precedes b a ≡ false) (calls_at calls named) (λ b b_in. across a b a_in b_in))))

    legal : IsLegal start (calls_at calls (path ++ named))
    legal = subst (IsLegal start) (sym (calls_at-append calls path named))
        (IsLegal-append start (calls_at calls path) (calls_at calls named) front.legal
        (subst (IsLegal (after_calls start (calls_at calls path))) (sym calls_is) h.legal_order.legal))

    complete : (n : ℕ) → IsCompletedAt calls n → Contains (path ++ named) n
    complete n done = by_test (has_number path n) refl
      where
        after : (Contains path n → ⊥) → Contains (path ++ named) n
        after out =
            let within = (are_left.each n).1 (IsCompletedAt-below calls n done, out) in
            let (i, is) = place_of-Contains left n within in
            let there = subst (λ o. IsSomeAnd o (λ a. IsTrue (is_completed a))) (sym (slice_get-calls_at calls left i n left_known is)) done in
            Contains-append_right path named n
            (subst (Contains named) (get_or_from_slice_get left i n 0 is) (Contains-map (slice_index left) order i (h.complete i there)))

        by_test : (b : Bool) → has_number path n ≡ b → Contains (path ++ named) n
        by_test true is = Contains-append_left path named n (has_number-Contains path n is)
        by_test false is = after (λ within. both_ways (has_number path n) is (has_number-from_Contains path n within))

    pub joined : IsOrder start calls (path ++ map (slice_index left) order)
    joined = record {
      legal_order = record {
        known = All-append (λ n. n < length calls) path named front.known named_known;
        distinct = distinct;
        precedence = precedence;
        legal = legal;
      };
      complete = complete;
    }

    pub order_known : All (λ i. i < length left) order
    order_known = known

-- an order of the calls that were copied is one of those that are left
pub order_of_left : (start : Contents) (calls : List Operation) (path left : List ℕ) (others : List Operation) (m : Contents) (order : List ℕ)
    → m ≡ pairs_after start calls path → others ≡ calls_at calls left → IsOrder m others order
    → IsOrder (pairs_after start calls path) (calls_at calls left) order
order_of_left start calls path left others m order m_is others_is h =
    subst (λ x. IsOrder x (calls_at calls left) order) m_is (subst (λ xs. IsOrder m xs order) others_is h)
