-- A pending call is invoked after all others: an order of these stays one.
use Rattle.follow_orders.proofs.Common.{◌≡◌, ℕ, ◌+◌, ◌<◌, ◌≤◌, Bool, false, List, None, [], ◌∷◌, ◌++◌, length, take, get_or, refl, sym, ap, ◌∙◌, subst}
use Rattle.follow_orders.proofs.Common.{⊎_elim, arith, ◌^◌, slice_get, IsTrue, IsSomeAnd, is_some, All, cons_option, false_from_ne_true, both_ways}
use Rattle.follow_orders.proofs.Common.{cases_lt, length-append, All-push, All-head, All-tail, All-contains, all_pairs_push, slice_get_within}
use Rattle.follow_orders.proofs.Common.{slice_get-get_or, get_or_from_slice_get, Operation, is_completed, is_before, precedes, Contents, calls_at}
use Rattle.follow_orders.proofs.Common.{after_calls, IsLegal, IsCompletedAt, IsOrder, PrecedesAt, IsFront, IsOrder-from_front, undone, AreMarked}
use Rattle.follow_orders.proofs.Common.{has_number, Contains-at, place_before-Contains, place-push, slice_get-append_left, slice_get-middle}
use Rattle.follow_orders.proofs.Common.{All-from_contains, Contains-map, has_number-Contains, some_at, places, IsStateBut, AreCalls, Level}

-- one mark more, of a call that is not in the front
marked_more : (size : ℕ) (path : List ℕ) (taken : List Bool) (low : ℕ) → All (λ k. k < size) path → AreMarked size path taken low
    → AreMarked (size + 1) path (taken ++ false ∷ []) low
marked_more size path taken low known m = record {
  all = length-append taken (false ∷ []) ∙ ap (λ j. j + 1) m.all;
  marks = λ k lt. ⊎_elim (λ old. early k old) (λ past. last k (omega arith)) (cases_lt k size);
  within = omega (arith, m.within);
  below = m.below;
}
  where
    early : (k : ℕ) → k < size → get_or (taken ++ false ∷ []) k false ≡ has_number path k
    early k lt =
        let inside : k < length taken = omega (arith, m.all) in
        get_or_from_slice_get (taken ++ false ∷ []) k (get_or taken k false) false
        (slice_get-append_left taken (false ∷ []) k inside ∙ slice_get-get_or taken k false inside) ∙ m.marks k lt

    last : (k : ℕ) → k ≡ size → get_or (taken ++ false ∷ []) k false ≡ has_number path k
    last k is =
        ap (λ j. get_or (taken ++ false ∷ []) j false) (is ∙ sym m.all)
        ∙ get_or_from_slice_get (taken ++ false ∷ []) (length taken) false false (slice_get-middle taken false [])
        ∙ sym (false_from_ne_true (has_number path k)
        (λ h. let lt = All-contains (λ j. j < size) path k known (has_number-Contains path k h) in omega arith))

module _ (calls : List Operation) (op : Operation) (pending : op.response ≡ None) where
  abbrev more : List Operation
  more = calls ++ op ∷ []

  length_more : length more ≡ length calls + 1
  length_more = length-append calls (op ∷ [])

  calls_at_same : (path : List ℕ) → All (λ k. k < length calls) path → calls_at more path ≡ calls_at calls path
  calls_at_same [] known = refl
  calls_at_same (k ∷ path) known =
      ap (λ rest. cons_option (slice_get more k) rest) (calls_at_same path (All-tail (λ k. k < length calls) k path known))
      ∙ ap (λ o. cons_option o (calls_at calls path))
      (slice_get-append_left calls (op ∷ []) k (All-head (λ k. k < length calls) k path known))

  preceded_before : (m k : ℕ) → k < length calls → PrecedesAt more m k → PrecedesAt calls m k
  preceded_before m k lt (a, b, a_here, b_here, e) = ⊎_elim
      (λ old. (a, b, old, sym (slice_get-append_left calls (op ∷ []) k lt) ∙ b_here, e))
      (λ own. absurd (both_ways (precedes a b)
      (ap (λ (x : Operation). is_before x.response b.inv) own.1 ∙ ap (λ r. is_before r b.inv) pending) e))
      (place-push calls op m a a_here)

  front_more : (start : Contents) (path : List ℕ) → IsFront start calls path → IsFront start more path
  front_more start path h = record {
    known = All-from_contains (λ k. k < length more) path
        (λ k is. let lt = All-contains (λ k. k < length calls) path k h.known is in omega (arith, length_more));
    distinct = h.distinct;
    closed = λ i m k is e. h.closed i m k is
        (preceded_before m k (All-contains (λ k. k < length calls) path k h.known (Contains-at path i k is)) e);
    legal = subst (IsLegal start) (sym (calls_at_same path h.known)) h.legal;
  }

  pub stands_more : (start : Contents) (levels : List Level) (pairs : Contents) (taken t : List Bool) (low : ℕ) → t ≡ taken ++ false ∷ []
      → IsStateBut start calls levels pairs taken low → IsStateBut start more levels pairs t low
  stands_more start levels pairs taken t low is s = record {
    is_front = front_more start (places levels) s.is_front;
    holds = s.holds ∙ ap (after_calls start) (sym (calls_at_same (places levels) s.is_front.known));
    undoes = λ i level here.
        let path = take i (places levels) in
        let path_known = All-from_contains (λ k. k < length calls) path
        (λ k h. let (j, before, there) = place_before-Contains (places levels) i k h in
        All-contains (λ k. k < length calls) (places levels) k s.is_front.known (Contains-at (places levels) j k there)) in
        let own_known = All-contains (λ k. k < length calls) (places levels) level.place s.is_front.known
        (Contains-map (λ (l : Level). l.place) levels level (Contains-at levels i level here)) in
        let both_known = All-push (λ k. k < length calls) path level.place path_known own_known in
        ap (λ of. undone (after_calls start of) level.undo) (calls_at_same (path ++ level.place ∷ []) both_known)
        ∙ s.undoes i level here
        ∙ ap (after_calls start) (sym (calls_at_same path path_known));
    marked = subst (λ t. AreMarked (length more) (places levels) t low) (sym is)
        (subst (λ size. AreMarked size (places levels) (taken ++ false ∷ []) low) (sym length_more)
        (marked_more (length calls) (places levels) taken low s.is_front.known s.marked));
  }

  pub whole_more : (start : Contents) (path : List ℕ) → IsFront start calls path → IsOrder start calls path → IsOrder start more path
  whole_more start path front h = IsOrder-from_front start more path (front_more start path front)
      (λ k done. ⊎_elim
      (λ lt. h.complete k (subst (λ o. IsSomeAnd o (λ a. IsTrue (is_completed a))) (slice_get-append_left calls (op ∷ []) k lt) done))
      (λ past. absurd (not_done k past done))
      (cases_lt k (length calls)))
    where
      not_done : (k : ℕ) → length calls ≤ k → IsCompletedAt more k → ⊥
      not_done k past done =
          let (a, here, is) = some_at (slice_get more k) (λ a. IsTrue (is_completed a)) done in
          ⊎_elim (λ old. let lt = slice_get_within calls k a old in absurd (omega arith))
          (λ own. both_ways (is_completed a) (ap (λ (x : Operation). is_some x.response) own.1 ∙ ap is_some pending) is)
          (place-push calls op k a here)

  pub are_calls_more : length calls + 2 < 2 ^ 32 → All (λ a. a.inv < op.inv) calls → AreCalls calls → AreCalls more
  are_calls_more few last h = record {
    few = subst (λ size. size + 1 < 2 ^ 32) (sym length_more) (omega arith);
    rising = all_pairs_push (λ a b. a.inv < b.inv) calls op h.rising last;
    apart = All-push (λ a. precedes a a ≡ false) calls op h.apart (ap (λ r. is_before r op.inv) pending);
  }
