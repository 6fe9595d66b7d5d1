-- How the relation to a cursor is kept at each step of a search, and what it says at the end.
use Rattle.search.proofs.Common.{◌≡◌, ℕ, ◌+◌, ◌<◌, ◌≤◌, true, List, [], ◌∷◌, ◌++◌, length, refl, sym, ap, ◌∙◌, subst, inl, inr, ⊎_elim, arith, ◌≢◌}
use Rattle.search.proofs.Common.{◌⊎◌, All, Contains, both_ways, cases_Bool, false_from_ne_true, get_or_default, All-head, All-weaker, All-contains}
use Rattle.search.proofs.Common.{Contains-push, Contains-push_cases, Contains-append_left, Contains-append_right, Contains-append_cases}
use Rattle.search.proofs.Common.{all_pairs_push, Operation, NonePrecedesItself, Contents, IsOrder, IsLinearizable, after_calls, calls_at, IsFront}
use Rattle.search.proofs.Common.{Configuration, LeadsTo, is_at_or_before, IsLeastOrder, IsCounted, HasCount, CountIsAbove, All-from_contains}
use Rattle.search.proofs.Common.{AllPairs-nil, after_calls-append, calls_at-append, IsFront-from_order, IsFront-front, IsFront-nil, IsNext-from_front}
use Rattle.search.proofs.Common.{configuration_of, configuration_unique, LeadsTo-nil, IsMetInTurn, ComesBefore, cursor, IsBehind, StandsAtCursor}
use Rattle.search.proofs.FutureLemmas.{same_future, same_completion}
use Rattle.search.proofs.LeastOrderLemmas.{is_at_or_before-refl, is_at_or_before-trans, is_at_or_before-total, is_at_or_before-front}
use Rattle.search.proofs.LeastOrderLemmas.{is_at_or_before-higher}
use Rattle.search.proofs.EarliestLemmas.{length-taken}
use Rattle.search.proofs.BeforeLemmas.{ComesBefore-itself, at_or_before-from_cursor, ComesBefore-from_at_or_before, ComesBefore-moved}
use Rattle.search.proofs.BeforeLemmas.{ComesBefore-move, ComesBefore-pushed, ComesBefore-push, ComesBefore-pop, ComesBefore-popped}
use Rattle.search.proofs.BeforeLemmas.{ComesBefore-longer}

-- what follows two fronts of one configuration leads to one configuration
same_leads : (start : Contents) (calls : List Operation) (f g rest : List ℕ) (c d : Configuration) → LeadsTo start calls f c
    → LeadsTo start calls g c
    → LeadsTo start calls (f ++ rest) d → LeadsTo start calls (g ++ rest) d
same_leads start calls f g rest c d by_f by_g by = record {
  rising = by.rising;
  taken = λ n. (
    λ h. to f g (λ m k. (by_g.taken m).0 ((by_f.taken m).1 k)) n ((by.taken n).0 h),
    λ h. (by.taken n).1 (to g f (λ m k. (by_f.taken m).0 ((by_g.taken m).1 k)) n h),
  );
  pairs = by.pairs ∙ after f ∙ ap (λ m. after_calls m (calls_at calls rest)) (sym by_f.pairs ∙ by_g.pairs) ∙ sym (after g);
}
  where
    to : (f g : List ℕ) → ((m : ℕ) → Contains f m → Contains g m) → (n : ℕ) → Contains (f ++ rest) n → Contains (g ++ rest) n
    to f g each n h = ⊎_elim (λ old. Contains-append_left g rest n (each n old)) (λ new. Contains-append_right g rest n new)
        (Contains-append_cases f rest n h)

    after : (f : List ℕ) → after_calls start (calls_at calls (f ++ rest)) ≡ after_calls (after_calls start (calls_at calls f))
        (calls_at calls rest)
    after f = ap (after_calls start) (calls_at-append calls f rest) ∙ after_calls-append start (calls_at calls f) (calls_at calls rest)

-- a front takes no call again
pub taken_again : (start : Contents) (calls : List Operation) (path : List ℕ) (k : ℕ) (rest : List ℕ)
    → IsFront start calls (cursor path k ++ rest)
    → Contains path k → ⊥
taken_again start calls path k rest is_front within =
    let next = IsNext-from_front start calls path k [] (IsFront-front start calls (cursor path k) rest is_front) in
    next.new within

module _ (start : Contents) (calls : List Operation) where
  -- what is after a cursor is after each cursor that comes no earlier
  IsBehind-later : (path : List ℕ) (next : ℕ) (path2 : List ℕ) (next2 : ℕ) (c : Configuration)
      → ((f : List ℕ) → IsFront start calls f → ComesBefore f (cursor path next) → ComesBefore f (cursor path2 next2))
      → IsBehind start calls path next c
      → IsBehind start calls path2 next2 c
  IsBehind-later path next path2 next2 c later b =
      record { front = b.front; is_front = b.is_front; leads = b.leads; before = later b.front b.is_front b.before }

  -- ---- opening

  first_only : (f : List ℕ) → ComesBefore f (cursor [] 0) → f ≡ []
  first_only f h = of f (at_or_before-from_cursor [] f h)
    where
      of : (f : List ℕ) → is_at_or_before f [] ≡ true → f ≡ []
      of [] le = refl
      of (x ∷ f) le = absurd (both_ways (is_at_or_before (x ∷ f) []) refl le)

  -- a search opens before all calls, and has visited the configuration of the start
  pub StandsAtCursor-open : StandsAtCursor start calls [] 0 (configuration_of [] start ∷ [])
  StandsAtCursor-open = record {
    is_front = IsFront-nil start calls;
    distinct = all_pairs_push (λ a b. a ≢ b) [] (configuration_of [] start) (AllPairs-nil (λ a b. a ≢ b))
        (λ k d within. absurd (omega arith));
    exact = λ c. (
      λ h. record {
        front = [];
        is_front = IsFront-nil start calls;
        leads = subst (LeadsTo start calls []) (one c h) (LeadsTo-nil start calls);
        before = ComesBefore-itself [] 0;
      },
      λ b. subst (Contains (configuration_of [] start ∷ []))
          (configuration_unique start calls [] (configuration_of [] start) c (LeadsTo-nil start calls)
          (subst (λ f. LeadsTo start calls f c) (first_only b.front b.before) b.leads)) (Contains-push [] (configuration_of [] start)),
    );
    first = λ order is_order before. (first_only order before, λ k lt. absurd (omega arith));
  }
    where
      one : (c : Configuration) → Contains (configuration_of [] start ∷ []) c → configuration_of [] start ≡ c
      one c h = ⊎_elim (λ old. absurd (omega (arith, old.1))) (λ new. new) (Contains-push_cases [] (configuration_of [] start) c h)

  module _ (path : List ℕ) (next : ℕ) (visited : List Configuration) (stands : StandsAtCursor start calls path next visited) where
    -- ---- what the relation says

    -- a configuration after the cursor was visited
    pub visited_from_front : (f : List ℕ) (c : Configuration) → IsFront start calls f → LeadsTo start calls f c
        → ComesBefore f (cursor path next)
        → Contains visited c
    visited_from_front f c is_front leads before =
        (stands.exact c).1 (record { front = f; is_front = is_front; leads = leads; before = before })

    -- all that was visited counts
    pub counted_at_cursor : All (IsCounted start calls) visited
    counted_at_cursor = All-from_contains (IsCounted start calls) visited (λ c h.
        let b = (stands.exact c).0 h in
        record {
          front = b.front;
          is_front = b.is_front;
          leads = b.leads;
          at_or_before = λ order is_order. at_or_before b.front b.is_front b.before order is_order;
        })
      where
        of_taken : (f : List ℕ) → IsFront start calls f → ((k : ℕ) → k < next → Contains path k)
            → ComesBefore f (cursor path 0) ⊎ ((k : ℕ) × (rest : List ℕ) × (0 ≤ k) × (k < next) × (f ≡ cursor path k ++ rest))
            → is_at_or_before f path ≡ true
        of_taken f is_front taken (inl before) = at_or_before-from_cursor path f before
        of_taken f is_front taken (inr (k, rest, from, below, is)) =
            absurd (taken_again start calls path k rest (subst (IsFront start calls) is is_front) (taken k below))

        at_or_before : (f : List ℕ) → IsFront start calls f → ComesBefore f (cursor path next) → (order : List ℕ)
            → IsOrder start calls order
            → is_at_or_before f order ≡ true
        at_or_before f is_front before order is_order = ⊎_elim
            (λ later. ⊎_elim (λ le. le) (λ ge. absurd (both_ways _ before (is_at_or_before-trans (cursor path next) order f later ge)))
            (is_at_or_before-total f order))
            (λ earlier.
            let (is, taken) = stands.first order is_order earlier in
            subst (λ o. is_at_or_before f o ≡ true) (sym is) (of_taken f is_front taken (ComesBefore-moved path f 0 next before)))
            (cases_Bool (is_at_or_before (cursor path next) order))

    -- all that was visited was visited in its turn
    pub met_in_turn : All (IsMetInTurn start calls visited) visited
    met_in_turn = All-from_contains (IsMetInTurn start calls visited) visited (λ c h.
        let b = (stands.exact c).0 h in
        record {
          front = b.front;
          is_front = b.is_front;
          leads = b.leads;
          earlier = λ other d is_front before leads.
              visited_from_front other d is_front leads
              (false_from_ne_true (is_at_or_before (cursor path next) other)
              (λ later. both_ways _ b.before (is_at_or_before-trans (cursor path next) other b.front later before)));
        })

    -- if more configurations were visited than a number, the count is above it
    pub CountIsAbove-at_cursor : (budget : ℕ) → budget < length visited → CountIsAbove start calls budget
    CountIsAbove-at_cursor budget above = record { counted = visited; distinct = stands.distinct; each = counted_at_cursor; above = above }

    -- ---- steps

    -- a call is taken that leads to a new configuration
    pub StandsAtCursor-push : (c : Configuration) → IsFront start calls (cursor path next) → LeadsTo start calls (cursor path next) c
        → (Contains visited c → ⊥) → (IsOrder start calls path → ⊥) → StandsAtCursor start calls (cursor path next) 0 (visited ++ c ∷ [])
    StandsAtCursor-push c is_front leads new not_order = record {
      is_front = is_front;
      distinct = all_pairs_push (λ a b. a ≢ b) visited c stands.distinct
          (λ k d within same. new (k, within, get_or_default visited k _ d within ∙ same));
      exact = λ d. (
        λ h. ⊎_elim
            (λ old. IsBehind-later path next (cursor path next) 0 d (λ f _. ComesBefore-pushed path f next 0) ((stands.exact d).0 old))
            (λ is. record {
              front = cursor path next;
              is_front = is_front;
              leads = subst (LeadsTo start calls (cursor path next)) is leads;
              before = ComesBefore-itself (cursor path next) 0;
            })
            (Contains-push_cases visited c d h),
        λ b. ⊎_elim
            (λ before. Contains-append_left visited (c ∷ []) d (visited_from_front b.front d b.is_front b.leads before))
            (λ is. subst (Contains (visited ++ c ∷ []))
            (configuration_unique start calls (cursor path next) c d leads (subst (λ f. LeadsTo start calls f d) is b.leads))
            (Contains-push visited c))
            (ComesBefore-push path b.front next b.before),
      );
      first = λ order is_order before. ⊎_elim
          (λ earlier. absurd (not_order (subst (IsOrder start calls) (stands.first order is_order earlier).0 is_order)))
          (λ is. (is, λ k lt. absurd (omega arith)))
          (ComesBefore-push path order next before);
    }

    -- calls are passed over, where each front that goes on with one leads to what was visited, and no order does
    StandsAtCursor-move : (m : ℕ) → next ≤ m
        → ((k : ℕ) (rest : List ℕ) (c : Configuration) → next ≤ k → k < m → IsFront start calls (cursor path k ++ rest)
        → LeadsTo start calls (cursor path k ++ rest) c → Contains visited c)
        → ((k : ℕ) (rest : List ℕ) → next ≤ k → k < m → IsOrder start calls (cursor path k ++ rest) → ⊥)
        → (IsOrder start calls path → (k : ℕ) → k < m → Contains path k) → StandsAtCursor start calls path m visited
    StandsAtCursor-move m le seen none taken = record {
      is_front = stands.is_front;
      distinct = stands.distinct;
      exact = λ c. (
        λ h. IsBehind-later path next path m c (λ f _. ComesBefore-move path f next m le) ((stands.exact c).0 h),
        λ b. ⊎_elim
            (λ before. visited_from_front b.front c b.is_front b.leads before)
            (λ (k, rest, from, below, is). seen k rest c from below (subst (IsFront start calls) is b.is_front)
            (subst (λ f. LeadsTo start calls f c) is b.leads))
            (ComesBefore-moved path b.front next m b.before),
      );
      first = λ order is_order before. ⊎_elim
          (λ earlier. let is = (stands.first order is_order earlier).0 in (is, taken (subst (IsOrder start calls) is is_order)))
          (λ (k, rest, from, below, is). absurd (none k rest from below (subst (IsOrder start calls) is is_order)))
          (ComesBefore-moved path order next m before);
    }

    -- calls are passed over that may not come next
    pub StandsAtCursor-pass : NonePrecedesItself calls → (m : ℕ) → next ≤ m
        → ((k : ℕ) → next ≤ k → k < m → IsFront start calls (cursor path k) → ⊥)
        → (IsOrder start calls path → (k : ℕ) → k < m → Contains path k) → StandsAtCursor start calls path m visited
    StandsAtCursor-pass apart m le none taken = StandsAtCursor-move m le
        (λ k rest c from below is_front leads. absurd (none k from below (IsFront-front start calls (cursor path k) rest is_front)))
        (λ k rest from below is_order. none k from below
        (IsFront-front start calls (cursor path k) rest (IsFront-from_order start calls (cursor path k ++ rest) apart is_order)))
        taken

    -- a call is passed over that leads to what was visited: whatever follows it has followed an earlier front
    pub StandsAtCursor-seen : NonePrecedesItself calls → (c : Configuration) → IsFront start calls (cursor path next)
        → LeadsTo start calls (cursor path next) c → Contains visited c → (IsOrder start calls path → ⊥)
        → StandsAtCursor start calls path (next + 1) visited
    StandsAtCursor-seen apart c is_front leads within not_order = StandsAtCursor-move (next + 1) (omega arith)
        (λ k rest d from below whole by. seen rest d (subst (λ j. IsFront start calls (cursor path j ++ rest)) (at k from below) whole)
        (subst (λ j. LeadsTo start calls (cursor path j ++ rest) d) (at k from below) by))
        (λ k rest from below whole. none rest (subst (λ j. IsOrder start calls (cursor path j ++ rest)) (at k from below) whole))
        (λ is_order. absurd (not_order is_order))
      where
        at : (k : ℕ) → next ≤ k → k < next + 1 → k ≡ next
        at k from below = omega arith

        -- an earlier front leads to the same configuration
        b : IsBehind start calls path next c
        b = (stands.exact c).0 within

        -- whatever follows that one comes before the cursor
        before : (rest : List ℕ) → ComesBefore (b.front ++ rest) (cursor path next)
        before rest =
            ComesBefore-longer b.front (cursor path next) rest
            (sym (length-taken start calls b.front c b.is_front b.leads)
            ∙ length-taken start calls (cursor path next) c is_front leads) b.before

        seen : (rest : List ℕ) (d : Configuration) → IsFront start calls (cursor path next ++ rest)
            → LeadsTo start calls (cursor path next ++ rest) d
            → Contains visited d
        seen rest d whole by =
            let other = same_future start calls (cursor path next) b.front rest c b.is_front leads b.leads whole in
            visited_from_front (b.front ++ rest) d other
            (same_leads start calls (cursor path next) b.front rest c d leads b.leads by) (before rest)

        none : (rest : List ℕ) → IsOrder start calls (cursor path next ++ rest) → ⊥
        none rest whole =
            let other = same_completion start calls (cursor path next) b.front rest c apart b.is_front leads b.leads whole in
            not_order (subst (IsOrder start calls) (stands.first (b.front ++ rest) other (before rest)).0 other)

    -- ---- ends

    -- at the end of the cursor each front is after it
    all_behind : path ≡ [] → length calls ≤ next → (f : List ℕ) → IsFront start calls f → ComesBefore f (cursor path next)
    all_behind empty past [] is_front = ComesBefore-from_at_or_before path [] next refl
    all_behind empty past (x ∷ f) is_front =
        let below = All-head (λ n. n < length calls) x f is_front.known in
        subst (λ p. ComesBefore (x ∷ f) (cursor p next)) (sym empty) (higher next x f (omega arith))
      where
        higher : (n x : ℕ) (f : List ℕ) → x < n → ComesBefore (x ∷ f) (cursor [] n)
        higher n x f lt = is_at_or_before-higher n [] x f lt

    -- there is no order
    pub none_at_end : NonePrecedesItself calls → path ≡ [] → length calls ≤ next → (IsOrder start calls path → ⊥)
        → IsLinearizable start calls → ⊥
    none_at_end apart empty past not_order (order, is_order) =
        not_order
        (subst (IsOrder start calls)
        (stands.first order is_order (all_behind empty past order (IsFront-from_order start calls order apart is_order))).0 is_order)

    -- all that is reachable was visited
    pub HasCount-at_end : NonePrecedesItself calls → path ≡ [] → length calls ≤ next → (IsOrder start calls path → ⊥)
        → HasCount start calls (length visited)
    HasCount-at_end apart empty past not_order = record {
      counted = visited;
      distinct = stands.distinct;
      exact = λ c. (
        λ h. let b =
            (stands.exact c).0 h in
            record {
              front = b.front;
              is_front = b.is_front;
              leads = b.leads;
              at_or_before = λ order is_order. absurd (none_at_end apart empty past not_order (order, is_order));
            },
        λ k. visited_from_front k.front c k.is_front k.leads (all_behind empty past k.front k.is_front),
      );
      count = refl;
    }

    -- the calls taken are the least order where they are an order
    pub IsLeastOrder-at_cursor : IsOrder start calls path → IsLeastOrder start calls path
    IsLeastOrder-at_cursor is_order = record { is_order = is_order; least = least }
      where
        least : (other : List ℕ) → IsOrder start calls other → is_at_or_before path other ≡ true
        least other is = ⊎_elim
            (λ later. is_at_or_before-trans path (cursor path next) other (is_at_or_before-front path (next ∷ [])) later)
            (λ earlier. subst (λ o. is_at_or_before path o ≡ true) (sym (stands.first other is earlier).0) (is_at_or_before-refl path))
            (cases_Bool (is_at_or_before (cursor path next) other))

    -- what was visited is what counts
    pub HasCount-at_order : IsOrder start calls path → HasCount start calls (length visited)
    HasCount-at_order is_order = record {
      counted = visited;
      distinct = stands.distinct;
      exact = λ c. (
        λ h. let each = counted_at_cursor in All-contains (IsCounted start calls) visited c each h,
        λ k. visited_from_front k.front c k.is_front k.leads
            (ComesBefore-from_at_or_before path k.front next (k.at_or_before path is_order)),
      );
      count = refl;
    }

  -- past all calls after a front the search goes back to it
  pub StandsAtCursor-pop : (path : List ℕ) (n next : ℕ) (visited : List Configuration)
      → StandsAtCursor start calls (cursor path n) next visited
      → length calls ≤ next → (IsOrder start calls (cursor path n) → ⊥) → StandsAtCursor start calls path (n + 1) visited
  StandsAtCursor-pop path n next visited stands past not_order = record {
    is_front = IsFront-front start calls path (n ∷ []) stands.is_front;
    distinct = stands.distinct;
    exact = λ c. (
      λ h. IsBehind-later (cursor path n) next path (n + 1) c (λ f _. ComesBefore-popped path f n next) ((stands.exact c).0 h),
      λ b. (stands.exact c).1
          (IsBehind-later path (n + 1) (cursor path n) next c
          (λ f is_front. ComesBefore-pop path f n next
          (All-weaker (λ k. k < length calls) (λ k. k < next) (λ k lt. omega arith) f is_front.known)) b),
    );
    first = λ order is_order before. absurd
        (not_order
        (subst (IsOrder start calls)
        (stands.first order is_order
        (ComesBefore-pop path order n next
        (All-weaker (λ k. k < length calls) (λ k. k < next) (λ k lt. omega arith) order is_order.legal_order.known) before)).0 is_order));
  }
