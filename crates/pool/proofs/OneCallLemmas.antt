-- Segments of one completed call: their fronts, the configurations that count, and their order.
use Rattle.pool.proofs.Common.{◌≡◌, ℕ, List, [], ◌∷◌, length, map, ap, arith, refl, ◌∙◌, SegmentView}
use Rattle.std.proofs.Common.{Bool, true, false, sym, subst, inl, inr, ⊎_elim, ◌≤◌, ◌<◌}
use Rattle.std.specs.Prelude.{◌≢◌, ◌⊎◌, ◌↔◌, IsTrue, IsSomeAnd, Contains, slice_get, slice_index}
use Rattle.std.proofs.lemmas.Bool.{both_ways}
use Rattle.std.proofs.lemmas.List.Elements.{All-nil, All-cons, All-head}
use Rattle.std.proofs.lemmas.List.Kept.{AllPairs-cons}
use Rattle.std.proofs.lemmas.Option.{same_Some, slice_get_within}
use Rattle.events.proofs.Lists.{AllPairs-nil, Contains-cases, Contains-first, Contains-later, Contains-nil}
use Rattle.events.specs.declared.operation.Operation.{Operation}
use Rattle.events.specs.Precedence.{NonePrecedesItself, is_completed, precedes}
use Rattle.map_object.specs.MapObject.{Contents}
use Rattle.orders.specs.Orders.{IsCompletedAt, IsLegalCall, IsLinearizable, IsOrder}
use Rattle.orders.proofs.OrderLemmas.{IsCompletedAt-below}
use Rattle.memo.specs.Configurations.{Configuration, LeadsTo}
use Rattle.memo.specs.Fronts.{IsFront, PrecedesAt}
use Rattle.memo.proofs.ConfigurationLemmas.{LeadsTo-exists, LeadsTo-nil, configuration_of, configuration_unique}
use Rattle.memo.proofs.FrontLemmas.{IsFront-from_order, IsFront-nil, IsFront-push, IsOrder-from_front, length-front_le}
use Rattle.orders.specs.SegmentView.{IsSegmentView}
use Rattle.orders.specs.SegmentOrders.{HasNoOrder}
use Rattle.search.specs.LeastCounts.{HasCount, IsCounted}
use Rattle.search.specs.LeastOrder.{IsLeastOrder, is_at_or_before}
use Rattle.search.specs.Exact.{IsLeastOrderOf, CountIsWithinOf}
use Rattle.search.proofs.LeastOrderLemmas.{is_at_or_before-refl}
use Rattle.pool.specs.OneCall.{IsOneCompletedCall}

module _ (start : Contents) (a : Operation) (apart : NonePrecedesItself (a ∷ [])) (done : IsTrue (is_completed a)) where
  -- a front is empty, or the call
  front_of_one : (front : List ℕ) → IsFront start (a ∷ []) front → (front ≡ []) ⊎ (front ≡ 0 ∷ [])
  front_of_one [] h = inl refl
  front_of_one (n ∷ []) h =
      let below = All-head (λ n. n < 1) n [] h.known in
      let is : n ≡ 0 = omega (arith, below) in
      inr (ap (λ k. k ∷ []) is)
  front_of_one (m ∷ n ∷ rest) h = absurd (omega (arith, length-front_le start (a ∷ []) (m ∷ n ∷ rest) h))

  -- no call precedes it
  none_precedes : (m : ℕ) → PrecedesAt (a ∷ []) m 0 → Contains [] m
  none_precedes m h =
      let is : m ≡ 0 = omega (arith, slice_get_within (a ∷ []) m h.0 h.2) in
      let first = same_Some h.0 a (sym h.2 ∙ ap (slice_get (a ∷ [])) is) in
      let second = same_Some h.1 a (sym h.3) in
      absurd (both_ways (precedes a a) (All-head (λ a. precedes a a ≡ false) a [] apart)
      (subst (λ x. precedes x a ≡ true) first (subst (λ y. precedes h.0 y ≡ true) second h.4)))

  -- an order is the call
  order_of_one : (order : List ℕ) → IsOrder start (a ∷ []) order → order ≡ 0 ∷ []
  order_of_one order h = ⊎_elim
      (λ none. absurd (Contains-nil 0 (subst (λ xs. Contains xs 0) none (h.complete 0 done))))
      (λ is. is)
      (front_of_one order (IsFront-from_order start (a ∷ []) order apart h))

  -- before the call
  abbrev before : Configuration
  before = configuration_of [] start

  before_counts : IsCounted start (a ∷ []) before
  before_counts = record {
    front = [];
    is_front = IsFront-nil start (a ∷ []);
    leads = LeadsTo-nil start (a ∷ []);
    at_or_before = λ order h. refl;
  }

  -- the empty front leads nowhere else
  led_by_none : (front : List ℕ) (c : Configuration) → LeadsTo start (a ∷ []) front c → front ≡ [] → before ≡ c
  led_by_none front c leads none =
      configuration_unique start (a ∷ []) [] before c (LeadsTo-nil start (a ∷ [])) (subst (λ f. LeadsTo start (a ∷ []) f c) none leads)

  module _ (legal : IsLegalCall start a.call a.response) where
    call_is_front : IsFront start (a ∷ []) (0 ∷ [])
    call_is_front = IsFront-push start (a ∷ []) [] 0 a (IsFront-nil start (a ∷ [])) refl (Contains-nil 0) none_precedes legal

    call_is_least : IsLeastOrder start (a ∷ []) (0 ∷ [])
    call_is_least = record {
      is_order = IsOrder-from_front start (a ∷ []) (0 ∷ []) call_is_front (λ n h.
          let is : 0 ≡ n = omega (arith, IsCompletedAt-below (a ∷ []) n h) in
          subst (Contains (0 ∷ [])) is (Contains-first 0 []));
      least = λ other h. at_or_before other h;
    }
      where
        at_or_before : (other : List ℕ) → IsOrder start (a ∷ []) other → is_at_or_before (0 ∷ []) other ≡ true
        at_or_before other h =
            subst (λ o. is_at_or_before (0 ∷ []) o ≡ true) (sym (order_of_one other h)) (is_at_or_before-refl (0 ∷ []))

    two_count : HasCount start (a ∷ []) 2
    two_count = of (LeadsTo-exists start (a ∷ []) (0 ∷ []) call_is_front.known)
      where
        of : (c : Configuration) × LeadsTo start (a ∷ []) (0 ∷ []) c → HasCount start (a ∷ []) 2
        of (c, leads) = record {
          counted = before ∷ c ∷ [];
          distinct =
              AllPairs-cons (λ x y. x ≢ y) before (c ∷ [])
              (All-cons (λ y. before ≢ y) c [] other (All-nil (λ y. before ≢ y)))
              (AllPairs-cons (λ x y. x ≢ y) c [] (All-nil (λ y. c ≢ y)) (AllPairs-nil (λ x y. x ≢ y)));
          exact = λ d. (λ h. counts d h, λ k. within d k);
          count = refl;
        }
          where
            other : before ≡ c → ⊥
            other same = Contains-nil 0
                (subst (λ (d : Configuration). Contains d.taken 0) (sym same) ((leads.taken 0).1 (Contains-first 0 [])))

            after_counts : IsCounted start (a ∷ []) c
            after_counts = record {
              front = 0 ∷ [];
              is_front = call_is_front;
              leads = leads;
              at_or_before = call_is_least.least;
            }

            counts : (d : Configuration) → Contains (before ∷ c ∷ []) d → IsCounted start (a ∷ []) d
            counts d h = ⊎_elim
                (λ same. subst (IsCounted start (a ∷ [])) same before_counts)
                (λ later. ⊎_elim
                (λ same. subst (IsCounted start (a ∷ [])) same after_counts)
                (λ none. absurd (Contains-nil d none))
                (Contains-cases c [] d later))
                (Contains-cases before (c ∷ []) d h)

            within : (d : Configuration) → IsCounted start (a ∷ []) d → Contains (before ∷ c ∷ []) d
            within d k = ⊎_elim
                (λ none. subst (Contains (before ∷ c ∷ [])) (led_by_none k.front d k.leads none) (Contains-first before (c ∷ [])))
                (λ is. let same = configuration_unique start (a ∷ []) (0 ∷ []) c d leads
                (subst (λ f. LeadsTo start (a ∷ []) f d) is k.leads) in
                Contains-later before (c ∷ []) d (subst (Contains (c ∷ [])) same (Contains-first c [])))
                (front_of_one k.front k.is_front)

  module _ (illegal : IsLegalCall start a.call a.response → ⊥) where
    call_is_no_front : (front : List ℕ) → IsFront start (a ∷ []) front → front ≡ 0 ∷ [] → ⊥
    call_is_no_front front h is = illegal (of (subst (IsFront start (a ∷ [])) is h))
      where
        of : IsFront start (a ∷ []) (0 ∷ []) → IsLegalCall start a.call a.response
        of h = h.legal.0

    no_order : IsLinearizable start (a ∷ []) → ⊥
    no_order (order, h) = call_is_no_front order (IsFront-from_order start (a ∷ []) order apart h) (order_of_one order h)

    one_counts : HasCount start (a ∷ []) 1
    one_counts = record {
      counted = before ∷ [];
      distinct = AllPairs-cons (λ x y. x ≢ y) before [] (All-nil (λ y. before ≢ y)) (AllPairs-nil (λ x y. x ≢ y));
      exact = λ d. (λ h. counts d h, λ k. within d k);
      count = refl;
    }
      where
        counts : (d : Configuration) → Contains (before ∷ []) d → IsCounted start (a ∷ []) d
        counts d h = ⊎_elim
            (λ same. subst (IsCounted start (a ∷ [])) same before_counts)
            (λ none. absurd (Contains-nil d none))
            (Contains-cases before [] d h)

        within : (d : Configuration) → IsCounted start (a ∷ []) d → Contains (before ∷ []) d
        within d k = ⊎_elim
            (λ none. subst (Contains (before ∷ [])) (led_by_none k.front d k.leads none) (Contains-first before []))
            (λ is. absurd (call_is_no_front k.front k.is_front is))
            (front_of_one k.front k.is_front)

-- the numbers of a segment of one call
numbers_of_one : (numbers : List ℕ) → length numbers ≡ 1 → numbers ≡ map (λ place. slice_index numbers place) (0 ∷ [])
numbers_of_one [] one = absurd (omega (arith, one))
numbers_of_one (n ∷ []) one = refl
numbers_of_one (m ∷ n ∷ rest) one = absurd (omega (arith, one))

-- the first call may come at the start, as a number says
abbrev pub MayComeFirst : SegmentView → Bool → Type 0
MayComeFirst segment may = IsSomeAnd (slice_get segment.calls 0) (λ a. IsTrue may ↔ IsLegalCall segment.start a.call a.response)

-- if the call may come, it is the order, and at most two configurations count
pub exact_order : (segment : SegmentView) (may : Bool) → IsSegmentView segment → IsOneCompletedCall segment.calls → MayComeFirst segment may
    → may ≡ true
    → IsLeastOrderOf segment segment.numbers × ((budget : ℕ) → 2 ≤ budget → CountIsWithinOf segment budget)
exact_order segment may is one told allowed =
    let both = of segment.calls one.0 is.none_precedes_itself one.1 told in
    let many : length segment.numbers ≡ 1 = sym is.one_call_each ∙ one.0 in
    ((0 ∷ [], numbers_of_one segment.numbers many, both.0), λ budget two. (2, both.1, two))
  where
    of : (calls : List Operation) → length calls ≡ 1 → NonePrecedesItself calls → IsCompletedAt calls 0
        → IsSomeAnd (slice_get calls 0) (λ a. IsTrue may ↔ IsLegalCall segment.start a.call a.response)
        → IsLeastOrder segment.start calls (0 ∷ []) × HasCount segment.start calls 2
    of [] one apart done told = absurd (omega (arith, one))
    of (a ∷ []) one apart done told =
        (call_is_least segment.start a apart done (told.0 allowed), two_count segment.start a apart done (told.0 allowed))
    of (a ∷ b ∷ rest) one apart done told = absurd (omega (arith, one))

-- if it may not come, there is no order, and one configuration counts
pub exact_none : (segment : SegmentView) (may : Bool) → IsSegmentView segment → IsOneCompletedCall segment.calls → MayComeFirst segment may
    → may ≡ false
    → HasNoOrder segment × ((budget : ℕ) → 2 ≤ budget → CountIsWithinOf segment budget)
exact_none segment may is one told refused =
    let both = of segment.calls one.0 is.none_precedes_itself one.1 told in
    (both.0, λ budget two. (1, both.1, omega (arith, two)))
  where
    of : (calls : List Operation) → length calls ≡ 1 → NonePrecedesItself calls → IsCompletedAt calls 0
        → IsSomeAnd (slice_get calls 0) (λ a. IsTrue may ↔ IsLegalCall segment.start a.call a.response)
        → (IsLinearizable segment.start calls → ⊥) × HasCount segment.start calls 1
    of [] one apart done told = absurd (omega (arith, one))
    of (a ∷ []) one apart done told =
        let illegal : IsLegalCall segment.start a.call a.response → ⊥ = λ legal. both_ways may refused (told.1 legal) in
        (no_order segment.start a apart done illegal, one_counts segment.start a apart done illegal)
    of (a ∷ b ∷ rest) one apart done told = absurd (omega (arith, one))
