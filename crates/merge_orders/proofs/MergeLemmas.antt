-- Orders of the segments, merged by their points, are an order of all calls.
use Rattle.merge_orders.proofs.Common.{◌≡◌, ℕ, ◌<◌, ◌≤◌, Bool, true, false, List, [], ◌∷◌, length, get_or, filter, Option, Some, None, refl, sym}
use Rattle.merge_orders.proofs.Common.{ap, ◌∙◌, subst, ⊎_elim, arith, ◌≢◌, slice_get, All, AllPairs, Contains, AllZip, concat, false≢true}
use Rattle.merge_orders.proofs.Common.{false_from_ne_true, All-contains, Contains-get_or, IsPermutation-sym, Contains-permutation, same_Some}
use Rattle.merge_orders.proofs.Common.{slice_get-get_or, Operation, has_number, precedes, Contents, KeepsPrecedence, calls_at, IsOrder}
use Rattle.merge_orders.proofs.Common.{SegmentView, IsSegment, AreSegments, IsOrderOf, point_of, IsMergedOrder, Contains-nil, Contains-cases}
use Rattle.merge_orders.proofs.Common.{Contains-first, Contains-later, Contains-at, place_of-Contains, All-from_contains, has_number-Contains}
use Rattle.merge_orders.proofs.Common.{has_number-from_Contains, AreRelatedAs, AllPairs-weaker, IsInside-segment, IsOrderByNumber-from_order}
use Rattle.merge_orders.proofs.Common.{zip_right}
use Rattle.std.specs.Prelude.{IsTrue, IsSomeAnd, MatchBool}
use Rattle.std.proofs.lemmas.Bool.{or_left}
use Rattle.std.proofs.lemmas.List.Elements.{Contains-append_left, Contains-append_right, Contains-append_cases}
use Rattle.events.specs.Precedence.{is_completed, belongs}
use Rattle.orders.specs.Orders.{IsLegal, IsCompletedAt}
use Rattle.events.specs.Keys.{may_change}
use Rattle.orders.specs.Cuts.{BelongsAt}
use Rattle.events.proofs.FilterLemmas.{AllPairs-from_filter, AllPairs-filter_map}
use Rattle.orders.proofs.RangeLemmas.{IsInside, IsOutside}
use Rattle.orders.proofs.PartLemmas.{GoesByKeys, IsLegal-from_parts}
use Rattle.orders.proofs.SegmentLemmas.{IsOutside-other}
use Rattle.orders.proofs.LocalityLemmas.{start_of, IsOrderByNumber}
use Rattle.merge_orders.proofs.PointLemmas.{IsOrderAt, point_of-is, point_of-precedes}
use Rattle.events.proofs.ZipLemmas.{zip_left}

-- a number that is in one of some lists is in the lists together
pub Contains-concat : (orders : List (List ℕ)) (order : List ℕ) (n : ℕ) → Contains orders order → Contains order n
    → Contains (concat orders) n
Contains-concat [] order n is h = absurd (Contains-nil order is)
Contains-concat (first ∷ orders) order n is h = ⊎_elim
    (λ same. Contains-append_left first (concat orders) n (subst (λ o. Contains o n) (sym same) h))
    (λ later. Contains-append_right first (concat orders) n (Contains-concat orders order n later h)) (Contains-cases first orders order is)

-- a number that is in some lists together is in one of them
pub Contains-from_concat : (orders : List (List ℕ)) (n : ℕ) → Contains (concat orders) n → (order : List ℕ) × Contains orders order
    × Contains order n
Contains-from_concat [] n h = absurd (Contains-nil n h)
Contains-from_concat (first ∷ orders) n h = ⊎_elim (λ here. (first, Contains-first first orders, here))
    (λ later. let (order, is, number) = Contains-from_concat orders n later in (order, Contains-later first orders order is, number))
    (Contains-append_cases first (concat orders) n h)

-- a segment with its order
record Part (start : Contents) (calls : List Operation) (segments : List SegmentView) (orders : List (List ℕ)) : Type 0 where
  place : ℕ
  segment : SegmentView
  order : List ℕ
  segment_at : slice_get segments place ≡ Some segment
  order_at : slice_get orders place ≡ Some order
  is_segment : IsSegment start calls segment
  by_number : IsOrderByNumber start calls segment order

-- each order is that of a segment
part_of : (start : Contents) (calls : List Operation) (segments : List SegmentView) (orders : List (List ℕ)) (order : List ℕ)
    → AreSegments start calls segments
    → AllZip IsOrderOf segments orders → Contains orders order → (p : Part start calls segments orders) × (p.order ≡ order)
part_of start calls segments orders order are zip is =
    let (i, order_at) = place_of-Contains orders order is in
    let (s, segment_at, order_of) = zip_right IsOrderOf segments orders i order zip order_at in
    let segment = All-contains (IsSegment start calls) segments s are.each (Contains-at segments i s segment_at) in (
      record {
        place = i;
        segment = s;
        order = order;
        segment_at = segment_at;
        order_at = order_at;
        is_segment = segment;
        by_number = IsOrderByNumber-from_order start calls s order segment order_of;
      },
      refl,
    )

-- a completed call belongs to a segment
BelongsAt-from_completed : (calls : List Operation) (n : ℕ) → IsCompletedAt calls n → BelongsAt calls n
BelongsAt-from_completed calls n h = of_call (slice_get calls n) h
  where
    of_call : (o : Option Operation) → IsSomeAnd o (λ a. IsTrue (is_completed a)) → IsSomeAnd o (λ a. IsTrue (belongs a))
    of_call None h = h
    of_call (Some a) h = or_left (is_completed a) (may_change a.call) h

module _ (start : Contents) (calls : List Operation) (segments : List SegmentView) (orders : List (List ℕ)) (merged : List ℕ)
    (are : AreSegments start calls segments) (zip : AllZip IsOrderOf segments orders) (h : IsMergedOrder calls orders merged) where
  -- each number of the merged order is in the order of a segment
  part_with : (n : ℕ) → Contains merged n → (p : Part start calls segments orders) × Contains p.order n
  part_with n is =
      let (order, order_is, number) =
      Contains-from_concat orders n (Contains-permutation merged (concat orders) n (IsPermutation-sym (concat orders) merged
      h.same_calls) is) in
      let (p, same) = part_of start calls segments orders order are zip order_is in
      (p, subst (λ o. Contains o n) (sym same) number)

  -- the calls of a segment are in the merged order as in the segment's own
  kept : (p : Part start calls segments orders) → filter (has_number p.order) merged ≡ p.order
  kept p = All-contains (λ order. filter (has_number order) merged ≡ order) orders p.order h.by_place
      (Contains-at orders p.place p.order p.order_at)

  -- the numbers of a segment's order go by the segment's keys
  goes_by_keys : (p : Part start calls segments orders) (n : ℕ) → Contains merged n
      → GoesByKeys calls (has_number p.order) p.segment.lo p.segment.hi n
  goes_by_keys p n is a here = by_test (has_number p.order n) refl
    where
      by_test : (b : Bool) → has_number p.order n ≡ b
          → MatchBool b (IsInside p.segment.lo p.segment.hi a.call) (IsOutside p.segment.lo p.segment.hi a.call)
      by_test true e =
          IsInside-segment start calls p.segment n a p.is_segment
          (All-contains (Contains p.segment.numbers) p.order n p.by_number.within (has_number-Contains p.order n e)) here
      by_test false e =
          let (q, in_q) = part_with n is in
          IsOutside-other start calls segments p.place q.place p.segment q.segment n a are
          (λ same. let equal = same_Some q.order p.order (sym q.order_at ∙ (ap (slice_get orders) (sym same) ∙ p.order_at)) in
          false≢true (sym e ∙ has_number-from_Contains p.order n (subst (λ o. Contains o n) equal in_q)))
          p.segment_at q.segment_at (All-contains (Contains q.segment.numbers) q.order n q.by_number.within in_q) here

  -- the merged order has numbers of calls
  merged_known : All (λ n. n < length calls) merged
  merged_known =
      All-from_contains (λ n. n < length calls) merged
      (λ n is. let (p, in_p) = part_with n is in All-contains (λ n. n < length calls) p.order n p.by_number.legal_order.known in_p)

  -- the merged order has each number once
  merged_distinct : AllPairs (λ m n. m ≢ n) merged
  merged_distinct i j d before within same =
      let m = get_or merged i d in
      let (p, in_p) = part_with m (Contains-get_or merged i d (omega arith)) in
      let has = has_number-from_Contains p.order m in_p in
      let pairs =
      AllPairs-from_filter (λ m n. m ≢ n) (has_number p.order) merged
      (subst (AllPairs (λ m n. m ≢ n)) (sym (kept p)) p.by_number.legal_order.distinct) in
      pairs i j d before within has (subst (λ n. has_number p.order n ≡ true) same has) same

  -- each segment's order keeps precedence
  orders_keep_precedence : All (λ order. KeepsPrecedence (calls_at calls order)) orders
  orders_keep_precedence = All-from_contains (λ order. KeepsPrecedence (calls_at calls order)) orders
      (λ order is. let (p, same) = part_of start calls segments orders order are zip is in
      subst (λ o. KeepsPrecedence (calls_at calls o)) same p.by_number.legal_order.precedence)

  -- each call of the merged order has its point in an order that has it
  point_there : (n : ℕ) → Contains merged n → IsOrderAt calls orders n
  point_there n is = let (p, in_p) = part_with n is in point_of-is calls orders p.order n (Contains-at orders p.place
      p.order p.order_at) in_p

  -- the merged order keeps precedence, since a call that precedes another has the smaller point
  merged_precedence : All (λ a. precedes a a ≡ false) calls → KeepsPrecedence (calls_at calls merged)
  merged_precedence none =
      let R = λ (a b : Operation). precedes b a ≡ false in
      AllPairs-filter_map R (slice_get calls) merged
      (AllPairs-weaker (λ m n. point_of calls orders m ≤ point_of calls orders n) (AreRelatedAs R (slice_get calls)) merged
      (λ m n m_is n_is le a b m_here n_here. false_from_ne_true (precedes b a)
      (λ before. absurd
      (omega (
        arith,
        le,
        point_of-precedes calls orders n m b a none orders_keep_precedence (point_there n n_is) (point_there m m_is) n_here m_here before,
      )))) h.by_point)

  -- the merged order is legal, since the calls of each segment are
  merged_legal : IsLegal start (calls_at calls merged)
  merged_legal = IsLegal-from_parts {I = Part start calls segments orders} calls (λ p. has_number p.order) (λ p. p.segment.lo)
      (λ p. p.segment.hi) start merged
      (λ p. All-from_contains (GoesByKeys calls (has_number p.order) p.segment.lo p.segment.hi) merged (goes_by_keys p))
      (All-from_contains (λ n. (p : Part start calls segments orders) × (has_number p.order n ≡ true)) merged
      (λ n is. let (p, in_p) = part_with n is in (p, has_number-from_Contains p.order n in_p)))
      (λ p. subst (λ o. IsLegal (start_of start p.segment) (calls_at calls o)) (sym (kept p)) p.by_number.legal_order.legal)

  -- the merged order has each completed call
  merged_complete : (n : ℕ) → IsCompletedAt calls n → Contains merged n
  merged_complete n completed =
      let (i, s, within, is, number) = are.all n (BelongsAt-from_completed calls n completed) in
      let s_at : slice_get segments i ≡ Some s = slice_get-get_or segments i s within ∙ ap Some is in
      let (order, order_at, order_of) = zip_left IsOrderOf segments orders i s zip s_at in
      let segment = All-contains (IsSegment start calls) segments s are.each (Contains-at segments i s s_at) in
      let by_number = IsOrderByNumber-from_order start calls s order segment order_of in
      Contains-permutation (concat orders) merged n h.same_calls
      (Contains-concat orders order n (Contains-at orders i order order_at) (by_number.complete n number completed))

-- orders of the segments, merged by their points, are an order of all calls
pub IsOrder-from_merged : (start : Contents) (calls : List Operation) (segments : List SegmentView)
    (orders : List (List ℕ)) (merged : List ℕ)
    → All (λ a. precedes a a ≡ false) calls
    → AreSegments start calls segments → AllZip IsOrderOf segments orders → IsMergedOrder calls orders merged
    → IsOrder start calls merged
IsOrder-from_merged start calls segments orders merged none are zip h = record {
  legal_order = record {
    known = merged_known start calls segments orders merged are zip h;
    distinct = merged_distinct start calls segments orders merged are zip h;
    precedence = merged_precedence start calls segments orders merged are zip h none;
    legal = merged_legal start calls segments orders merged are zip h;
  };
  complete = merged_complete start calls segments orders merged are zip h;
}

-- the numbers of orders of segments are those of calls
pub known-orders : (start : Contents) (calls : List Operation) (segments : List SegmentView) (orders : List (List ℕ))
    → AreSegments start calls segments
    → AllZip IsOrderOf segments orders → All (λ order. All (λ n. n < length calls) order) orders
known-orders start calls segments orders are zip = All-from_contains (λ order. All (λ n. n < length calls) order) orders
    (λ order is. let (p, same) = part_of start calls segments orders order are zip is in subst (All (λ n. n < length calls)) same
    p.by_number.legal_order.known)

-- an order of a segment has each number once
pub distinct-orders : (start : Contents) (calls : List Operation) (segments : List SegmentView) (orders : List (List ℕ))
    → AreSegments start calls segments
    → AllZip IsOrderOf segments orders → All (AllPairs (λ m n. m ≢ n)) orders
distinct-orders start calls segments orders are zip = All-from_contains (AllPairs (λ m n. m ≢ n)) orders
    (λ order is. let (p, same) = part_of start calls segments orders order are zip is in subst (AllPairs (λ m n. m ≢ n)) same
    p.by_number.legal_order.distinct)
