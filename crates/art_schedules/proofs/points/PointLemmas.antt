-- Calls with points have an order: point by point, at each those that keep the pairs before the one that does not.
use Rattle.art_schedules.proofs.Common.{◌≡◌, ℕ, zero, suc, ◌<◌, ◌≤◌, Bool, true, false, List, [], ◌∷◌, ◌++◌, length, refl, sym, ap, ◌∙◌, subst}
use Rattle.art_schedules.proofs.Common.{inl, inr, ⊎_elim, arith, ◌==◌, slice_get, IsSome, All, AllPairs, Contains, false_from_ne_true, cases_eq}
use Rattle.art_schedules.proofs.Common.{All-nil, All-cons, Contains-append_left, Contains-append_right, AllPairs-cons, none-some, same_Some}
use Rattle.art_schedules.proofs.Common.{slice_get_within, Operation, precedes, Contents, is_just, after_calls, IsLegal, calls_at, IsOrder}
use Rattle.art_schedules.proofs.Common.{AllPairs-nil, AllPairs-append, Contains-first, All-from_contains, slice_get-below, after_calls-append}
use Rattle.art_schedules.proofs.Common.{calls_at-append, calls_at-push, DoesCall, legal_from_DoesCall, HasPoint, AllKeep, OneLeads, TakeEffect}
use Rattle.art_schedules.proofs.Common.{HasPoints}
use Rattle.std.proofs.Common.{not, filter, Option, Some, None, add-one}
use Rattle.std.specs.Prelude.{◌≢◌}
use Rattle.std.specs.List.{range_with_len}
use Rattle.std.proofs.lemmas.Bool.{eq-eqb, eqb-true}
use Rattle.std.proofs.lemmas.List.Elements.{All-head, All-tail, Contains-append_cases}
use Rattle.std.proofs.lemmas.List.Kept.{AllPairs-from_increasing, AllPairs-filter}
use Rattle.std.proofs.lemmas.List.FromFn.{length-range_with_len, get_or-range_with_len}
use Rattle.orders.specs.Orders.{KeepsPrecedence}
use Rattle.events.proofs.Lists.{Contains-nil, Contains-cases, Contains-range}
use Rattle.events.proofs.FilterLemmas.{AreRelatedAs, AllPairs-weaker, AllPairs-filter_map, Contains-filter, Contains-from_filter}
use Rattle.events.proofs.FilterLemmas.{Contains-from_filter_map}
use Rattle.events.proofs.RisingLemmas.{IsStrictlyIncreasing-range}
use Rattle.orders.proofs.OrderLemmas.{IsLegal-append, IsCompletedAt-below}
use Rattle.art_schedules.specs.points.Points.{IsNotAfter}
use Rattle.art_schedules.specs.points.Laws.{PointsGiveOrders, PointsOrderCalls}

-- whether an optional value is a certain value, as a test and as an equation
is_just-some : (o : Option ℕ) (p : ℕ) → o ≡ Some p → is_just o p ≡ true
is_just-some None p h = absurd (none-some p h)
is_just-some (Some q) p h = eq-eqb q p (same_Some q p h)

some-is_just : (o : Option ℕ) (p : ℕ) → is_just o p ≡ true → o ≡ Some p
some-is_just None p h = cc
some-is_just (Some q) p h = ap Some (eqb-true q p h)

-- a value that is there
some_value : (o : Option ℕ) → IsSome o → (p : ℕ) × (o ≡ Some p)
some_value None h = cc
some_value (Some p) h = (p, refl)

-- calls that each find the same pairs and leave them are legal in turn, and leave them
kept_in_turn : (m : Contents) (calls : List Operation) → All (λ a. DoesCall m a.call a.response m) calls → IsLegal m calls
    × (after_calls m calls ≡ m)
kept_in_turn m [] h = (tt, refl)
kept_in_turn m (a ∷ calls) h =
    let first = legal_from_DoesCall m a.call a.response m (All-head (λ a. DoesCall m a.call a.response m) a calls h) in
    let rest = kept_in_turn m calls (All-tail (λ a. DoesCall m a.call a.response m) a calls h) in (
      (first.0, subst (λ (next : Contents). IsLegal next calls) first.1 rest.0),
      subst (λ (next : Contents). after_calls next calls ≡ m) first.1 rest.1,
    )

-- calls by number that each find the same pairs and leave them are legal in turn
kept_by_number : (m : Contents) (calls : List Operation) (numbers : List ℕ)
    → ((n : ℕ) (a : Operation) → Contains numbers n → slice_get calls n ≡ Some a → DoesCall m a.call a.response m)
    → IsLegal m (calls_at calls numbers) × (after_calls m (calls_at calls numbers) ≡ m)
kept_by_number m calls numbers h =
    kept_in_turn m (calls_at calls numbers)
    (All-from_contains (λ a. DoesCall m a.call a.response m) (calls_at calls numbers)
    (λ a is. let (n, among, here) = Contains-from_filter_map (slice_get calls) numbers a is in h n a among here))

-- the numbers of the calls at a point
abbrev numbers_at : List Operation → (ℕ → Option ℕ) → ℕ → List ℕ
numbers_at calls points p = filter (λ n. is_just (points n) p) (range_with_len 0 (length calls))

-- a list has a call's number exactly where the call has the point
record AreAt (calls : List Operation) (points : ℕ → Option ℕ) (p : ℕ) (numbers : List ℕ) : Type 0 where
  sound : (n : ℕ) → Contains numbers n → (a : Operation) × HasPoint calls points n a p
  complete : (n : ℕ) (a : Operation) → HasPoint calls points n a p → Contains numbers n
  distinct : AllPairs (λ m n. m ≢ n) numbers

less_differs : (m n : ℕ) → m < n → m ≢ n
less_differs m n less same = omega arith

range_distinct : (n : ℕ) → AllPairs (λ m n. m ≢ n) (range_with_len 0 n)
range_distinct n =
    AllPairs-weaker (λ m n. m < n) (λ m n. m ≢ n) (range_with_len 0 n) (λ m n m_is n_is less. less_differs m n less)
    (AllPairs-from_increasing (range_with_len 0 n) (IsStrictlyIncreasing-range n))

below_range : (n k : ℕ) → Contains (range_with_len 0 n) k → k < n
below_range n k (i, within, is) =
    let size = length-range_with_len 0 n in
    let value = get_or-range_with_len 0 n i k (omega arith) in
    omega arith

are_at : (calls : List Operation) (points : ℕ → Option ℕ) (p : ℕ) → AreAt calls points p (numbers_at calls points p)
are_at calls points p = record {
  sound = λ n is.
      let found = Contains-from_filter (λ n. is_just (points n) p) (range_with_len 0 (length calls)) n is in
      let (a, here) = slice_get-below calls n (below_range (length calls) n found.0) in
      (a, record { call = here; point = some-is_just (points n) p found.1 });
  complete = λ n a has.
      Contains-filter (λ n. is_just (points n) p) (range_with_len 0 (length calls)) n
      (Contains-range (length calls) n (slice_get_within calls n a has.call)) (is_just-some (points n) p has.point);
  distinct = AllPairs-filter (λ m n. m ≢ n) (λ n. is_just (points n) p) (range_with_len 0 (length calls)) (range_distinct (length calls));
}

-- the calls at a point, as a list that leads from pairs to pairs
record Group (calls : List Operation) (points : ℕ → Option ℕ) (p : ℕ) (m next : Contents) : Type 0 where
  numbers : List ℕ
  are : AreAt calls points p numbers
  legal : IsLegal m (calls_at calls numbers)
  after : after_calls m (calls_at calls numbers) ≡ next

-- a number is not another
abbrev not_number : ℕ → ℕ → Bool
not_number number n = not (n == number)

differs-from_test : (number n : ℕ) → not_number number n ≡ true → n ≢ number
differs-from_test number n h same = differs (n == number) h (eq-eqb n number same)
  where
    differs : (b : Bool) → not b ≡ true → b ≡ true → ⊥
    differs true h same = cc
    differs false h same = cc

test-from_differs : (number n : ℕ) → n ≢ number → not_number number n ≡ true
test-from_differs number n differ = rw (false_from_ne_true (n == number) (λ same. differ (eqb-true n number same))) refl

-- numbers of which none is this one, and then this one
abbrev put_last : (number : ℕ) (numbers : List ℕ) → List ℕ
put_last number numbers = filter (not_number number) numbers ++ number ∷ []

module _ (calls : List Operation) (points : ℕ → Option ℕ) (p : ℕ) (m next : Contents) where
  group_kept : AllKeep calls points p m → next ≡ m → Group calls points p m next
  group_kept keep same =
      let are = are_at calls points p in
      let turn = kept_by_number m calls (numbers_at calls points p)
      (λ n a among here. let (b, has) = are.sound n among in keep n a (record { call = here; point = has.point })) in
      record { numbers = numbers_at calls points p; are = are; legal = turn.0; after = turn.1 ∙ sym same }

  group_led : OneLeads calls points p m next → Group calls points p m next
  group_led one =
      let are = are_at calls points p in
      let all = numbers_at calls points p in
      let others = filter (not_number one.number) all in
      let turn = kept_by_number m calls others
      (λ n a among here.
      let found = Contains-from_filter (not_number one.number) all n among in
      let (b, has) = are.sound n found.0 in
      one.others n a (record { call = here; point = has.point }) (differs-from_test one.number n found.1)) in
      let last = calls_at-push calls others one.number one.call one.has.call in
      let led = legal_from_DoesCall m one.call.call one.call.response next one.leads in
      record {
        numbers = put_last one.number all;
        are = record {
          sound = λ n is. ⊎_elim (λ among. are.sound n (Contains-from_filter (not_number one.number) all n among).0)
              (λ among. ⊎_elim (λ same. (one.call, subst (λ k. HasPoint calls points k one.call p) same one.has))
              (λ none. absurd (Contains-nil n none))
              (Contains-cases one.number [] n among))
              (Contains-append_cases others (one.number ∷ []) n is);
          complete = λ n a has. ⊎_elim
              (λ same. Contains-append_right others (one.number ∷ []) n
              (subst (λ k. Contains (one.number ∷ []) k) (sym same) (Contains-first one.number [])))
              (λ differ. Contains-append_left others (one.number ∷ []) n
              (Contains-filter (not_number one.number) all n (are.complete n a has) (test-from_differs one.number n differ)))
              (cases_eq n one.number);
          distinct =
              AllPairs-append (λ m n. m ≢ n) others (one.number ∷ [])
              (AllPairs-filter (λ m n. m ≢ n) (not_number one.number) all are.distinct)
              (AllPairs-cons (λ m n. m ≢ n) one.number [] (All-nil (λ n. one.number ≢ n)) (AllPairs-nil (λ m n. m ≢ n)))
              (All-from_contains (λ m. All (λ n. m ≢ n) (one.number ∷ [])) others
              (λ n among. All-cons (λ k. n ≢ k) one.number []
              (differs-from_test one.number n (Contains-from_filter (not_number one.number) all n among).1) (All-nil (λ k. n ≢ k))));
        };
        legal = rw last (IsLegal-append m (calls_at calls others) (one.call ∷ []) turn.0 (rw turn.1 (led.0, tt)));
        after = rw (last, after_calls-append m (calls_at calls others) (one.call ∷ []), turn.1) (sym led.1);
      }

  group_of : TakeEffect calls points p m next → Group calls points p m next
  group_of (inl (keep, same)) = group_kept keep same
  group_of (inr one) = group_led one

-- the calls whose points are below a bound, by rising point
record UpTo (start : Contents) (calls : List Operation) (points : ℕ → Option ℕ) (k : ℕ) (next : Contents) : Type 0 where
  order : List ℕ
  sound : (n : ℕ) → Contains order n → (a : Operation) × (p : ℕ) × (p < k) × HasPoint calls points n a p
  complete : (n p : ℕ) (a : Operation) → p < k → HasPoint calls points n a p → Contains order n
  distinct : AllPairs (λ m n. m ≢ n) order
  rising : AllPairs (IsNotAfter points) order
  legal : IsLegal start (calls_at calls order)
  after : after_calls start (calls_at calls order) ≡ next

module _ (start : Contents) (calls : List Operation) (points : ℕ → Option ℕ) where
  none_yet : (next : Contents) → next ≡ start → UpTo start calls points 0 next
  none_yet next same = record {
    order = [];
    sound = λ n is. absurd (Contains-nil n is);
    complete = λ n p a less has. absurd (omega arith);
    distinct = AllPairs-nil (λ m n. m ≢ n);
    rising = AllPairs-nil (IsNotAfter points);
    legal = tt;
    after = sym same;
  }

  one_more : (k : ℕ) (m next : Contents) → UpTo start calls points k m → Group calls points k m next → UpTo start calls points (suc k) next
  one_more k m next u g = record {
    order = u.order ++ g.numbers;
    sound = λ n is. ⊎_elim (λ early. let (a, p, less, has) = u.sound n early in (a, p, later p less, has))
        (λ late. let (a, has) = g.are.sound n late in (a, k, last, has)) (Contains-append_cases u.order g.numbers n is);
    complete = λ n p a less has. ⊎_elim (λ same. Contains-append_right u.order g.numbers n
        (g.are.complete n a (subst (HasPoint calls points n a) same has)))
        (λ differ. Contains-append_left u.order g.numbers n (u.complete n p a (earlier p less differ) has)) (cases_eq p k);
    distinct =
        AllPairs-append (λ m n. m ≢ n) u.order g.numbers u.distinct g.are.distinct
        (across (λ m n. m ≢ n) (λ x y p q x_has y_has less same.
        let e = same_Some p q (sym x_has ∙ (ap points same ∙ y_has)) in less_differs p q less e));
    rising =
        AllPairs-append (IsNotAfter points) u.order g.numbers u.rising
        (AllPairs-weaker (λ m n. m ≢ n) (IsNotAfter points) g.numbers
        (λ x y x_is y_is differ p q x_has y_has.
        let (a, x_at) = g.are.sound x x_is in
        let (b, y_at) = g.are.sound y y_is in
        let e = same_Some p k (sym x_has ∙ x_at.point) in
        let f = same_Some q k (sym y_has ∙ y_at.point) in
        omega arith) g.are.distinct)
        (across (IsNotAfter points) (λ x y p q x_has y_has less p2 q2 x_is y_is.
        let e = same_Some p p2 (sym x_has ∙ x_is) in
        let f = same_Some q q2 (sym y_has ∙ y_is) in
        omega arith));
    legal = rw both (IsLegal-append start (calls_at calls u.order) (calls_at calls g.numbers) u.legal (rw u.after g.legal));
    after = rw (both, after_calls-append start (calls_at calls u.order) (calls_at calls g.numbers), u.after) g.after;
  }
    where
      later : (p : ℕ) → p < k → p < suc k
      later p less = omega arith

      last : k < suc k
      last = omega arith

      earlier : (p : ℕ) → p < suc k → p ≢ k → p < k
      earlier p less differ = omega arith

      both : calls_at calls (u.order ++ g.numbers) ≡ calls_at calls u.order ++ calls_at calls g.numbers
      both = calls_at-append calls u.order g.numbers

      across : (R : ℕ → ℕ → Type 0) → ((x y p q : ℕ) → points x ≡ Some p → points y ≡ Some q → p < q → R x y)
          → All (λ x. All (R x) g.numbers) u.order
      across R related =
          All-from_contains (λ x. All (R x) g.numbers) u.order
          (λ x x_is. All-from_contains (R x) g.numbers
          (λ y y_is.
          let (a, p, less, x_has) = u.sound x x_is in
          let (b, y_has) = g.are.sound y y_is in
          related x y p k x_has.point y_has.point less))

module _ (start : Contents) (calls : List Operation) (h : HasPoints start calls) where
  up_to : (k : ℕ) → k ≤ h.bound → UpTo start calls h.points k (h.pairs k)
  up_to zero below = none_yet start calls h.points (h.pairs 0) h.begins
  up_to (suc k) below =
      let effect = h.effects k (omega arith) in
      let before = up_to k (omega arith) in
      one_more start calls h.points k (h.pairs k) (h.pairs (suc k)) before
      (group_of calls h.points k (h.pairs k) (h.pairs (suc k)) (rw add-one at effect))

  -- rising points keep precedence
  kept_precedence : (order : List ℕ) → AllPairs (IsNotAfter h.points) order → ((n : ℕ) → Contains order n → (p : ℕ) × (h.points n ≡ Some p))
      → KeepsPrecedence (calls_at calls order)
  kept_precedence order rising pointed =
      AllPairs-filter_map (λ a b. precedes b a ≡ false) (slice_get calls) order
      (AllPairs-weaker (IsNotAfter h.points) (AreRelatedAs (λ a b. precedes b a ≡ false) (slice_get calls)) order
      (λ m n m_is n_is up a b a_is b_is.
      let (p, m_has) = pointed m m_is in
      let (q, n_has) = pointed n n_is in
      false_from_ne_true (precedes b a) (λ before.
      let less = h.precedence n m q p b a (record { call = b_is; point = n_has }) (record { call = a_is; point = m_has }) before in
      let more = up p q m_has n_has in
      omega arith)) rising)

  -- the calls with points, by rising point, are an order
  order_of_all : UpTo start calls h.points h.bound (h.pairs h.bound) → (order : List ℕ) × IsOrder start calls order
      × AllPairs (IsNotAfter h.points) order
      × (after_calls start (calls_at calls order) ≡ h.pairs h.bound)
  order_of_all u = (
    u.order,
    record {
      legal_order = record {
        known = All-from_contains (λ n. n < length calls) u.order
            (λ n is. let (a, p, less, has) = u.sound n is in slice_get_within calls n a has.call);
        distinct = u.distinct;
        precedence = kept_precedence u.order u.rising (λ n is. let (a, p, less, has) = u.sound n is in (p, has.point));
        legal = u.legal;
      };
      complete = λ n done.
          let (p, point) = some_value (h.points n) (h.complete n done) in
          let (a, here) = slice_get-below calls n (IsCompletedAt-below calls n done) in
          let has : HasPoint calls h.points n a p = record { call = here; point = point } in
          u.complete n p a (h.below n p a has) has;
    },
    u.rising,
    u.after,
  )

pub calls_by_point : PointsOrderCalls
calls_by_point start calls h = order_of_all start calls h (up_to start calls h h.bound (omega arith))

pub order_by_points : PointsGiveOrders
order_by_points start calls h = let (order, is, rising, after) = calls_by_point start calls h in (order, is)
