-- A pending call is answered after all else: which call precedes which stays, and so do fronts without it.
use Rattle.follow_orders.proofs.Common.{◌≡◌, ℕ, ◌+◌, ◌<◌, ◌≤◌, Bool, true, false, List, Some, [], ◌∷◌, ◌++◌, length, take, drop, set, refl, sym, ap}
use Rattle.follow_orders.proofs.Common.{◌∙◌, subst, inl, inr, ⊎_elim, arith, nat_eq, nat_lt, ◌≢◌, ◌⊎◌, ◌^◌, slice_get, IsTrue, IsSomeAnd, All, Contains}
use Rattle.follow_orders.proofs.Common.{cons_option, false_from_ne_true, both_ways, cases_order, cases_lt, append-nil, drop_all, take_all, length-set}
use Rattle.follow_orders.proofs.Common.{get_or-set_same, get_or-set_other, get_or_default, take-append-le, take_at, Contains-push, Contains-push_cases}
use Rattle.follow_orders.proofs.Common.{Contains-append_left, Contains-append_right, All-push, all_pairs_push, same_Some, slice_get_within}
use Rattle.follow_orders.proofs.Common.{slice_get-get_or, slice_get_past, Operation, Response, is_completed, is_before, precedes, Contents, calls_at}
use Rattle.follow_orders.proofs.Common.{after_calls, IsLegal, IsCompletedAt, PrecedesAt, IsFront, IsCompletedAt-from_PrecedesAt, undone, AreMarked}
use Rattle.follow_orders.proofs.Common.{AllPairs-at, AllPairs-from_at, All-at, All-from_contains, Contains-at, Contains-first, Contains-later}
use Rattle.follow_orders.proofs.Common.{place_of-Contains, place_before-Contains, place-push, Contains-map, answered_call, answered, set_answer}
use Rattle.follow_orders.proofs.Common.{MayBeAnswered, places, IsStateBut, AreCalls, again_or, IsFromOn, IsClosed, HasCompleted, Level}
use Rattle.std.proofs.lemmas.Bool.Decides.{nat_tests}

slice_get-set_same : (xs : List Operation) (n : ℕ) (a : Operation) → n < length xs → slice_get (set xs n a) n ≡ Some a
slice_get-set_same xs n a lt =
    slice_get-get_or (set xs n a) n a (omega (arith, length-set xs n a)) ∙ ap (λ b. Some b) (get_or-set_same xs n a a lt)

slice_get-set_other : (xs : List Operation) (n k : ℕ) (a : Operation) → k ≢ n → slice_get (set xs n a) k ≡ slice_get xs k
slice_get-set_other xs n k a other = ⊎_elim
    (λ lt. slice_get-get_or (set xs n a) k a (omega (arith, length-set xs n a))
    ∙ ap (λ b. Some b) (get_or-set_other xs n k a a other) ∙ sym (slice_get-get_or xs k a lt))
    (λ past. slice_get_past (set xs n a) k (omega (arith, length-set xs n a)) ∙ sym (slice_get_past xs k (omega arith)))
    (cases_lt k (length xs))

lt_from_test : (m n : ℕ) → nat_lt m n ≡ true → m < n
lt_from_test m n h = grind (arith, nat_tests)

-- what is in the beginning of a list is in the list
Contains-from_take : (xs : List ℕ) (i n : ℕ) → Contains (take i xs) n → Contains xs n
Contains-from_take xs i n h = let (j, before, there) = place_before-Contains xs i n h in Contains-at xs j n there

slice_get_le : (path : List ℕ) (i k : ℕ) → slice_get path i ≡ Some k → i ≤ length path
slice_get_le path i k old = omega (arith, slice_get_within path i k old)

module _ (calls : List Operation) (n : ℕ) (response : Response) (may : MayBeAnswered calls n response) where
  abbrev after : List Operation
  after = set calls n (answered_call may.call response)

  pub answered_is : answered calls n response ≡ after
  answered_is = ap (set_answer calls n response) may.here

  pub within : n < length calls
  within = slice_get_within calls n may.call may.here

  pub same_length : length after ≡ length calls
  same_length = length-set calls n (answered_call may.call response)

  -- a call, with its answer, was there before with its invocation
  record Before (k : ℕ) (b : Operation) : Type 0 where
    pub call : Operation
    pub here : slice_get calls k ≡ Some call
    pub same_inv : call.inv ≡ b.inv
    pub cases : ((k ≡ n) × (b ≡ answered_call may.call response)) ⊎ ((k ≢ n) × (call ≡ b))

  before : (k : ℕ) (b : Operation) → slice_get after k ≡ Some b → Before k b
  before k b is = ⊎_elim
      (λ same.
      let b_is : b ≡ answered_call may.call response =
      same_Some b (answered_call may.call response)
      (sym is ∙ ap (slice_get after) same ∙ slice_get-set_same calls n (answered_call may.call response) within) in
      record {
        call = may.call;
        here = ap (slice_get calls) same ∙ may.here;
        same_inv = ap (λ (x : Operation). x.inv) (sym b_is);
        cases = inl (same, b_is);
      })
      (λ apart.
      let other : k ≢ n = ⊎_elim (λ lower same. absurd (omega arith)) (λ higher same. absurd (omega arith)) apart in
      record {
        call = b;
        here = sym (slice_get-set_other calls n k (answered_call may.call response) other) ∙ is;
        same_inv = refl;
        cases = inr (other, refl);
      })
      (cases_order k n)

  -- the response of the answered call comes after each invocation
  above : (k : ℕ) (b : Operation) → slice_get after k ≡ Some b → b.inv < response.res
  above k b is =
      let old = before k b is in
      let lt = All-at (λ (a : Operation). a.inv < response.res) calls k old.call may.after_invocations old.here in
      subst (λ inv. inv < response.res) old.same_inv lt

  -- no call precedes another one only since the answer
  pub preceded_before : (m k : ℕ) → PrecedesAt after m k → PrecedesAt calls m k
  preceded_before m k (a, b, a_here, b_here, e) =
      let first = before m a a_here in
      let second = before k b b_here in
      ⊎_elim
      (λ own.
      let test : nat_lt response.res b.inv ≡ true = ap (λ (x : Operation). precedes x b) (sym own.1) ∙ e in
      let late = lt_from_test response.res b.inv test in
      let early = above k b b_here in
      absurd (omega arith))
      (λ old. (
        first.call,
        second.call,
        first.here,
        second.here,
        ap (λ (x : Operation). is_before x.response second.call.inv) old.1 ∙ ap (λ j. is_before a.response j) second.same_inv ∙ e,
      ))
      first.cases

  calls_at_same : (path : List ℕ) → (Contains path n → ⊥) → calls_at after path ≡ calls_at calls path
  calls_at_same [] out = refl
  calls_at_same (k ∷ path) out =
      let other : k ≢ n = λ same. out (subst (Contains (k ∷ path)) same (Contains-first k path)) in
      ap (λ rest. cons_option (slice_get after k) rest) (calls_at_same path (λ h. out (Contains-later k path n h)))
      ∙ ap (λ o. cons_option o (calls_at calls path)) (slice_get-set_other calls n k (answered_call may.call response) other)

  pub closed_after : (path : List ℕ) → IsClosed calls path → IsClosed after path
  closed_after path h = record {
    known = subst (λ size. All (λ k. k < size) path) (sym same_length) h.known;
    distinct = h.distinct;
    closed = λ i m k is e. h.closed i m k is (preceded_before m k e);
  }

  front_after : (start : Contents) (path : List ℕ) → (Contains path n → ⊥) → IsFront start calls path → IsFront start after path
  front_after start path out h = record {
    known = subst (λ size. All (λ k. k < size) path) (sym same_length) h.known;
    distinct = h.distinct;
    closed = λ i m k is e. h.closed i m k is (preceded_before m k e);
    legal = subst (IsLegal start) (sym (calls_at_same path out)) h.legal;
  }

  -- a front without the call is in the same state as before
  pub stands_after : (start : Contents) (levels : List Level) (pairs : Contents) (taken : List Bool) (low : ℕ)
      → (Contains (places levels) n → ⊥) → IsStateBut start calls levels pairs taken low → IsStateBut start after levels pairs taken low
  stands_after start levels pairs taken low out s = record {
    is_front = front_after start (places levels) out s.is_front;
    holds = s.holds ∙ ap (after_calls start) (sym (calls_at_same (places levels) out));
    undoes = λ i level is.
        let path = take i (places levels) in
        let front_out : Contains path n → ⊥ = λ h. out (Contains-from_take (places levels) i n h) in
        let own_out : level.place ≢ n =
        λ same. out (subst (Contains (places levels)) same (Contains-map (λ (l : Level). l.place) levels level
        (Contains-at levels i level is))) in
        let both_out : Contains (path ++ level.place ∷ []) n → ⊥ =
        λ h. ⊎_elim front_out own_out (Contains-push_cases path level.place n h) in
        ap (λ of. undone (after_calls start of) level.undo) (calls_at_same (path ++ level.place ∷ []) both_out)
        ∙ s.undoes i level is
        ∙ ap (after_calls start) (sym (calls_at_same path front_out));
    marked = subst (λ size. AreMarked size (places levels) taken low) (sym same_length) s.marked;
  }

  completed_before : (k : ℕ) → IsCompletedAt after k → (k ≡ n) ⊎ IsCompletedAt calls k
  completed_before k done = ⊎_elim (λ same. inl same)
      (λ apart.
      let other : k ≢ n = ⊎_elim (λ lower same. absurd (omega arith)) (λ higher same. absurd (omega arith)) apart in
      inr (subst (λ o. IsSomeAnd o (λ a. IsTrue (is_completed a)))
      (slice_get-set_other calls n k (answered_call may.call response) other) done))
      (cases_order k n)

  -- an order goes on with the call
  pub closed_push : (path : List ℕ) → IsClosed calls path → (Contains path n → ⊥) → ((k : ℕ) → IsCompletedAt calls k → Contains path k)
      → IsClosed after (path ++ n ∷ [])
  closed_push path h out complete = closed_after (path ++ n ∷ []) (record {
    known = All-push (λ m. m < length calls) path n h.known within;
    distinct = all_pairs_push (λ m k. m ≢ k) path n h.distinct (λ k d lt is. out (k, lt, get_or_default path k n d lt ∙ is));
    closed = λ i m k place e. ⊎_elim
        (λ old. subst (λ taken. Contains taken m) (sym (take-append-le i path (n ∷ []) (slice_get_le path i k old))) (h.closed i m k old e))
        (λ pushed. subst (λ taken. Contains taken m) (sym (take_at path (n ∷ []) i pushed.0))
        (complete m (IsCompletedAt-from_PrecedesAt calls m k e)))
        (place-push path n i k place);
  })

  -- what was taken back of an order may be pushed again, or the call at its end
  pub closed_again : (path again order : List ℕ) → order ≡ path ++ again → IsClosed calls order → (Contains path n → ⊥)
      → ((k : ℕ) → IsCompletedAt calls k → Contains order k) → IsClosed after (path ++ again_or n again)
  closed_again path [] order is h out complete =
      let same = is ∙ append-nil path in
      closed_push path (subst (IsClosed calls) same h) out (λ k done. subst (λ p. Contains p k) same (complete k done))
  closed_again path (k ∷ again) order is h out complete = closed_after (path ++ k ∷ again) (subst (IsClosed calls) is h)

  has_again : (path again : List ℕ) → IsFromOn n again → Contains (path ++ again_or n again) n
  has_again path [] on = Contains-push path n
  has_again path (k ∷ again) on =
      Contains-append_right path (k ∷ again) n (subst (Contains (k ∷ again)) on (Contains-first k again))

  all_again : (path again : List ℕ) (k : ℕ) → Contains (path ++ again) k → Contains (path ++ again_or n again) k
  all_again path [] k h = Contains-append_left path (n ∷ []) k (subst (λ p. Contains p k) (append-nil path) h)
  all_again path (j ∷ again) k h = h

  -- these are all completed calls of the order, and the call
  pub complete_again : (path again order : List ℕ) → order ≡ path ++ again → IsFromOn n again → HasCompleted calls order
      → HasCompleted after (path ++ again_or n again)
  complete_again path again order is on complete k done = ⊎_elim
      (λ same. subst (Contains (path ++ again_or n again)) (sym same) (has_again path again on))
      (λ old. all_again path again k (subst (λ p. Contains p k) is (complete k old)))
      (completed_before k done)

  -- the calls stay what an order can be sought of
  pub are_calls_after : AreCalls calls → AreCalls after
  are_calls_after h = record {
    few = subst (λ size. size + 1 < 2 ^ 32) (sym same_length) h.few;
    rising = AllPairs-from_at (λ a b. a.inv < b.inv) after
        (λ i j a b lt first second.
        let x = before i a first in
        let y = before j b second in
        let up = AllPairs-at (λ (a : Operation) (b : Operation). a.inv < b.inv) calls i j x.call y.call h.rising lt x.here y.here in
        subst (λ inv. a.inv < inv) y.same_inv (subst (λ inv. inv < y.call.inv) x.same_inv up));
    apart = All-from_contains (λ a. precedes a a ≡ false) after
        (λ a a_in.
        let (k, is) = place_of-Contains after a a_in in
        let old = before k a is in
        ⊎_elim
        (λ own. false_from_ne_true (precedes a a)
        (λ e.
        let test : nat_lt response.res a.inv ≡ true = ap (λ (x : Operation). precedes x a) (sym own.1) ∙ e in
        let late = lt_from_test response.res a.inv test in
        let early = above k a is in
        absurd (omega arith)))
        (λ same. subst (λ (x : Operation). precedes x x ≡ false) same.1
        (All-at (λ (x : Operation). precedes x x ≡ false) calls k old.call h.apart old.here))
        old.cases);
  }

pub length_answered : (calls : List Operation) (n : ℕ) (response : Response) → MayBeAnswered calls n response
    → length (answered calls n response) ≡ length calls
length_answered calls n response may = ap (λ (xs : List Operation). length xs) (answered_is calls n response may)
    ∙ same_length calls n response may

-- calls that were taken back are pushed again
pub again_or-some : (place : ℕ) (again : List ℕ) (empty : Bool) → empty ≡ nat_eq (length again) 0 → empty ≡ false → again_or place again ≡ again
again_or-some place [] empty is some = absurd (both_ways empty some is)
again_or-some place (n ∷ again) empty is some = refl

-- a list that was lent whole, and written
pub written : (old new : List Operation) (size : ℕ) → size ≡ length old → length new ≡ length old
    → take size (new ++ drop (length new) old) ≡ new
written old new size size_is same =
    ap (λ xs. take size (new ++ xs)) (drop_all (length new) old (omega (arith, same))) ∙ ap (take size) (append-nil new)
    ∙ take_all size new (omega (arith, size_is, same))
