-- Some calls have a least order or none, and a count: their fronts can be listed.
use Rattle.search.proofs.Common.{◌≡◌, ℕ, zero, suc, ◌<◌, ◌≤◌, true, List, Option, Some, None, [], ◌∷◌, ◌++◌, length, refl, sym, ap, ◌∙◌, subst, inl}
use Rattle.search.proofs.Common.{inr, ⊎_elim, arith, ◌≢◌, ◌⊎◌, IsTrue, slice_get, All, Contains, both_ways, cases_Bool, cases_lt, append-nil}
use Rattle.search.proofs.Common.{append_assoc, get_or_default, All-nil, All-cons, All-head, All-tail, All-push, All-append, All-contains}
use Rattle.search.proofs.Common.{Contains-append_left, Contains-append_right, all_pairs_push, Contains-push, none-some, same_Some, slice_get_within}
use Rattle.search.proofs.Common.{Call, Operation, Response, has_number, is_completed, precedes, NonePrecedesItself, Contents, reply_to, is_value}
use Rattle.search.proofs.Common.{misses, IsAllOrPartOf, IsLegalReply, IsLegalCall, IsCompletedAt, IsOrder, IsLinearizable, after_calls, calls_at}
use Rattle.search.proofs.Common.{PrecedesAt, IsFront, Configuration, LeadsTo, is_at_or_before, IsLeastOrder, IsCounted, HasCount, AreDistinct}
use Rattle.search.proofs.Common.{Contains-first, Contains-later, Contains-nil, Contains-cases, AllPairs-nil, has_number-Contains}
use Rattle.search.proofs.Common.{has_number-from_Contains, IsCompletedAt-below, IsFront-nil, IsFront-next, IsFront-from_order, IsNext}
use Rattle.search.proofs.Common.{IsNext-from_front, length-front_le, IsOrder-from_front, configuration_of, configuration_unique, LeadsTo-exists}
use Rattle.search.proofs.Common.{is_same, Decides-is_same}
use Rattle.std.specs.Prelude.{Bool}
use Rattle.events.specs.declared.event.Reply.{Reply}
use Rattle.search.proofs.LeastOrderLemmas.{is_at_or_before-refl, is_at_or_before-total, is_at_or_before-trans}
use Rattle.search.proofs.MemoLemmas.{visited_or_not}
use Rattle.events.specs.declared.event.Reply.TheVariants as replies

-- a statement or its contrary
abbrev IsTold : Type 0 → Type 0
IsTold P = P ⊎ (P → ⊥)

-- ---- what can be decided

same_pairs : (a b : Contents) → IsTold (a ≡ b)
same_pairs a b = ⊎_elim
    (λ e. inl (ap (λ (c : Configuration). c.pairs) ((Decides-is_same (configuration_of [] a) (configuration_of [] b)).0 e)))
    (λ e. inr
    (λ is. both_ways (is_same (configuration_of [] a) (configuration_of [] b)) e
    ((Decides-is_same (configuration_of [] a) (configuration_of [] b)).1 (ap (configuration_of []) is))))
    (cases_Bool (is_same (configuration_of [] a) (configuration_of [] b)))

true_told : (b : Bool) → IsTold (IsTrue b)
true_told b = ⊎_elim (λ e. inl e) (λ e. inr (λ h. both_ways b e h)) (cases_Bool b)

-- a reply as a list of pairs: the first says which reply it is, and its value
abbrev pairs_of : Reply → Contents
pairs_of replies.None = (0, 0) ∷ []
pairs_of (replies.Some value) = (1, value) ∷ []
pairs_of (replies.Pairs pairs) = (2, 0) ∷ pairs
pairs_of replies.Refused = (3, 0) ∷ []
pairs_of replies.Done = (4, 0) ∷ []
pairs_of replies.Found = (5, 0) ∷ []
pairs_of replies.Other = (6, 0) ∷ []

-- a list of pairs as a reply
abbrev reply_of : Contents → Reply
reply_of [] = replies.None
reply_of ((zero, value) ∷ pairs) = replies.None
reply_of ((suc zero, value) ∷ pairs) = replies.Some value
reply_of ((suc (suc zero), value) ∷ pairs) = replies.Pairs pairs
reply_of ((suc (suc (suc zero)), value) ∷ pairs) = replies.Refused
reply_of ((suc (suc (suc (suc zero))), value) ∷ pairs) = replies.Done
reply_of ((suc (suc (suc (suc (suc zero)))), value) ∷ pairs) = replies.Found
reply_of ((suc (suc (suc (suc (suc (suc kind))))), value) ∷ pairs) = replies.Other

reply_of-pairs_of : (reply : Reply) → reply_of (pairs_of reply) ≡ reply
reply_of-pairs_of replies.None = refl
reply_of-pairs_of (replies.Some value) = refl
reply_of-pairs_of (replies.Pairs pairs) = refl
reply_of-pairs_of replies.Refused = refl
reply_of-pairs_of replies.Done = refl
reply_of-pairs_of replies.Found = refl
reply_of-pairs_of replies.Other = refl

same_reply : (a b : Reply) → IsTold (a ≡ b)
same_reply a b = ⊎_elim
    (λ is. inl (sym (reply_of-pairs_of a) ∙ (ap reply_of is ∙ reply_of-pairs_of b)))
    (λ not. inr (λ is. not (ap pairs_of is)))
    (same_pairs (pairs_of a) (pairs_of b))

-- it can be decided whether a reply reports of the whole answer
tells_told : (call : Call) (whole reply : Reply) → IsTold (IsAllOrPartOf call whole reply)
tells_told call whole replies.None = same_reply replies.None whole
tells_told call whole (replies.Some value) = same_reply (replies.Some value) whole
tells_told call whole (replies.Pairs pairs) = same_reply (replies.Pairs pairs) whole
tells_told call whole replies.Refused = same_reply replies.Refused whole
tells_told call whole replies.Done = inl tt
tells_told call whole replies.Found = true_told (is_value whole)
tells_told call whole replies.Other = true_told (misses call whole)

legal_told : (m : Contents) (call : Call) (response : Option Response) → IsTold (IsLegalCall m call response)
legal_told m call None = inl tt
legal_told m call (Some r) = by_cases (same_reply r.reply replies.Refused) (tells_told call (reply_to m call) r.reply)
  where
    by_cases : IsTold (r.reply ≡ replies.Refused) → IsTold (IsAllOrPartOf call (reply_to m call) r.reply) → IsTold (IsLegalReply m call r.reply)
    by_cases (inl is) k = inl (inl is)
    by_cases (inr not) (inl tells) = inl (inr tells)
    by_cases (inr not) (inr other) = inr (λ h. ⊎_elim not other h)

-- if each number below a bound can be decided, all can
all_told : (P : ℕ → Type 0) → ((k : ℕ) → IsTold (P k)) → (n : ℕ) → IsTold ((k : ℕ) → k < n → P k)
all_told P each zero = inl (λ k lt. absurd (omega arith))
all_told P each (suc n) = by_cases (all_told P each n) (each n)
  where
    at : (k : ℕ) → k < suc n → (k < n) ⊎ (n ≡ k)
    at k lt = ⊎_elim (λ below. inl below) (λ le. inr (omega arith)) (cases_lt k n)

    by_cases : IsTold ((k : ℕ) → k < n → P k) → IsTold (P n) → IsTold ((k : ℕ) → k < suc n → P k)
    by_cases (inl below) (inl here) = inl (λ k lt. ⊎_elim (λ old. below k old) (λ is. subst P is here) (at k lt))
    by_cases (inr not) here = inr (λ h. not (λ k lt. h k (omega arith)))
    by_cases (inl below) (inr not) = inr (λ h. not (h n (omega arith)))

within_told : (xs : List ℕ) (n : ℕ) → IsTold (Contains xs n)
within_told xs n =
    ⊎_elim (λ e. inl (has_number-Contains xs n e)) (λ e. inr (λ h. both_ways (has_number xs n) e (has_number-from_Contains xs n h)))
    (cases_Bool (has_number xs n))

module _ (start : Contents) (calls : List Operation) where
  preceded_told : (front : List ℕ) (n : ℕ) (b : Operation) → slice_get calls n ≡ Some b → (m : ℕ)
      → IsTold (PrecedesAt calls m n → Contains front m)
  preceded_told front n b there m = of (slice_get calls m) refl (within_told front m)
    where
      of : (o : Option Operation) → slice_get calls m ≡ o → IsTold (Contains front m) → IsTold (PrecedesAt calls m n → Contains front m)
      of o is (inl within) = inl (λ before. within)
      of None is (inr out) = inl (λ before. absurd (none-some before.0 (sym is ∙ before.2)))
      of (Some a) is (inr out) = ⊎_elim
          (λ e. inr (λ h. out (h (a, b, is, there, e))))
          (λ e. inl (λ before.
          let a_is = same_Some before.0 a (sym before.2 ∙ is) in
          let b_is = same_Some before.1 b (sym before.3 ∙ there) in
          absurd (both_ways (precedes a b) e
          (subst (λ (x : Operation). precedes a x ≡ true) b_is (subst (λ (x : Operation). precedes x before.1 ≡ true) a_is before.4)))))
          (cases_Bool (precedes a b))

  next_told : (front : List ℕ) (n : ℕ) → IsTold (IsNext start calls front n)
  next_told front n = of (slice_get calls n) refl
    where
      parts : (a : Operation) → slice_get calls n ≡ Some a → IsTold (Contains front n)
          → IsTold ((m : ℕ) → m < length calls → PrecedesAt calls m n → Contains front m)
          → IsTold (IsLegalCall (after_calls start (calls_at calls front)) a.call a.response) → IsTold (IsNext start calls front n)
      parts a is (inl within) k l = inr (λ next. next.new within)
      parts a is (inr out) (inr not) l = inr (λ next. not (λ m lt before. next.preceded m before))
      parts a is (inr out) (inl before) (inr illegal) = inr (λ next.
          let same = same_Some next.call a (sym next.here ∙ is) in
          illegal (subst (λ (x : Operation). IsLegalCall (after_calls start (calls_at calls front)) x.call x.response) same next.legal))
      parts a is (inr out) (inl before) (inl legal) =
          inl (record { call = a; here = is; new = out; preceded = λ m h. before m (slice_get_within calls m h.0 h.2) h; legal = legal })

      of : (o : Option Operation) → slice_get calls n ≡ o → IsTold (IsNext start calls front n)
      of None is = inr (λ next. none-some next.call (sym is ∙ next.here))
      of (Some a) is =
          parts a is (within_told front n) (all_told (λ m. PrecedesAt calls m n → Contains front m)
          (preceded_told front n a is) (length calls))
          (legal_told (after_calls start (calls_at calls front)) a.call a.response)

  -- ---- all fronts

  -- fronts that go on from one, and all of them up to a length
  record AreListed (front : List ℕ) (fuel : ℕ) : Type 0 where
    fronts : List (List ℕ)
    each : All (IsFront start calls) fronts
    all : (rest : List ℕ) → length rest ≤ fuel → IsFront start calls (front ++ rest) → Contains fronts (front ++ rest)

  -- the fronts whose next call is below a bound
  record AreListedBelow (front : List ℕ) (fuel bound : ℕ) : Type 0 where
    fronts : List (List ℕ)
    each : All (IsFront start calls) fronts
    all : (n : ℕ) (rest : List ℕ) → n < bound → length rest ≤ fuel → IsFront start calls (front ++ n ∷ rest)
        → Contains fronts (front ++ n ∷ rest)

  one_call : (front : List ℕ) (fuel n : ℕ) → IsFront start calls front → ((next : List ℕ) → IsFront start calls next → AreListed next fuel)
      → IsTold (IsNext start calls front n) → (fronts : List (List ℕ)) × All (IsFront start calls) fronts
      × ((rest : List ℕ) → length rest ≤ fuel → IsFront start calls (front ++ n ∷ rest) → Contains fronts (front ++ n ∷ rest))
  one_call front fuel n is_front longer (inr not) =
      ([], All-nil (IsFront start calls), λ rest le h. absurd (not (IsNext-from_front start calls front n rest h)))
  one_call front fuel n is_front longer (inl next) =
      let l = longer (front ++ n ∷ []) (IsFront-next start calls front n is_front next) in (
        l.fronts,
        l.each,
        λ rest le h. subst (Contains l.fronts) (append_assoc front (n ∷ []) rest)
            (l.all rest le (subst (IsFront start calls) (sym (append_assoc front (n ∷ []) rest)) h)),
      )

  below : (front : List ℕ) (fuel : ℕ) → IsFront start calls front
      → ((next : List ℕ) → IsFront start calls next → AreListed next fuel) → (bound : ℕ)
      → AreListedBelow front fuel bound
  below front fuel is_front longer zero = record {
    fronts = [];
    each = All-nil (IsFront start calls);
    all = λ n rest lt le h.
        absurd (omega arith);
  }
  below front fuel is_front longer (suc bound) =
      let old = below front fuel is_front longer bound in
      let new = one_call front fuel bound is_front longer (next_told front bound) in
      record {
        fronts = old.fronts ++ new.0;
        each = All-append (IsFront start calls) old.fronts new.0 old.each new.1;
        all = λ n rest lt le h. ⊎_elim
            (λ earlier. Contains-append_left old.fronts new.0 (front ++ n ∷ rest) (old.all n rest earlier le h))
            (λ not. let same : n ≡ bound = omega arith in
            Contains-append_right old.fronts new.0 (front ++ n ∷ rest)
            (subst (λ k. Contains new.0 (front ++ k ∷ rest)) (sym same)
            (new.2 rest le (subst (λ k. IsFront start calls (front ++ k ∷ rest)) same h))))
            (cases_lt n bound);
      }

  listed : (fuel : ℕ) (front : List ℕ) → IsFront start calls front → AreListed front fuel
  listed zero front is_front = record {
    fronts = front ∷ [];
    each = All-cons (IsFront start calls) front [] is_front (All-nil (IsFront start calls));
    all = λ rest le h. empty rest le;
  }
    where
      empty : (rest : List ℕ) → length rest ≤ 0 → Contains (front ∷ []) (front ++ rest)
      empty [] le = subst (Contains (front ∷ [])) (sym (append-nil front)) (Contains-first front [])
      empty (n ∷ rest) le = absurd (omega arith)
  listed (suc fuel) front is_front =
      let more = below front fuel is_front (listed fuel) (length calls) in
      record {
        fronts = front ∷ more.fronts;
        each = All-cons (IsFront start calls) front more.fronts is_front more.each;
        all = λ rest le h. with_rest more rest le h;
      }
    where
      with_rest : (more : AreListedBelow front fuel (length calls)) (rest : List ℕ) → length rest ≤ suc fuel
          → IsFront start calls (front ++ rest)
          → Contains (front ∷ more.fronts) (front ++ rest)
      with_rest more [] le h = subst (Contains (front ∷ more.fronts)) (sym (append-nil front)) (Contains-first front more.fronts)
      with_rest more (n ∷ rest) le h =
          let next = IsNext-from_front start calls front n rest h in
          Contains-later front more.fronts (front ++ n ∷ rest)
          (more.all n rest (slice_get_within calls n next.call next.here) (omega arith) h)

  -- all fronts, in one list
  all_fronts : (fronts : List (List ℕ)) × All (IsFront start calls) fronts × ((f : List ℕ) → IsFront start calls f → Contains fronts f)
  all_fronts =
      let l = listed (length calls) [] (IsFront-nil start calls) in
      (l.fronts, l.each, λ f h. l.all f (length-front_le start calls f h) h)

  -- ---- the least order

  completed_told : (n : ℕ) → IsTold (IsCompletedAt calls n)
  completed_told n = of (slice_get calls n) refl
    where
      of : (o : Option Operation) → slice_get calls n ≡ o → IsTold (IsCompletedAt calls n)
      of None is = inr (λ h. rw is at h)
      of (Some a) is = ⊎_elim (λ e. inl (rw is e)) (λ e. inr (λ h. both_ways (is_completed a) e (rw is at h))) (cases_Bool (is_completed a))

  order_told : (f : List ℕ) → IsFront start calls f → IsTold (IsOrder start calls f)
  order_told f is_front = of (all_told (λ n. IsCompletedAt calls n → Contains f n) each (length calls))
    where
      each : (n : ℕ) → IsTold (IsCompletedAt calls n → Contains f n)
      each n = both (completed_told n) (within_told f n)
        where
          both : IsTold (IsCompletedAt calls n) → IsTold (Contains f n) → IsTold (IsCompletedAt calls n → Contains f n)
          both h (inl within) = inl (λ done. within)
          both (inl done) (inr out) = inr (λ h. out (h done))
          both (inr not) (inr out) = inl (λ done. absurd (not done))

      of : IsTold ((n : ℕ) → n < length calls → IsCompletedAt calls n → Contains f n) → IsTold (IsOrder start calls f)
      of (inl all) = inl (IsOrder-from_front start calls f is_front (λ n done. all n (IsCompletedAt-below calls n done) done))
      of (inr not) = inr (λ order. not (λ n lt done. order.complete n done))

  -- the least order among some fronts
  record IsLeastAmong (xs : List (List ℕ)) : Type 0 where
    order : List ℕ
    is_order : IsOrder start calls order
    least : (other : List ℕ) → Contains xs other → IsOrder start calls other → is_at_or_before order other ≡ true

  abbrev NoneAmong : List (List ℕ) → Type 0
  NoneAmong xs = (other : List ℕ) → Contains xs other → IsOrder start calls other → ⊥

  least_among : (xs : List (List ℕ)) → All (IsFront start calls) xs → IsLeastAmong xs ⊎ NoneAmong xs
  least_among [] fronts = inr (λ other h is_order. Contains-nil other h)
  least_among (f ∷ xs) fronts =
      by_cases (least_among xs (All-tail (IsFront start calls) f xs fronts)) (order_told f (All-head (IsFront start calls) f xs fronts))
    where
      first : IsOrder start calls f → ((other : List ℕ) → Contains xs other → IsOrder start calls other → is_at_or_before f other ≡ true)
          → IsLeastAmong (f ∷ xs)
      first is_order before =
          record {
            order = f;
            is_order = is_order;
            least = λ other h is. ⊎_elim (λ same. subst (λ o. is_at_or_before f o ≡ true) same (is_at_or_before-refl f))
                (λ later. before other later is)
                (Contains-cases f xs other h);
          }

      keep : (l : IsLeastAmong xs) → (IsOrder start calls f → is_at_or_before l.order f ≡ true) → IsLeastAmong (f ∷ xs)
      keep l before =
          record {
            order = l.order;
            is_order = l.is_order;
            least = λ other h is. ⊎_elim (λ same. subst (λ o. is_at_or_before l.order o ≡ true) same
                (before (subst (IsOrder start calls) (sym same) is)))
                (λ later. l.least other later is) (Contains-cases f xs other h);
          }

      by_cases : IsLeastAmong xs ⊎ NoneAmong xs → IsTold (IsOrder start calls f) → IsLeastAmong (f ∷ xs) ⊎ NoneAmong (f ∷ xs)
      by_cases (inl l) (inr not) = inl (keep l (λ is_order. absurd (not is_order)))
      by_cases (inl l) (inl is_order) = ⊎_elim
          (λ le. inl (keep l (λ _. le)))
          (λ ge. inl (first is_order (λ other h is. is_at_or_before-trans f l.order other ge (l.least other h is))))
          (is_at_or_before-total l.order f)
      by_cases (inr none) (inl is_order) = inl (first is_order (λ other h is. absurd (none other h is)))
      by_cases (inr none) (inr not) =
          inr (λ other h is. ⊎_elim (λ same. not (subst (IsOrder start calls) (sym same) is)) (λ later. none other later is)
          (Contains-cases f xs other h))

  module _ (apart : NonePrecedesItself calls) where
    pub least_order_or_none : ((order : List ℕ) × IsLeastOrder start calls order) ⊎ (IsLinearizable start calls → ⊥)
    least_order_or_none =
        let (fronts, each, all) = all_fronts in
        ⊎_elim
        (λ (l : IsLeastAmong fronts). inl (
          l.order,
          record {
            is_order = l.is_order;
            least = λ other is. l.least other
                (all other (IsFront-from_order start calls other apart is)) is;
          },
        ))
        (λ (none : NoneAmong fronts). inr (λ h. none h.0 (all h.0 (IsFront-from_order start calls h.0 apart h.1)) h.1))
        (least_among fronts each)

    -- ---- the count

    abbrev IsAtOrBeforeAll : List ℕ → Type 0
    IsAtOrBeforeAll f = (order : List ℕ) → IsOrder start calls order → is_at_or_before f order ≡ true

    at_or_before_told : (f : List ℕ) → IsTold (IsAtOrBeforeAll f)
    at_or_before_told f = of least_order_or_none
      where
        of : ((order : List ℕ) × IsLeastOrder start calls order) ⊎ (IsLinearizable start calls → ⊥) → IsTold (IsAtOrBeforeAll f)
        of (inr none) = inl (λ order is. absurd (none (order, is)))
        of (inl (o, least)) = ⊎_elim
            (λ e. inl (λ order is. is_at_or_before-trans f o order e (least.least order is)))
            (λ e. inr (λ h. both_ways (is_at_or_before f o) e (h o least.is_order)))
            (cases_Bool (is_at_or_before f o))

    -- the configurations that count, of some fronts
    record AreCounted (xs : List (List ℕ)) : Type 0 where
      counted : List Configuration
      distinct : AreDistinct counted
      each : All (IsCounted start calls) counted
      all : (f : List ℕ) (c : Configuration) → Contains xs f → IsAtOrBeforeAll f → LeadsTo start calls f c → Contains counted c

    counted_of : (xs : List (List ℕ)) → All (IsFront start calls) xs → AreCounted xs
    counted_of [] fronts =
        record {
          counted = [];
          distinct = AllPairs-nil (λ a b. a ≢ b);
          each = All-nil (IsCounted start calls);
          all =
              λ f c h k l. absurd (Contains-nil f h);
        }
    counted_of (f ∷ xs) fronts =
        let is_front = All-head (IsFront start calls) f xs fronts in
        by_cases (counted_of xs (All-tail (IsFront start calls) f xs fronts)) is_front (at_or_before_told f)
        (LeadsTo-exists start calls f is_front.known)
      where
        by_cases : AreCounted xs → IsFront start calls f → IsTold (IsAtOrBeforeAll f) → (c : Configuration) × LeadsTo start calls f c
            → AreCounted (f ∷ xs)
        by_cases old is_front (inr not) found = record {
          counted = old.counted;
          distinct = old.distinct;
          each = old.each;
          all = λ g c h before leads. ⊎_elim (λ same. absurd (not (subst IsAtOrBeforeAll (sym same) before)))
              (λ later. old.all g c later before leads)
              (Contains-cases f xs g h);
        }
        by_cases old is_front (inl before) (d, leads_d) = of (visited_or_not old.counted d)
          where
            here : (cs : List Configuration) → Contains cs d → (g : List ℕ) (c : Configuration) → f ≡ g
                → LeadsTo start calls g c → Contains cs c
            here cs within g c same leads =
                subst (Contains cs) (configuration_unique start calls f d c leads_d (subst (λ k. LeadsTo start calls k c)
                (sym same) leads)) within

            of : IsTold (Contains old.counted d) → AreCounted (f ∷ xs)
            of (inl within) = record {
              counted = old.counted;
              distinct = old.distinct;
              each = old.each;
              all = λ g c h k leads. ⊎_elim (λ same. here old.counted within g c same leads) (λ later. old.all g c later k leads)
                  (Contains-cases f xs g h);
            }
            of (inr out) = record {
              counted = old.counted ++ d ∷ [];
              distinct =
                  all_pairs_push (λ a b. a ≢ b) old.counted d old.distinct
                  (λ k e within same. out (k, within, get_or_default old.counted k _ e within ∙ same));
              each = All-push (IsCounted start calls) old.counted d old.each
                  (record { front = f; is_front = is_front; leads = leads_d; at_or_before = before });
              all = λ g c h k leads. ⊎_elim (λ same. here (old.counted ++ d ∷ []) (Contains-push old.counted d) g c same leads)
                  (λ later. Contains-append_left old.counted (d ∷ []) c (old.all g c later k leads)) (Contains-cases f xs g h);
            }

    pub has_count : (n : ℕ) × HasCount start calls n
    has_count =
        let (fronts, each, all) = all_fronts in
        let l = counted_of fronts each in (
          length l.counted,
          record {
            counted = l.counted;
            distinct = l.distinct;
            exact = λ c. (
              λ h. All-contains (IsCounted start calls) l.counted c l.each h,
              λ k. l.all k.front c (all k.front k.is_front)
                  k.at_or_before k.leads,
            );
            count = refl;
          },
        )
