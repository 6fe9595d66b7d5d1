-- A call that reported what its key does not have, and what no call puts there before it, has no place in an order.
use Rattle.events.specs.declared.event.Reply.TheVariants as replies
use Rattle.search_choices.proofs.Common.{◌≡◌, ℕ, ◌+◌, ◌<◌, ◌≤◌, Bool, true, false, cond, List, [], ◌∷◌, ◌++◌, Option, Some, None, length, refl, sym, ap}
use Rattle.search_choices.proofs.Common.{◌∙◌, subst, ⊎_elim, inl, inr, arith, ◌≢◌, ◌⊎◌, is_some, min, slice_get, IfSome, All, AllPairs, Contains}
use Rattle.search_choices.proofs.Common.{cases_lt, cases_order, ltb-false, All-contains, Contains-append_left, Contains-append_cases}
use Rattle.search_choices.proofs.Common.{Contains-push_cases, same_Some, slice_get_within, Call, Get, Insert, Remove, Scan, Replace, Reply, Operation}
use Rattle.search_choices.proofs.Common.{Response, is_before, is_completed, precedes, Contents, IsRising, value_at, below, above, within, put, is_just}
use Rattle.search_choices.proofs.Common.{value_reply, reply_to, after, after_reply, IsLegalReply, AreBelow-below, AreAbove-above, value_at_found}
use Rattle.search_choices.proofs.Common.{value_at_gap, IsLegalCall, IsLegal, KeepsPrecedence, after_call, after_calls, calls_at, IsCompletedAt, IsOrder}
use Rattle.search_choices.proofs.Common.{IsLegal-front, IsLegal-back, after_calls-push, AllPairs-back, Contains-first, Contains-later, Contains-split}
use Rattle.search_choices.proofs.Common.{Contains-from_filter_map, IsRead, earlier_of, IsCallOf, value_after, value_after_reply, value_after_call}
use Rattle.search_choices.proofs.Common.{value_at-within, AllPairs-before, read_leaves, IsOut, value_left, after_call_cases, rising_kept, rising_after}
use Rattle.search_choices.proofs.Common.{pairs_after, Puts, IsLeftBy, IsUnput, HasListed, Reports, IsStuck, StuckCallsAreDeadEnds, IsReported}
use Rattle.search_choices.proofs.Common.{HasOrderAfter}
use Rattle.call_effects.specs.KeptCalls.{begun_at}
use Rattle.search_choices.proofs.EarliestLemmas.{below_or_at}
use Rattle.search_choices.proofs.IdleLemmas.{listed, not_refused, begins_later}
use Rattle.search_choices.proofs.ReadLemmas.{not_twice, parts, legal_rest}

-- ---- a value comes to its key by a call that puts it there

put_there : (m : Contents) (key value : ℕ) → value_at (put key value m) key ≡ Some value
put_there m key value = value_at_found key value (below key m) (above key m) (AreBelow-below m key) (AreAbove-above m key)

removed_there : (m : Contents) (key : ℕ) → value_at (below key m ++ above key m) key ≡ None
removed_there m key = value_at_gap key (below key m) (above key m) (AreBelow-below m key) (AreAbove-above m key)

own_or_other : (own key : ℕ) → (own ≡ key) ⊎ IsOut own own key
own_or_other own key = ⊎_elim
    (λ same. inl same)
    (λ apart. inr (⊎_elim (λ less. inr less) (λ more. inl more) apart))
    (cases_order own key)

insert_keeps : (m : Contents) (own new key : ℕ) (value : Option ℕ) → value_at (put own new m) key ≡ value
    → (value_at m key ≡ value) ⊎ ((own ≡ key) × (value ≡ Some new))
insert_keeps m own new key value is = ⊎_elim
    (λ same. inr (same, sym is ∙ (ap (λ k. value_at (put own new m) k) (sym same) ∙ put_there m own new)))
    (λ out. inl (sym (value_left m (begun_at 0 (Insert own new)) key out) ∙ is))
    (own_or_other own key)

-- what a call leaves at a key was there, or the call puts it there
keeps_or_puts : (m : Contents) (call : Call) (key : ℕ) (value : Option ℕ) → value_at (after m call) key ≡ value
    → (value_at m key ≡ value) ⊎ Puts key value call
keeps_or_puts m (Get own) key value is = inl is
keeps_or_puts m (Insert own new) key value is = insert_keeps m own new key value is
keeps_or_puts m (Remove own) key value is = ⊎_elim
    (λ same. inr (same, sym is ∙ (ap (λ k. value_at (below own m ++ above own m) k) (sym same) ∙ removed_there m own)))
    (λ out. inl (sym (value_left m (begun_at 0 (Remove own)) key out) ∙ is))
    (own_or_other own key)
keeps_or_puts m (Scan low high) key value is = inl is
keeps_or_puts m (Replace own expected new) key value is = by_test (is_just (value_at m own) expected) is
  where
    by_test : (test : Bool) → value_at (cond test (put own new m) m) key ≡ value
        → (value_at m key ≡ value) ⊎ ((own ≡ key) × (value ≡ Some new))
    by_test true is = insert_keeps m own new key value is
    by_test false is = inl is

-- what an answered call leaves at a key was there, or the call puts it there
call_keeps_or_puts : (m : Contents) (p : Operation) (key : ℕ) (value : Option ℕ) → value_at (after_call m p.call p.response) key ≡ value
    → (value_at m key ≡ value) ⊎ Puts key value p.call
call_keeps_or_puts m p key value =
    after_call_cases (λ n. value_at n key ≡ value → (value_at m key ≡ value) ⊎ Puts key value p.call) m p.call p.response (λ is. inl is)
    (keeps_or_puts m p.call key value)

-- a value that is not there, and that none of these calls puts there, is not there after them
never_there : (m : Contents) (front : List Operation) (key : ℕ) (value : Option ℕ) → IsRising m → IsLegal m front → value_at m key ≢ value
    → ((p : Operation) → Contains front p → Puts key value p.call → IsRead p) → value_at (after_calls m front) key ≢ value
never_there m [] key value rising legal missing unput is = missing is
never_there m (p ∷ front) key value rising legal missing unput is =
    never_there (after_call m p.call p.response) front key value (rising_kept m p rising) legal.1
    (λ there. ⊎_elim missing
    (λ puts. let leaves = read_leaves m p.call p.response (unput p (Contains-first p front) puts) rising legal.0 in
    missing (ap (λ (n : Contents). value_at n key) (sym leaves) ∙ there))
    (call_keeps_or_puts m p key value there))
    (λ q later. unput q (Contains-later p front q later)) is

-- ---- a call that reported a value found it

same_reported : (a b : Option ℕ) → value_reply a ≡ value_reply b → a ≡ b
same_reported None None is = refl
same_reported None (Some b) is = cc
same_reported (Some a) None is = cc
same_reported (Some a) (Some b) is = let same : a ≡ b = cc in ap Some same

whole_reply : (m : Contents) (call : Call) (key : ℕ) → IsCallOf key call → reply_to m call ≡ value_reply (value_at m key)
whole_reply m (Get own) key is = ap (λ (k : ℕ). value_reply (value_at m k)) is
whole_reply m (Insert own new) key is = ap (λ (k : ℕ). value_reply (value_at m k)) is
whole_reply m (Remove own) key is = ap (λ (k : ℕ). value_reply (value_at m k)) is
whole_reply m (Scan low high) key is = absurd is
whole_reply m (Replace own expected new) key is = ap (λ (k : ℕ). value_reply (value_at m k)) is

reported_there : (m : Contents) (call : Call) (key : ℕ) (value : Option ℕ) → IsCallOf key call → IsLegalReply m call (value_reply value)
    → value_at m key ≡ value
reported_there m call key None of_key (inl refused) = cc
reported_there m call key None of_key (inr is) = sym (same_reported None (value_at m key) (is ∙ whole_reply m call key of_key))
reported_there m call key (Some value) of_key (inl refused) = cc
reported_there m call key (Some value) of_key (inr is) =
    sym (same_reported (Some value) (value_at m key) (is ∙ whole_reply m call key of_key))

listed_there : (m : Contents) (call : Call) (reply : Reply) (key : ℕ) (value : Option ℕ) → HasListed key value call reply
    → IsLegalReply m call reply → value_at m key ≡ value
listed_there m call reply key value h legal =
    let pairs_legal : IsLegalReply m (Scan h.low h.high) (replies.Pairs h.pairs) =
    subst (λ (c : Call). IsLegalReply m c (replies.Pairs h.pairs)) h.scan (subst (IsLegalReply m call) h.listed legal) in
    ⊎_elim (λ refused. absurd (not_refused h.pairs refused))
    (λ is. let same : h.pairs ≡ within h.low h.high m = ap listed is in
    sym (value_at-within h.low h.high m key h.above h.below) ∙ (ap (λ (n : Contents). value_at n key) (sym same) ∙ h.found))
    pairs_legal

pub found_there : (m : Contents) (call : Call) (response : Option Response) (r : Response) (key : ℕ) (value : Option ℕ) → response ≡ Some r
    → Reports key value call r.reply → IsLegalCall m call response → value_at m key ≡ value
found_there m call response r key value answered reports legal =
    let legal_reply : IsLegalReply m call r.reply = subst (IsLegalCall m call) answered legal in
    ⊎_elim
    (λ h. reported_there m call key value h.of_key (subst (IsLegalReply m call) h.found legal_reply))
    (λ h. listed_there m call r.reply key value h legal_reply)
    reports

-- ---- it has no place

module _ (start : Contents) (calls : List Operation) (path : List ℕ) (n : ℕ) (rising : IsRising start)
    (stuck : IsStuck (pairs_after start calls path) calls path n) where
  module _ (front back : List ℕ) (order : IsOrder start calls (path ++ (front ++ n ∷ back))) where
    abbrev before : List Operation
    before = calls_at calls front

    abbrev behind : List Operation
    behind = calls_at calls back

    legal : IsLegal (pairs_after start calls path) (before ++ stuck.call ∷ behind)
    legal = legal_rest start calls path n stuck.call stuck.here front back order

    -- the stuck call precedes none of the calls before it
    free : All (λ b. precedes stuck.call b ≡ false) before
    free = AllPairs-before (λ b c. precedes c b ≡ false) before stuck.call behind
        (AllPairs-back (λ b c. precedes c b ≡ false) (calls_at calls path) (before ++ stuck.call ∷ behind)
        (subst KeepsPrecedence (parts start calls path n stuck.call stuck.here front back order) order.legal_order.precedence))

    left_by : (k : ℕ) (p : Operation) → Contains front k → slice_get calls k ≡ Some p → Contains before p
        → IsLeftBy calls path stuck.response.res k p
    left_by k p in_front there within = record {
      here = there;
      new = λ old.
          not_twice path (front ++ n ∷ back) order.legal_order.distinct k old (Contains-append_left front (n ∷ back) k in_front);
      begins = ltb-false stuck.response.res p.inv (ap (λ o. is_before o p.inv) (sym stuck.answered)
          ∙ All-contains (λ b. precedes stuck.call b ≡ false) before p free within);
    }

    unput_there : (p : Operation) → Contains before p → Puts stuck.key stuck.value p.call → IsRead p
    unput_there p within =
        let (k, in_front, there) = Contains-from_filter_map (slice_get calls) front p within in
        stuck.unput k p (left_by k p in_front there within)

    no_place : ⊥
    no_place =
        let m = pairs_after start calls path in
        never_there m before stuck.key stuck.value (rising_after (calls_at calls path) start rising)
        (IsLegal-front m before (stuck.call ∷ behind) legal) stuck.missing unput_there
        (found_there (after_calls m before) stuck.call.call stuck.call.response stuck.response stuck.key stuck.value stuck.answered
        stuck.reports (IsLegal-back m before (stuck.call ∷ behind) legal).0)

  no_order : HasOrderAfter start calls path → ⊥
  no_order (tail, order) =
      let in_tail = ⊎_elim (λ old. absurd (stuck.new old)) (λ later. later)
      (Contains-append_cases path tail n (order.complete n completed)) in
      let (front, back, is) = Contains-split tail n in_tail in
      no_place front back (subst (λ xs. IsOrder start calls (path ++ xs)) is order)
    where
      done : is_completed stuck.call ≡ true
      done = ap is_some stuck.answered

      completed : IsCompletedAt calls n
      completed = rw stuck.here done

pub stuck_dead : StuckCallsAreDeadEnds
stuck_dead start calls path n rising stuck = no_order start calls path n rising stuck

-- ---- a call that leaves another one stuck

replaced_there : (m : Contents) (key value : ℕ) (test : Bool) → value_at (cond test (put key value m) m) key
    ≡ cond test (Some value) (value_at m key)
replaced_there m key value true = put_there m key value
replaced_there m key value false = refl

after_own : (m : Contents) (key : ℕ) (call : Call) → IsCallOf key call → value_at (after m call) key ≡ value_after (value_at m key) call
after_own m key (Get own) is = refl
after_own m key (Insert own value) is = subst (λ (k : ℕ). value_at (put own value m) k ≡ Some value) is (put_there m own value)
after_own m key (Remove own) is = subst (λ (k : ℕ). value_at (below own m ++ above own m) k ≡ None) is (removed_there m own)
after_own m key (Scan low high) is = absurd is
after_own m key (Replace own expected value) is =
    subst (λ (k : ℕ). value_at (cond (is_just (value_at m own) expected) (put own value m) m) k
    ≡ cond (is_just (value_at m k) expected) (Some value) (value_at m k)) is
    (replaced_there m own value (is_just (value_at m own) expected))

after_own_reply : (m : Contents) (key : ℕ) (call : Call) (reply : Reply) → IsCallOf key call
    → value_at (after_reply m call reply) key ≡ value_after_reply (value_at m key) call reply
after_own_reply m key call replies.None is = after_own m key call is
after_own_reply m key call (replies.Some value) is = after_own m key call is
after_own_reply m key call (replies.Pairs pairs) is = after_own m key call is
after_own_reply m key call replies.Refused is = refl
after_own_reply m key call replies.Done is = after_own m key call is
after_own_reply m key call replies.Found is = after_own m key call is
after_own_reply m key call replies.Other is = after_own m key call is

after_own_call : (m : Contents) (key : ℕ) (call : Call) (response : Option Response) → IsCallOf key call
    → value_at (after_call m call response) key ≡ value_after_call (value_at m key) call response
after_own_call m key call None is = after_own m key call is
after_own_call m key call (Some response) is = after_own_reply m key call response.reply is

-- a call that changes what another reported, and what nobody puts again, is taken in vain
pub futile_dead : (start : Contents) (calls : List Operation) (path : List ℕ) (n : ℕ) (a : Operation) (key : ℕ) (value : Option ℕ) (last : ℕ)
    → IsRising start → slice_get calls n ≡ Some a → IsCallOf key a.call → value_at (pairs_after start calls path) key ≡ value
    → value_after_call value a.call a.response ≢ value → IsReported calls path n key value last → IsUnput calls path last key value
    → HasOrderAfter start calls (path ++ n ∷ []) → ⊥
futile_dead start calls path n a key value last rising here of_key was changed r unput =
    stuck_dead start calls (path ++ n ∷ []) r.n rising (record {
      call = r.call;
      response = r.response;
      key = key;
      value = value;
      here = r.here;
      new = λ h. ⊎_elim (λ old. r.new old) (λ same. r.differs (sym same)) (Contains-push_cases path n r.n h);
      answered = r.answered;
      reports = r.reports;
      missing = λ is. changed (ap (λ v. value_after_call v a.call a.response) (sym was)
          ∙ (sym (after_own_call (pairs_after start calls path) key a.call a.response of_key)
          ∙ (ap (λ (m : Contents). value_at m key) (sym (after_calls-push start calls path n a here)) ∙ is)));
      unput = λ k p left puts. unput k p (record {
        here = left.here;
        new = λ old. left.new (Contains-append_left path (n ∷ []) k old);
        begins = subst (λ place. p.inv ≤ place) r.at left.begins;
      }) puts;
    })

-- the earlier of two answers has what both have
pub earlier_has : (P : ℕ → Type 0) (earliest : Option ℕ) (response : Option Response) → IfSome earliest P
    → ((r : Response) → response ≡ Some r → P r.res) → IfSome (earlier_of earliest response) P
earlier_has P earliest None h k = h
earlier_has P None (Some response) h k = k response refl
earlier_has P (Some answered) (Some response) h k = ⊎_elim
    (λ lt. let is : answered ≡ min answered response.res = omega arith in subst P is h)
    (λ le. let is : response.res ≡ min answered response.res = omega arith in subst P is (k response refl))
    (cases_lt answered response.res)

-- ---- calls looked at one by one

module _ (calls : List Operation) (path : List ℕ) (place key : ℕ) (value : Option ℕ) where
  -- none of the calls with a number below this puts the value there
  abbrev pub IsUnputBelow : ℕ → Type 0
  IsUnputBelow i = (n : ℕ) (p : Operation) → IsLeftBy calls path place n p → n < i → Puts key value p.call → IsRead p

  pub unput-taken : (i : ℕ) → Contains path i → IsUnputBelow i → IsUnputBelow (i + 1)
  unput-taken i taken h n p left lt = ⊎_elim (λ below. h n p left below)
      (λ is. absurd (left.new (subst (Contains path) (sym is) taken))) (below_or_at n i lt)

  pub unput-more : (i : ℕ) (a : Operation) → slice_get calls i ≡ Some a → (Puts key value a.call → IsRead a) → IsUnputBelow i
      → IsUnputBelow (i + 1)
  unput-more i a here reads h n p left lt = ⊎_elim (λ below. h n p left below)
      (λ is. let same : a ≡ p = same_Some a p (sym here ∙ (ap (slice_get calls) (sym is) ∙ left.here)) in
      subst (λ (b : Operation). Puts key value b.call → IsRead b) same reads)
      (below_or_at n i lt)

  pub unput-late : (i : ℕ) (a : Operation) → AllPairs (λ (x : Operation) (y : Operation). x.inv < y.inv) calls → slice_get calls i ≡ Some a
      → place < a.inv → IsUnputBelow i → IsUnput calls path place key value
  unput-late i a rising here late h n p left = ⊎_elim (λ below. h n p left below)
      (λ above. absurd (let later = begins_later calls i n a p rising here left.here above in omega (arith, later, late, left.begins)))
      (cases_lt n i)

  pub unput-all : (i : ℕ) → length calls ≤ i → IsUnputBelow i → IsUnput calls path place key value
  unput-all i le h n p left = h n p left (omega (arith, le, slice_get_within calls n p left.here))
