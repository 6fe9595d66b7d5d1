-- If what is left has an order, it has one that begins with a call of one of some keys.
use Rattle.events.specs.declared.event.Reply.TheVariants as replies
use Rattle.search_choices.proofs.Common.{◌≡◌, ℕ, ◌+◌, ◌<◌, ◌≤◌, true, false, List, [], ◌∷◌, ◌++◌, Option, Some, None, length, refl, sym, ap, ◌∙◌, subst}
use Rattle.search_choices.proofs.Common.{append_assoc, ⊎_elim, inl, inr, arith, ◌⊎◌, is_some, slice_get, IfSome, All, AllPairs, Contains, both_ways}
use Rattle.search_choices.proofs.Common.{cases_Bool, cases_lt, cases_order, false_from_ne_true, ltb-false, All-head, All-tail, All-contains}
use Rattle.search_choices.proofs.Common.{Contains-append_left, Contains-append_cases, same_Some, slice_get_within, Call, Get, Insert, Remove, Scan}
use Rattle.search_choices.proofs.Common.{Replace, Reply, Operation, Response, low_key, high_key, is_before, is_completed, precedes, NonePrecedesItself}
use Rattle.search_choices.proofs.Common.{has_number, All-back, All-at, All-from_contains, AllPairs-back, AllPairs-across, AllPairs-head, Contains-nil}
use Rattle.search_choices.proofs.Common.{Contains-first, Contains-cases, Contains-split, Contains-filter_map, Contains-from_filter_map, slice_get-below}
use Rattle.search_choices.proofs.Common.{has_number-Contains, has_number-from_Contains, Contents, IsRising, value_at, IsLegalReply, IsLegalCall}
use Rattle.search_choices.proofs.Common.{IsLegal, KeepsPrecedence, after_call, after_calls, calls_at, IsCompletedAt, IsOrder, IsLegal-front}
use Rattle.search_choices.proofs.Common.{IsLegal-back, calls_at-append, IsCallOf, in_or_out, after_call_cases, rising_after, IsOutside, IsNext}
use Rattle.search_choices.proofs.Common.{IsNext-from_front, IsFront-from_order, IsEarliestAnswer, pairs_after, preceded_from_earliest, IsLeftBy}
use Rattle.search_choices.proofs.Common.{IsCallOfOne, IsScanOfOne, IsMissed, MissesOne, HasAnswered, AllMissOne, AreFirstKeys}
use Rattle.search_choices.proofs.Common.{FewKeysGoFirst, Differs, OneDiffers, AreNextOfOne, AreNext, Closes, AreChoices}
use Rattle.search_choices.proofs.ApartLemmas.{LetsPass, passes, value_stays}
use Rattle.search_choices.proofs.DeadLemmas.{found_there}
use Rattle.search_choices.proofs.EarliestLemmas.{below_or_at}
use Rattle.search_choices.proofs.IdleLemmas.{begins_later}
use Rattle.search_choices.proofs.Common.{length-append}
use Rattle.std.proofs.Common.{zero, suc}
use Rattle.search_choices.proofs.VainLemmas.{vain_left_out}
use Rattle.search_choices.specs.Idle.{IsVain}
use Rattle.search_choices.proofs.ReadLemmas.{not_twice, parts, legal_rest, moves_forward}

-- what is left has an order that begins with a call of one of these keys, and is as long as this one
record Begins (start : Contents) (calls : List Operation) (path keys tail : List ℕ) : Type 0 where
  n : ℕ
  call : Operation
  here : slice_get calls n ≡ Some call
  of_one : IsCallOfOne keys call.call
  next : IsNext start calls path n
  rest : List ℕ
  order : IsOrder start calls (path ++ n ∷ rest)
  shorter : length rest < length tail

-- ---- calls of these keys, and others

one_or_not : (keys : List ℕ) (own : ℕ) → ((key : ℕ) × Contains keys key × (own ≡ key)) ⊎ (((key : ℕ) × Contains keys key × (own ≡ key)) → ⊥)
one_or_not keys own = ⊎_elim
    (λ yes. inl (own, has_number-Contains keys own yes, refl))
    (λ no. inr (λ (key, within, is). both_ways (has_number keys own) no (has_number-from_Contains keys own (subst (Contains keys) (sym is) within))))
    (cases_Bool (has_number keys own))

of_one_or_not : (keys : List ℕ) (call : Call) → IsCallOfOne keys call ⊎ (IsCallOfOne keys call → ⊥)
of_one_or_not keys (Get own) = one_or_not keys own
of_one_or_not keys (Insert own value) = one_or_not keys own
of_one_or_not keys (Remove own) = one_or_not keys own
of_one_or_not keys (Scan low high) = inr (λ (key, within, is). is)
of_one_or_not keys (Replace own expected value) = one_or_not keys own

apart_keys : (own key : ℕ) → (own ≡ key → ⊥) → (own < key) ⊎ (key < own)
apart_keys own key other = ⊎_elim (λ same. absurd (other same)) (λ apart. apart) (cases_order own key)

-- a call that is not of a key changes nothing there
other_outside : (call : Call) (key : ℕ) → (IsCallOf key call → ⊥) → IsOutside key key call
other_outside (Get own) key other = inl refl
other_outside (Insert own value) key other = inr (apart_keys own key other)
other_outside (Remove own) key other = inr (apart_keys own key other)
other_outside (Scan low high) key other = inl refl
other_outside (Replace own expected value) key other = inr (apart_keys own key other)

-- some of the calls listed are of these keys: the first of them, after others
record HasFirstOf (calls : List Operation) (keys tail : List ℕ) : Type 0 where
  front : List ℕ
  n : ℕ
  back : List ℕ
  call : Operation
  is : tail ≡ front ++ n ∷ back
  here : slice_get calls n ≡ Some call
  of_one : IsCallOfOne keys call.call
  others : (k : ℕ) (p : Operation) → Contains front k → slice_get calls k ≡ Some p → IsCallOfOne keys p.call → ⊥

-- none of the calls listed is of these keys
abbrev HasNoneOf : List Operation → List ℕ → List ℕ → Type 0
HasNoneOf calls keys tail = (k : ℕ) (p : Operation) → Contains tail k → slice_get calls k ≡ Some p → IsCallOfOne keys p.call → ⊥

first_or_none : (calls : List Operation) (keys tail : List ℕ) → All (λ k. k < length calls) tail
    → HasFirstOf calls keys tail ⊎ HasNoneOf calls keys tail
first_or_none calls keys [] known = inr (λ k p h there one. Contains-nil k h)
first_or_none calls keys (n ∷ tail) known =
    let (a, here) = slice_get-below calls n (All-head (λ k. k < length calls) n tail known) in
    ⊎_elim
    (λ yes. inl (record {
      front = [];
      n = n;
      back = tail;
      call = a;
      is = refl;
      here = here;
      of_one = yes;
      others = λ k p h there one. Contains-nil k h;
    }))
    (λ no. let first : (k : ℕ) (p : Operation) → n ≡ k → slice_get calls k ≡ Some p → IsCallOfOne keys p.call → ⊥ =
    λ k p is there one. no (subst (λ (b : Operation). IsCallOfOne keys b.call)
    (same_Some p a (sym there ∙ (ap (slice_get calls) (sym is) ∙ here))) one) in
    ⊎_elim
    (λ later. inl (record {
      front = n ∷ later.front;
      n = later.n;
      back = later.back;
      call = later.call;
      is = ap (λ xs. n ∷ xs) later.is;
      here = later.here;
      of_one = later.of_one;
      others = λ k p h there one. ⊎_elim (λ is. first k p is there one) (λ rest. later.others k p rest there one)
          (Contains-cases n later.front k h);
    }))
    (λ none. inr (λ k p h there one. ⊎_elim (λ is. first k p is there one) (λ rest. none k p rest there one) (Contains-cases n tail k h)))
    (first_or_none calls keys tail (All-tail (λ k. k < length calls) n tail known)))
    (of_one_or_not keys a.call)

-- ---- scans

scan_leaves : (m : Contents) (low high : ℕ) (response : Option Response) → after_call m (Scan low high) response ≡ m
scan_leaves m low high response = after_call_cases (λ n. n ≡ m) m (Scan low high) response refl refl

-- a reply of a scan that is legal once lists pairs, or is legal at all pairs
lists_or_always : (m : Contents) (low high : ℕ) (reply : Reply) → IsLegalReply m (Scan low high) reply
    → ((pairs : Contents) × (reply ≡ replies.Pairs pairs)) ⊎ ((n : Contents) → IsLegalReply n (Scan low high) reply)
lists_or_always m low high replies.None (inl is) = cc
lists_or_always m low high replies.None (inr is) = cc
lists_or_always m low high (replies.Some value) (inl is) = cc
lists_or_always m low high (replies.Some value) (inr is) = cc
lists_or_always m low high (replies.Pairs pairs) legal = inl (pairs, refl)
lists_or_always m low high replies.Refused legal = inr (λ n. inl refl)
lists_or_always m low high replies.Done legal = inr (λ n. inr tt)
lists_or_always m low high replies.Found (inl is) = cc
lists_or_always m low high replies.Found (inr is) = cc
lists_or_always m low high replies.Other (inl is) = cc
lists_or_always m low high replies.Other (inr is) = cc

-- a scan that lists pairs over no key of a call lets it pass, and so does each other scan
scan_passes : (m : Contents) (a : Operation) (low high : ℕ) (response : Option Response) → IsLegalCall m (Scan low high) response
    → ((r : Response) (pairs : Contents) → response ≡ Some r → r.reply ≡ replies.Pairs pairs → (high < low_key a.call) ⊎ (high_key a.call < low))
    → ((high < low_key a.call) ⊎ (high_key a.call < low))
    ⊎ (((n : Contents) → IsLegalCall n (Scan low high) response) × ((n : Contents) → after_call n (Scan low high) response ≡ n))
scan_passes m a low high None legal apart = inr (λ n. tt, λ n. refl)
scan_passes m a low high (Some r) legal apart = ⊎_elim
    (λ lists. inl (apart r lists.0 refl lists.1))
    (λ always. inr (always, λ n. scan_leaves n low high (Some r)))
    (lists_or_always m low high r.reply legal)

-- ---- a call of these keys goes before others that let it

-- the keys of a call of one key
own_bounds : (call : Call) (key : ℕ) → IsCallOf key call → (low_key call ≡ key) × (high_key call ≡ key)
own_bounds (Get own) key is = (is, is)
own_bounds (Insert own value) key is = (is, is)
own_bounds (Remove own) key is = (is, is)
own_bounds (Scan low high) key is = absurd is
own_bounds (Replace own expected value) key is = (is, is)

point_passes : (a : Operation) (key own : ℕ) → (low_key a.call ≡ key) × (high_key a.call ≡ key) → (own ≡ key → ⊥)
    → (own < low_key a.call) ⊎ (high_key a.call < own)
point_passes a key own bounds other = ⊎_elim (λ less. inl (omega (arith, less, bounds.0))) (λ more. inr (omega (arith, more, bounds.1)))
    (apart_keys own key other)

-- a call of one key is let pass by calls that are not of it, except for scans that list pairs over
-- it
lets_pass : (m : Contents) (a : Operation) (inv key : ℕ) (call : Call) (response : Option Response)
    → IsCallOf key a.call → (IsCallOf key call → ⊥) → IsLegalCall m call response
    → ((low high : ℕ) (r : Response) (pairs : Contents) → call ≡ Scan low high → response ≡ Some r → r.reply ≡ replies.Pairs pairs → low ≤ key
    → key ≤ high → ⊥)
    → LetsPass a (record { call = call; inv = inv; response = response })
lets_pass m a inv key (Get own) response of_key other legal scans =
    inl (point_passes a key own (own_bounds a.call key of_key) other)
lets_pass m a inv key (Insert own value) response of_key other legal scans =
    inl (point_passes a key own (own_bounds a.call key of_key) other)
lets_pass m a inv key (Remove own) response of_key other legal scans =
    inl (point_passes a key own (own_bounds a.call key of_key) other)
lets_pass m a inv key (Replace own expected value) response of_key other legal scans =
    inl (point_passes a key own (own_bounds a.call key of_key) other)
lets_pass m a inv key (Scan low high) response of_key other legal scans =
    scan_passes m a low high response legal (λ r pairs is reply_is. ⊎_elim
    (λ within. absurd (scans low high r pairs refl is reply_is within.0 within.1))
    (λ out. let bounds = own_bounds a.call key of_key in
    ⊎_elim (λ below. inr (omega (arith, below, bounds.1))) (λ above. inl (omega (arith, above, bounds.0))) out)
    (in_or_out low high key))

-- ---- where a call misses a key it comes after a call of these keys

module _ (start : Contents) (calls : List Operation) (path : List ℕ) (answered : ℕ) (keys : List ℕ) (rising : IsRising start)
    (apart : NonePrecedesItself calls) (earliest : IsEarliestAnswer calls path (Some answered))
    (first : AreFirstKeys (pairs_after start calls path) calls path answered keys) where
  abbrev m : Contents
  m = pairs_after start calls path

  abbrev e : Operation
  e = first.first.call

  -- after calls of other keys each of these keys has what it had
  stays : (front : List ℕ) → HasNoneOf calls keys front → (key : ℕ) → Contains keys key
      → value_at (after_calls m (calls_at calls front)) key ≡ value_at m key
  stays front none key within = value_stays m (calls_at calls front) key
      (All-from_contains (λ p. IsOutside key key p.call) (calls_at calls front) (λ p h.
      let (k, in_front, there) = Contains-from_filter_map (slice_get calls) front p h in
      other_outside p.call key (λ is. none k p in_front there (key, within, is))))

  cannot_miss : (front : List ℕ) → HasNoneOf calls keys front → (p : Operation) (r : Response) → p.response ≡ Some r
      → IsLegalCall (after_calls m (calls_at calls front)) p.call p.response → MissesOne m keys p.call r.reply → ⊥
  cannot_miss front none p r answered_so legal (key, within, missed) =
      missed.differs (sym (stays front none key within)
      ∙ found_there (after_calls m (calls_at calls front)) p.call p.response r key missed.value answered_so (inr missed.listed) legal)

  -- a call of a legal list is legal after those before it
  legal_at : (front : List ℕ) (k : ℕ) (back : List ℕ) (p : Operation) → slice_get calls k ≡ Some p
      → IsLegal m (calls_at calls (front ++ k ∷ back)) → IsLegalCall (after_calls m (calls_at calls front)) p.call p.response
  legal_at front k back p there legal =
      let at_k : calls_at calls (k ∷ back) ≡ p ∷ calls_at calls back = rw there refl in
      let whole : IsLegal m (calls_at calls front ++ p ∷ calls_at calls back) =
      subst (IsLegal m) (calls_at-append calls front (k ∷ back) ∙ ap (λ xs. calls_at calls front ++ xs) at_k) legal in
      (IsLegal-back m (calls_at calls front) (p ∷ calls_at calls back) whole).0

  -- the call that is answered first comes after a call of these keys, or is one
  not_before : (list : List ℕ) → HasNoneOf calls keys list → IsLegal m (calls_at calls list) → Contains list first.first.n → ⊥
  not_before list none legal within =
      let (front, back, is) = Contains-split list first.first.n within in
      let none_there : HasNoneOf calls keys (front ++ first.first.n ∷ back) = subst (HasNoneOf calls keys) is none in
      ⊎_elim
      (λ one. none first.first.n e within first.first.here one)
      (λ misses. cannot_miss front
      (λ k p h. none_there k p (Contains-append_left front (first.first.n ∷ back) k h)) e first.first.response first.first.is_answered
      (legal_at front first.first.n back e first.first.here (subst (λ xs. IsLegal m (calls_at calls xs)) is legal)) misses)
      first.first.concerned

  module _ (tail : List ℕ) (c : HasFirstOf calls keys tail) (whole_order : IsOrder start calls (path ++ tail))
      (e_left : Contains tail first.first.n) where
    abbrev front : List ℕ
    front = c.front

    abbrev n : ℕ
    n = c.n

    abbrev back : List ℕ
    back = c.back

    abbrev a : Operation
    a = c.call

    order : IsOrder start calls (path ++ (front ++ n ∷ back))
    order = subst (λ xs. IsOrder start calls (path ++ xs)) c.is whole_order

    there : IsLegal m (calls_at calls front ++ a ∷ calls_at calls back)
    there = legal_rest start calls path n a c.here front back order

    legal_front : IsLegal m (calls_at calls front)
    legal_front = IsLegal-front m (calls_at calls front) (a ∷ calls_at calls back) there

    e_later : Contains (n ∷ back) first.first.n
    e_later = ⊎_elim (λ in_front. absurd (not_before front c.others legal_front in_front)) (λ later. later)
        (Contains-append_cases front (n ∷ back) first.first.n (subst (λ xs. Contains xs first.first.n) c.is e_left))

    e_behind : Contains (a ∷ calls_at calls back) e
    e_behind =
        let at_n : calls_at calls (n ∷ back) ≡ a ∷ calls_at calls back = rw c.here refl in
        subst (λ xs. Contains xs e) at_n (Contains-filter_map (slice_get calls) (n ∷ back) first.first.n e e_later first.first.here)

    keeps : AllPairs (λ b d. precedes d b ≡ false) (calls_at calls front ++ a ∷ calls_at calls back)
    keeps = AllPairs-back (λ b d. precedes d b ≡ false) (calls_at calls path) (calls_at calls front ++ a ∷ calls_at calls back)
        (subst KeepsPrecedence (parts start calls path n a c.here front back order) order.legal_order.precedence)

    -- a call that the first one does not precede begins no later than its answer
    early : (p : Operation) → precedes e p ≡ false → p.inv ≤ answered
    early p free = subst (λ place. p.inv ≤ place) first.first.at
        (ltb-false first.first.response.res p.inv (ap (λ o. is_before o p.inv) (sym first.first.is_answered) ∙ free))

    front_early : (p : Operation) → Contains (calls_at calls front) p → p.inv ≤ answered
    front_early p within = early p (All-contains (λ d. precedes d p ≡ false) (a ∷ calls_at calls back) e
        (All-contains (λ b. All (λ d. precedes d b ≡ false) (a ∷ calls_at calls back)) (calls_at calls front) p
        (AllPairs-across (λ b d. precedes d b ≡ false) (calls_at calls front) (a ∷ calls_at calls back) keeps) within) e_behind)

    own_early : a.inv ≤ answered
    own_early = early a (⊎_elim
        (λ is. subst (λ (b : Operation). precedes b a ≡ false) is (All-at (λ b. precedes b b ≡ false) calls n a apart c.here))
        (λ later. All-contains (λ d. precedes d a ≡ false) (calls_at calls back) e
        (AllPairs-head (λ b d. precedes d b ≡ false) a (calls_at calls back)
        (AllPairs-back (λ b d. precedes d b ≡ false) (calls_at calls front) (a ∷ calls_at calls back) keeps)) later)
        (Contains-cases a (calls_at calls back) e e_behind))

    new_at : (k : ℕ) → Contains front k → Contains path k → ⊥
    new_at k later in_path = not_twice path (front ++ n ∷ back) order.legal_order.distinct k in_path (Contains-append_left front (n ∷ back) k later)

    -- no call before it precedes it
    free : All (λ b. precedes b a ≡ false) (calls_at calls front)
    free = All-from_contains (λ b. precedes b a ≡ false) (calls_at calls front)
        (λ b h. false_from_ne_true (precedes b a) (λ before.
        let (k, in_front, here) = Contains-from_filter_map (slice_get calls) front b h in
        new_at k in_front
        (preceded_from_earliest start calls path answered earliest n a c.here own_early k (b, a, here, c.here, before))))

    -- each call before it lets it pass
    let_it : (p : Operation) → Contains (calls_at calls front) p → LetsPass a p
    let_it p h =
        let (k, in_front, here) = Contains-from_filter_map (slice_get calls) front p h in
        let (before, behind, is) = Contains-split front k in_front in
        let none_before : HasNoneOf calls keys before = λ j q within.
        c.others j q (subst (λ xs. Contains xs j) (sym is) (Contains-append_left before (k ∷ behind) j within)) in
        let legal = legal_at before k behind p here (subst (λ xs. IsLegal m (calls_at calls xs)) is legal_front) in
        let (key, within, of_key) = c.of_one in
        lets_pass (after_calls m (calls_at calls before)) a p.inv key p.call p.response of_key
        (λ one. c.others k p in_front here (key, within, one)) legal
        (λ low high r pairs scan_is response_is reply_is above below.
        cannot_miss before none_before p r response_is legal
        (first.scans k p r (record { here = here; new = new_at k in_front; begins = front_early p h }) response_is (
          key,
          value_at pairs key,
          within,
          record {
            low = low;
            high = high;
            pairs = pairs;
            scan = scan_is;
            listed = reply_is;
            above = above;
            below = below;
            found = refl;
          },
        )))

    comes_first : IsOrder start calls (path ++ n ∷ (front ++ back))
    comes_first = moves_forward start calls path n a c.here front back order free
        (passes m (calls_at calls front) (calls_at calls back) a (rising_after (calls_at calls path) start rising)
        (All-from_contains (LetsPass a) (calls_at calls front) let_it) there)

    begins : Begins start calls path keys tail
    begins = record {
      n = n;
      call = a;
      here = c.here;
      of_one = c.of_one;
      next = IsNext-from_front start calls path n (front ++ back)
          (IsFront-from_order start calls (path ++ n ∷ (front ++ back)) apart comes_first);
      rest = front ++ back;
      order = comes_first;
      shorter = omega (arith, ap length c.is, length-append front (n ∷ back), length-append front back);
    }

  begins_with_one : (tail : List ℕ) → IsOrder start calls (path ++ tail) → Begins start calls path keys tail
  begins_with_one tail order = ⊎_elim
      (λ c. begins tail c order e_left)
      (λ none. absurd (not_before tail none legal_tail e_left))
      (first_or_none calls keys tail (All-back (λ k. k < length calls) path tail order.legal_order.known))
    where
      done : is_completed e ≡ true
      done = ap is_some first.first.is_answered

      done_at : IsCompletedAt calls first.first.n
      done_at = rw first.first.here done

      e_left : Contains tail first.first.n
      e_left = ⊎_elim (λ old. absurd (first.first.new old)) (λ later. later)
          (Contains-append_cases path tail first.first.n (order.complete first.first.n done_at))

      legal_tail : IsLegal m (calls_at calls tail)
      legal_tail = IsLegal-back start (calls_at calls path) (calls_at calls tail)
          (subst (IsLegal start) (calls_at-append calls path tail) order.legal_order.legal)

pub few_keys_first : FewKeysGoFirst
few_keys_first start calls path answered keys rising apart earliest first (tail, order) =
    let b = begins_with_one start calls path answered keys rising apart earliest first tail order in
    record {
      n = b.n;
      call = b.call;
      here = b.here;
      of_one = b.of_one;
      next = b.next;
      goes_on = (b.rest, subst (IsOrder start calls) (sym (append_assoc path (b.n ∷ []) b.rest)) b.order);
    }

-- ---- the calls of these keys make an end

few_close : (start : Contents) (calls : List Operation) (path : List ℕ) (answered : ℕ) (keys rest : List ℕ) → IsRising start
    → NonePrecedesItself calls → IsEarliestAnswer calls path (Some answered)
    → AreFirstKeys (pairs_after start calls path) calls path answered keys → AreNextOfOne start calls path keys rest
    → Closes start calls path rest
few_close start calls path answered keys rest rising apart earliest first rests dead (tail, left) = go (length tail) tail (omega arith) left
  where
    begins_at : (tail : List ℕ) → IsOrder start calls (path ++ tail) → Begins start calls path keys tail
    begins_at tail is = begins_with_one start calls path answered keys rising apart earliest first tail is

    go : (k : ℕ) (tail : List ℕ) → length tail ≤ k → IsOrder start calls (path ++ tail) → ⊥
    go zero tail short is = let b = begins_at tail is in absurd (omega (arith, short, b.shorter))
    go (suc k) tail short is =
        let b = begins_at tail is in
        ⊎_elim
        (λ listed. dead b.n listed (b.rest, subst (IsOrder start calls) (sym (append_assoc path (b.n ∷ []) b.rest)) b.order))
        (λ vain. go k b.rest (omega (arith, short, b.shorter)) (vain_left_out start calls path b.rest b.n vain b.order))
        (rests.all b.n b.call b.here b.of_one b.next)

pub few_choices : (start : Contents) (calls : List Operation) (path : List ℕ) (answered : ℕ) (keys rest : List ℕ) (pairs : Contents)
    → IsRising start → NonePrecedesItself calls → IsEarliestAnswer calls path (Some answered) → pairs ≡ pairs_after start calls path
    → AreFirstKeys pairs calls path answered keys → AreNextOfOne start calls path keys rest → AreChoices start calls path rest
few_choices start calls path answered keys rest pairs rising apart earliest holds first rests = record {
  next = rests.next;
  closes = few_close start calls path answered keys rest rising apart earliest
      (subst (λ n. AreFirstKeys n calls path answered keys) holds first) rests;
}

-- a call that is passed over: it is of none of these keys
abbrev pub IsOfOther : List Operation → List ℕ → ℕ → Type 0
IsOfOther calls keys n = (a : Operation) → slice_get calls n ≡ Some a → IsCallOfOne keys a.call → ⊥

-- or it is pending, and would change nothing
abbrev pub IsLeftAside : Contents → List Operation → List ℕ → ℕ → Type 0
IsLeftAside m calls keys n = IsOfOther calls keys n ⊎ IsVain m calls n

-- all that may come next are listed, except for those
pub next_of_one : (start m : Contents) (calls : List Operation) (path keys rest : List ℕ) → m ≡ pairs_after start calls path
    → AreNext start calls path rest
    → ((n : ℕ) → IsNext start calls path n → Contains rest n ⊎ IsLeftAside m calls keys n) → AreNextOfOne start calls path keys rest
next_of_one start m calls path keys rest holds next all = record {
  next = next;
  all = λ n a here one is_next. ⊎_elim (λ listed. inl listed)
      (λ aside. ⊎_elim (λ other. absurd (other a here one)) (λ vain. inr (subst (λ p. IsVain p calls n) holds vain)) aside) (all n is_next);
}

-- ---- keys and scans looked at one by one

pub some_more : (o : Option ℕ) (P Q : ℕ → Type 0) → ((x : ℕ) → P x → Q x) → IfSome o P → IfSome o Q
some_more None P Q to h = h
some_more (Some x) P Q to h = to x h

module _ (m : Contents) (calls : List Operation) (path : List ℕ) (answered : ℕ) where
  pub answered-first : (n : ℕ) (a : Operation) (r : Response) (key : ℕ) → slice_get calls n ≡ Some a → (Contains path n → ⊥)
      → a.response ≡ Some r → r.res ≡ answered → IsCallOf key a.call ⊎ IsMissed m key a.call r.reply
      → HasAnswered m calls path answered (key ∷ [])
  answered-first n a r key here new is at concerned = record {
    n = n;
    call = a;
    response = r;
    here = here;
    new = new;
    is_answered = is;
    at = at;
    concerned = ⊎_elim (λ of_key. inl (key, Contains-first key [], of_key)) (λ missed. inr (key, Contains-first key [], missed)) concerned;
  }

  pub answered-push : (keys more : List ℕ) (key : ℕ) → more ≡ keys ++ key ∷ [] → HasAnswered m calls path answered keys
      → HasAnswered m calls path answered more
  answered-push keys more key is h = subst (HasAnswered m calls path answered) (sym is) (record {
    n = h.n;
    call = h.call;
    response = h.response;
    here = h.here;
    new = h.new;
    is_answered = h.is_answered;
    at = h.at;
    concerned = ⊎_elim
        (λ (k, within, of_key). inl (k, Contains-append_left keys (key ∷ []) k within, of_key))
        (λ (k, within, missed). inr (k, Contains-append_left keys (key ∷ []) k within, missed))
        h.concerned;
  })

  module _ (keys : List ℕ) where
    -- each of the scans with a number below this that is over one of these keys missed one
    abbrev pub AllMissOneBelow : ℕ → Type 0
    AllMissOneBelow i =
        (n : ℕ) (p : Operation) (r : Response) → IsLeftBy calls path answered n p → n < i → p.response ≡ Some r → IsScanOfOne keys p.call r.reply
        → MissesOne m keys p.call r.reply

    pub all_miss-taken : (i : ℕ) → Contains path i → AllMissOneBelow i → AllMissOneBelow (i + 1)
    all_miss-taken i taken h n p r left lt is over = ⊎_elim (λ below. h n p r left below is over)
        (λ same. absurd (left.new (subst (Contains path) (sym same) taken))) (below_or_at n i lt)

    pub all_miss-more : (i : ℕ) (a : Operation) → slice_get calls i ≡ Some a
        → ((r : Response) → a.response ≡ Some r → IsScanOfOne keys a.call r.reply → MissesOne m keys a.call r.reply) → AllMissOneBelow i
        → AllMissOneBelow (i + 1)
    all_miss-more i a here misses h n p r left lt is over = ⊎_elim (λ below. h n p r left below is over)
        (λ at. let same : a ≡ p = same_Some a p (sym here ∙ (ap (slice_get calls) (sym at) ∙ left.here)) in
        subst (λ (b : Operation). (s : Response) → b.response ≡ Some s → IsScanOfOne keys b.call s.reply → MissesOne m keys b.call s.reply) same
        misses r is over)
        (below_or_at n i lt)

    pub all_miss-late : (i : ℕ) (a : Operation) → AllPairs (λ (x : Operation) (y : Operation). x.inv < y.inv) calls
        → slice_get calls i ≡ Some a → answered < a.inv → AllMissOneBelow i → AllMissOne m calls path answered keys
    all_miss-late i a rising here late h n p r left is over = ⊎_elim (λ below. h n p r left below is over)
        (λ above. absurd (let later = begins_later calls i n a p rising here left.here above in omega (arith, later, late, left.begins)))
        (cases_lt n i)

    pub all_miss-all : (i : ℕ) → length calls ≤ i → AllMissOneBelow i → AllMissOne m calls path answered keys
    all_miss-all i le h n p r left is over = h n p r left (omega (arith, le, slice_get_within calls n p left.here)) is over

-- what a scan listed is what its call and its reply say
pub scan_missed : (m : Contents) (call : Call) (reply : Reply) (low high key : ℕ) (pairs : Contents) → call ≡ Scan low high
    → reply ≡ replies.Pairs pairs → Differs m low high pairs key → IsMissed m key call reply
scan_missed m call reply low high key pairs call_is reply_is h = record {
  value = value_at pairs key;
  listed = record {
    low = low;
    high = high;
    pairs = pairs;
    scan = call_is;
    listed = reply_is;
    above = h.above;
    below = h.below;
    found = refl;
  };
  differs = h.differs;
}

pub scan_misses_one : (m : Contents) (keys : List ℕ) (call : Call) (reply : Reply) (low high : ℕ) (pairs : Contents) → call ≡ Scan low high
    → reply ≡ replies.Pairs pairs
    → ((key : ℕ) → Contains keys key → low ≤ key → key ≤ high → OneDiffers m low high pairs keys)
    → IsScanOfOne keys call reply → MissesOne m keys call reply
scan_misses_one m keys call reply low high pairs call_is reply_is misses (key, value, within, listed) =
    let same : Scan low high ≡ Scan listed.low listed.high = sym call_is ∙ listed.scan in
    let above : low ≤ key = subst (λ (k : ℕ). k ≤ key) (sym (ap low_key same)) listed.above in
    let below : key ≤ high = subst (λ (k : ℕ). key ≤ k) (sym (ap high_key same)) listed.below in
    let (other, in_keys, differs) = misses key within above below in
    (other, in_keys, scan_missed m call reply low high other pairs call_is reply_is differs)
