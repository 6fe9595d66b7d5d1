-- Calls of a cache in turn: if they are legal at the lossy map, the recorded ones are legal at the map, and the other way round.
use Rattle.certificate.proofs.Common.{◌≡◌, ℕ, ◌<◌, ◌≤◌, ◌&&◌, Bool, true, false, cond, List, [], ◌∷◌, ◌++◌, length, filter, Option, Some, None, ◌==◌}
use Rattle.certificate.proofs.Common.{inl, inr, refl, sym, ap, ◌∙◌, subst, ⊎_elim, arith, ◌⊎◌, ◌≢◌, All, Contains, slice_get, range_with_len}
use Rattle.certificate.proofs.Common.{cases_lt, and_parts, and_from, eq-eqb, eqb-true, none-some, same_Some, slice_get_within, length-range_with_len}
use Rattle.certificate.proofs.Common.{get_or-range_with_len, All-head, All-tail, Call, Get, Insert, Remove, Scan, Replace, Reply, Operation, Response}
use Rattle.certificate.proofs.Common.{low_key, Contents, IsRising, value_at, within, after, after_reply, IsLegalReply, after_call, IsLegalCall}
use Rattle.certificate.proofs.Common.{IsLegal, calls_at, Contains-nil, Contains-cases, Contains-filter, Contains-from_filter, Contains-range}
use Rattle.certificate.proofs.Common.{All-from_contains, All-at, slice_get-below, left, IsLossyLegal, recorded_call, recorded_reply, AreRecordedAs}
use Rattle.certificate.proofs.Common.{MissesKey, IsHelperOf, IsRecordOf, PutsWithin, CallBelow, ReplyBelow, ResponseBelow, NoneFoundWhereOther}
use Rattle.certificate.proofs.Common.{after_calls, calls_at-append, IsLegal-append, Contains-at, IsAnswered}
use Rattle.certificate.proofs.CacheValueLemmas.{AtMost, shown, shown_below}
use Rattle.certificate.proofs.CacheMapLemmas.{left_rises, left_most, reply_rises, value_at-within, value_at-own, value_at-other}
use Rattle.certificate.proofs.CacheCallLemmas.{IsWithin, AtMost-trans, by_key, go, Shows, come, keeps_fresh}
use Rattle.events.specs.declared.event.Reply.TheVariants as replies

-- ---- the reply of a response; a pending call reports as little as one that is answered `done`

abbrev reply_of : Option Response → Reply
reply_of None = replies.Done
reply_of (Some response) = response.reply

legal_reply : (m : Contents) (call : Call) (response : Option Response) → IsLegalCall m call response → IsLegalReply m call (reply_of response)
legal_reply m call None h = inr tt
legal_reply m call (Some response) h = h

legal_call : (m : Contents) (call : Call) (response : Option Response) → IsLegalReply m call (reply_of response) → IsLegalCall m call response
legal_call m call None h = tt
legal_call m call (Some response) h = h

after_is : (m : Contents) (call : Call) (response : Option Response) → after_call m call response ≡ after_reply m call (reply_of response)
after_is m call None = refl
after_is m call (Some response) = refl

reply_below : (bound : ℕ) (response : Option Response) → ResponseBelow bound response → ReplyBelow bound (reply_of response)
reply_below bound None h = tt
reply_below bound (Some response) h = h

answered : (a : Operation) (reply : Reply) → reply ≢ replies.Done → reply_of a.response ≡ reply → IsAnswered a reply
answered a reply told is = by_response a.response is
  where
    by_response : (response : Option Response) → reply_of response ≡ reply
        → (res : ℕ) × (response ≡ Some (record { res = res; reply = reply }))
    by_response None h = absurd (told (sym h))
    by_response (Some response) h = (response.res, ap (λ (r : Reply). Some (record { res = response.res; reply = r })) h)

reply_answered : (a : Operation) (reply : Reply) → IsAnswered a reply → reply_of a.response ≡ reply
reply_answered a reply h = rw h.1 refl

-- a call is recorded as another, by their replies
record IsRecorded (bound : ℕ) (a t : Operation) : Type 0 where
  fresh : ℕ
  high : bound ≤ fresh
  call : t.call ≡ recorded_call fresh a.call (reply_of a.response)
  reply : reply_of t.response ≡ recorded_reply a.call (reply_of a.response)

-- a call of a history is legal if its call with its reply is, and leaves the same
legal_as : (n : Contents) (t : Operation) (call : Call) (reply : Reply) → t.call ≡ call → reply_of t.response ≡ reply
    → IsLegalReply n call reply → IsLegalCall n t.call t.response
legal_as n t call reply is_call is_reply h = legal_call n t.call t.response (rw (is_call, is_reply) h)

legal_from : (n : Contents) (t : Operation) (call : Call) (reply : Reply) → t.call ≡ call → reply_of t.response ≡ reply
    → IsLegalCall n t.call t.response → IsLegalReply n call reply
legal_from n t call reply is_call is_reply h = rw (is_call, is_reply) at (legal_reply n t.call t.response h)

after_as : (n : Contents) (t : Operation) (call : Call) (reply : Reply) → t.call ≡ call → reply_of t.response ≡ reply
    → after_call n t.call t.response ≡ after_reply n call reply
after_as n t call reply is_call is_reply = after_is n t.call t.response ∙ rw (is_call, is_reply) refl

recorded_done : (fresh : ℕ) (call : Call) → (call ≡ recorded_call fresh call replies.Done) × (replies.Done ≡ recorded_reply call replies.Done)
recorded_done fresh (Get key) = (refl, refl)
recorded_done fresh (Insert key value) = (refl, refl)
recorded_done fresh (Remove key) = (refl, refl)
recorded_done fresh (Scan low high) = (refl, refl)
recorded_done fresh (Replace key expected value) = (refl, refl)

is_recorded : (bound : ℕ) (a t : Operation) → AreRecordedAs bound a.call a.response t.call t.response → IsRecorded bound a t
is_recorded bound a t h =
    let parts = by_responses a.response t.response h in
    record { fresh = parts.fresh; high = parts.high; call = parts.call; reply = parts.reply }
  where
    by_responses : (r s : Option Response) → AreRecordedAs bound a.call r t.call s
        → record { fresh : ℕ; high : bound ≤ fresh; call : t.call ≡ recorded_call fresh a.call (reply_of r); reply : reply_of s ≡ recorded_reply a.call (reply_of r) }
    by_responses None None is = record {
      fresh = bound;
      high = omega arith;
      call = is ∙ (recorded_done bound a.call).0;
      reply = (recorded_done bound a.call).1;
    }
    by_responses None (Some s) is = absurd is
    by_responses (Some r) None is = absurd is
    by_responses (Some r) (Some s) is = record { fresh = is.0; high = is.1; call = is.2; reply = is.3 }

-- ---- keys that may have values

abbrev pub HasKeys : List ℕ → Contents → Type 0
HasKeys keys n = (key v : ℕ) → value_at n key ≡ Some v → Contains keys key

puts_recorded : (keys : List ℕ) (fresh : ℕ) (call : Call) (reply : Reply) → PutsWithin keys call → PutsWithin keys (recorded_call fresh call reply)
puts_recorded keys fresh (Get key) replies.None h = tt
puts_recorded keys fresh (Get key) (replies.Some value) h = tt
puts_recorded keys fresh (Get key) (replies.Pairs pairs) h = tt
puts_recorded keys fresh (Get key) replies.Refused h = tt
puts_recorded keys fresh (Get key) replies.Done h = tt
puts_recorded keys fresh (Get key) replies.Found h = tt
puts_recorded keys fresh (Get key) replies.Other h = tt
puts_recorded keys fresh (Insert key value) reply h = h
puts_recorded keys fresh (Remove key) reply h = tt
puts_recorded keys fresh (Scan low high) reply h = tt
puts_recorded keys fresh (Replace key expected new) replies.None h = tt
puts_recorded keys fresh (Replace key expected new) (replies.Some value) h = h
puts_recorded keys fresh (Replace key expected new) (replies.Pairs pairs) h = h
puts_recorded keys fresh (Replace key expected new) replies.Refused h = h
puts_recorded keys fresh (Replace key expected new) replies.Done h = h
puts_recorded keys fresh (Replace key expected new) replies.Found h = h
puts_recorded keys fresh (Replace key expected new) replies.Other h = h

keys_after : (keys : List ℕ) (n : Contents) (call : Call) → PutsWithin keys call → HasKeys keys n → HasKeys keys (after n call)
keys_after keys n (Get own) puts has key v is = has key v is
keys_after keys n (Insert own value) puts has key v is = by_key (λ k. value_at (after n (Insert own value)) k ≡ Some v → Contains keys k) own key
    (λ here. puts) (λ differ there. has key v (sym (value_at-other n (Insert own value) key differ) ∙ there)) is
keys_after keys n (Remove own) puts has key v is = by_key (λ k. value_at (after n (Remove own)) k ≡ Some v → Contains keys k) own key
    (λ here. absurd (none-some v (sym (value_at-own n (Remove own) tt) ∙ here)))
    (λ differ there. has key v (sym (value_at-other n (Remove own) key differ) ∙ there)) is
keys_after keys n (Scan low high) puts has key v is = has key v is
keys_after keys n (Replace own expected value) puts has key v is =
    by_key (λ k. value_at (after n (Replace own expected value)) k ≡ Some v → Contains keys k) own key
    (λ here. puts) (λ differ there. has key v (sym (value_at-other n (Replace own expected value) key differ) ∙ there)) is

keys_after_reply : (keys : List ℕ) (n : Contents) (call : Call) (reply : Reply) → PutsWithin keys call → HasKeys keys n
    → HasKeys keys (after_reply n call reply)
keys_after_reply keys n call replies.None puts has = keys_after keys n call puts has
keys_after_reply keys n call (replies.Some value) puts has = keys_after keys n call puts has
keys_after_reply keys n call (replies.Pairs pairs) puts has = keys_after keys n call puts has
keys_after_reply keys n call replies.Refused puts has = has
keys_after_reply keys n call replies.Done puts has = keys_after keys n call puts has
keys_after_reply keys n call replies.Found puts has = keys_after keys n call puts has
keys_after_reply keys n call replies.Other puts has = keys_after keys n call puts has

-- a key that a scan misses has no value where it is legal
missing_value : (m : Contents) (a : Operation) (key : ℕ) → MissesKey a key → IsLegalCall m a.call a.response → value_at m key ≡ None
missing_value m a key misses legal =
    let reply = reply_answered a (replies.Pairs misses.pairs) misses.answered in
    let here : IsLegalReply m (Scan misses.low misses.high) (replies.Pairs misses.pairs) =
    subst (λ r. IsLegalReply m (Scan misses.low misses.high) r) reply
    (subst (λ c. IsLegalReply m c (reply_of a.response)) misses.is_scan (legal_reply m a.call a.response legal)) in
    let pairs : misses.pairs ≡ within misses.low misses.high m = ⊎_elim (λ refused. cc) (λ tells. cc) here in
    sym (value_at-within misses.low misses.high m key misses.from misses.to)
    ∙ (sym (ap (λ (l : Contents). value_at l key) pairs) ∙ misses.missing)

module _ (bound : ℕ) (keys : List ℕ) (calls recorded : List Operation) (is : IsRecordOf bound keys calls recorded) where
  -- ---- the removes next to a scan

  abbrev IsHelperNumber : Operation → ℕ → Type 0
  IsHelperNumber a j = (t : Operation) × (slice_get recorded j ≡ Some t) × IsHelperOf a t

  record Helped (a : Operation) (n : Contents) (numbers : List ℕ) : Type 0 where
    legal : IsLegal n (calls_at recorded numbers)
    rises : IsRising (after_calls n (calls_at recorded numbers))
    kept : (key : ℕ) → (value_at (after_calls n (calls_at recorded numbers)) key ≡ value_at n key)
        ⊎ ((value_at (after_calls n (calls_at recorded numbers)) key ≡ None) × MissesKey a key)
    gone : (j key : ℕ) (t : Operation) → Contains numbers j → slice_get recorded j ≡ Some t → t.call ≡ Remove key
        → value_at (after_calls n (calls_at recorded numbers)) key ≡ None

  help : (a : Operation) (n : Contents) (numbers : List ℕ) → IsRising n → All (IsHelperNumber a) numbers → Helped a n numbers
  help a n [] rises helpers = record {
    legal = tt;
    rises = rises;
    kept = λ key. inl refl;
    gone = λ j key t there. absurd (Contains-nil j there);
  }
  help a n (j ∷ numbers) rises helpers =
      let (t, there, helper) = All-head (IsHelperNumber a) j numbers helpers in
      let k = helper.key in
      let n1 = after n (Remove k) in
      let step : after_call n t.call t.response ≡ n1 = rw (helper.call, helper.done.1) refl in
      let rest = help a n1 numbers (reply_rises n (Remove k) replies.Done rises) (All-tail (IsHelperNumber a) j numbers helpers) in
      let own : value_at n1 k ≡ None = value_at-own n (Remove k) tt in
      let last = after_calls n1 (calls_at recorded numbers) in
      let all : after_calls n (calls_at recorded (j ∷ numbers)) ≡ last = rw there (ap (λ (m : Contents). after_calls m (calls_at recorded numbers)) step) in
      let none : value_at last k ≡ None = ⊎_elim (λ same. same ∙ own) (λ missed. missed.0) (rest.kept k) in
      record {
        legal = rw there (rw (helper.call, helper.done.1) (inr tt), subst (λ (m : Contents). IsLegal m (calls_at recorded numbers)) (sym step) rest.legal);
        rises = subst IsRising (sym all) rest.rises;
        kept = λ key. rw all (by_key (λ x. (value_at last x ≡ value_at n x) ⊎ ((value_at last x ≡ None) × MissesKey a x)) k key
            (inr (none, helper.misses))
            (λ differ. ⊎_elim (λ same. inl (same ∙ value_at-other n (Remove k) key differ)) (λ missed. inr missed) (rest.kept key)));
        gone = λ i key s among here call. rw all (⊎_elim
            (λ first. let same : t ≡ s = same_Some t s (sym there ∙ (ap (slice_get recorded) first ∙ here)) in
            let keys : k ≡ key = same_key k key (sym helper.call ∙ (ap (λ (o : Operation). o.call) same ∙ call)) in
            subst (λ x. value_at last x ≡ None) keys none)
            (λ later. rest.gone i key s later here call) (Contains-cases j numbers i among));
      }
    where
      same_key : (k key : ℕ) → Remove k ≡ Remove key → k ≡ key
      same_key k key e = cc

  -- the numbers of the removes next to a call
  abbrev pub is_helper_of : ℕ → ℕ → Bool
  is_helper_of k j = is.helps j && (is.source j == k)

  abbrev pub helpers_of : ℕ → List ℕ
  helpers_of k = filter (is_helper_of k) (range_with_len 0 (length recorded))

  pub helper_of : (k j : ℕ) → Contains (helpers_of k) j → (j < length recorded) × (is.helps j ≡ true) × (is.source j ≡ k)
  helper_of k j among =
      let (here, passes) = Contains-from_filter (is_helper_of k) (range_with_len 0 (length recorded)) j among in
      let parts = and_parts (is.helps j) (is.source j == k) passes in
      (below here, parts.0, eqb-true (is.source j) k parts.1)
    where
      below : Contains (range_with_len 0 (length recorded)) j → j < length recorded
      below (i, inside, at) =
          let count = length-range_with_len 0 (length recorded) in
          let less : i < length recorded = omega arith in
          let number = get_or-range_with_len 0 (length recorded) i j less in
          omega arith

  pub among_helpers : (k j : ℕ) → j < length recorded → is.helps j ≡ true → is.source j ≡ k → Contains (helpers_of k) j
  among_helpers k j inside helps source =
      Contains-filter (is_helper_of k) (range_with_len 0 (length recorded)) j (Contains-range (length recorded) j inside)
      (and_from (is.helps j) (is.source j == k) helps (eq-eqb (is.source j) k source))

  -- the recorded calls of some calls: of each the removes next to it, and then itself
  abbrev pub expand : List ℕ → List ℕ
  expand [] = []
  expand (k ∷ order) = helpers_of k ++ is.number k ∷ expand order

  -- the calls of some recorded ones: without the removes next to scans
  abbrev pub collapse : List ℕ → List ℕ
  collapse [] = []
  collapse (j ∷ order) = cond (is.helps j) (collapse order) (is.source j ∷ collapse order)

  -- ---- from the lossy map to the map

  helpers_known : (k : ℕ) (a : Operation) → slice_get calls k ≡ Some a → All (IsHelperNumber a) (helpers_of k)
  helpers_known k a here = All-from_contains (IsHelperNumber a) (helpers_of k) (λ j among.
      let (within, helps, source) = helper_of k j among in
      let (t, there) = slice_get-below recorded j within in
      let (b, b_here, helper) = is.helpers j t there helps in
      let same : b ≡ a = same_Some b a (sym b_here ∙ (ap (slice_get calls) source ∙ here)) in
      (t, there, subst (λ (o : Operation). IsHelperOf o t) same helper))

  module _ (puts : All (λ a. PutsWithin keys a.call) calls) where
    -- after the removes of the keys that a scan misses, the values of its range are those of the lossy map
    seen : (k : ℕ) (a : Operation) → slice_get calls k ≡ Some a → (m n : Contents) → Helped a n (helpers_of k)
        → IsLegalCall m a.call a.response → IsWithin m (after_calls n (calls_at recorded (helpers_of k))) → HasKeys keys n
        → (low high : ℕ) (pairs : Contents) → a.call ≡ Scan low high → reply_of a.response ≡ replies.Pairs pairs → (key : ℕ) → low ≤ key
        → key ≤ high → value_at m key ≡ value_at (after_calls n (calls_at recorded (helpers_of k))) key
    seen k a here m n h legal within_1 has low high pairs is_scan told key from to = by_value (value_at m key) refl
      where
        pairs_are : pairs ≡ within low high m
        pairs_are =
            let told_here : IsLegalReply m (Scan low high) (replies.Pairs pairs) = subst (λ r. IsLegalReply m (Scan low high) r) told
            (subst (λ c. IsLegalReply m c (reply_of a.response)) is_scan (legal_reply m a.call a.response legal)) in
            ⊎_elim (λ refused. cc) (λ tells. cc) told_here

        misses : value_at m key ≡ None → MissesKey a key
        misses none = record {
          low = low;
          high = high;
          pairs = pairs;
          is_scan = is_scan;
          answered = answered a (replies.Pairs pairs) (λ e. cc) told;
          from = from;
          to = to;
          missing = ap (λ (l : Contents). value_at l key) pairs_are ∙ (value_at-within low high m key from to ∙ none);
        }

        by_old : value_at m key ≡ None → (y : Option ℕ) → value_at n key ≡ y
            → value_at (after_calls n (calls_at recorded (helpers_of k))) key ≡ None
        by_old none None e = ⊎_elim (λ same. same ∙ e) (λ missed. missed.0) (h.kept key)
        by_old none (Some v) e =
            let (j, t, there, call, source, helps) = is.all_helped k key a here (has key v e) (misses none) in
            h.gone j key t (among_helpers k j (slice_get_within recorded j t there) helps source) there call

        by_value : (x : Option ℕ) → value_at m key ≡ x → value_at m key ≡ value_at (after_calls n (calls_at recorded (helpers_of k))) key
        by_value None none = none ∙ sym (by_old none (value_at n key) refl)
        by_value (Some v) some = ⊎_elim (λ none. absurd (none-some v (sym none ∙ some))) (λ same. same) (within_1 key)

    -- each value of the lossy map stays one of the map, and no key has a value but the given ones
    pub run_go : (m n : Contents) (order : List ℕ) → All (λ k. k < length calls) order → IsRising m → IsRising n → IsWithin m n
        → HasKeys keys n → IsLossyLegal m (calls_at calls order) → IsLegal n (calls_at recorded (expand order))
    run_go m n [] known m_rises n_rises most has legal = tt
    run_go m n (k ∷ order) known m_rises n_rises most has legal =
        let (a, here) = slice_get-below calls k (All-head (λ k. k < length calls) k order known) in
        let (stays, legal_here, legal_rest) = lossy_first a here legal in
        let left_m = left stays m in
        let left_is = left_rises stays m m_rises in
        let (t, there, responses, source, helps) = is.itself k a here in
        let r = is_recorded bound a t responses in
        let h = help a n (helpers_of k) n_rises (helpers_known k a here) in
        let n1 = after_calls n (calls_at recorded (helpers_of k)) in
        let reply = reply_of a.response in
        let within_1 : IsWithin left_m n1 = λ key. ⊎_elim
        (λ same. rw same (AtMost-trans (value_at left_m key) (value_at m key) (value_at n key) (left_most stays m key) (most key)))
        (λ missed. inl (missing_value left_m a key missed.1 legal_here)) (h.kept key) in
        let gone = go r.fresh left_m n1 a.call reply left_is h.rises within_1
        (seen k a here left_m n h legal_here within_1 has)
        (legal_reply left_m a.call a.response legal_here) in
        let c = recorded_call r.fresh a.call reply in
        let answer = recorded_reply a.call reply in
        let legal_t = legal_as n1 t c answer r.call r.reply gone.legal in
        let has_1 : HasKeys keys n1 = λ key v at. ⊎_elim (λ same. has key v (sym same ∙ at)) (λ missed. absurd (none-some v (sym missed.0 ∙ at))) (h.kept key) in
        let next_n = after_as n1 t c answer r.call r.reply in
        let next_m = after_is left_m a.call a.response in
        let rest = run_go (after_call left_m a.call a.response) (after_call n1 t.call t.response) order (All-tail (λ k. k < length calls) k order known)
        (subst IsRising (sym next_m) (reply_rises left_m a.call reply left_is))
        (subst IsRising (sym next_n) (reply_rises n1 c answer h.rises))
        (subst (λ (x : Contents). IsWithin x (after_call n1 t.call t.response)) (sym next_m)
        (subst (IsWithin (after_reply left_m a.call reply)) (sym next_n) gone.most))
        (subst (HasKeys keys) (sym next_n) (keys_after_reply keys n1 c answer
        (puts_recorded keys r.fresh a.call reply (All-at (λ a. PutsWithin keys a.call) calls k a puts here)) has_1))
        legal_rest in
        rw (calls_at-append recorded (helpers_of k) (is.number k ∷ expand order))
        (IsLegal-append n (calls_at recorded (helpers_of k)) (calls_at recorded (is.number k ∷ expand order)) h.legal
        (rw there (legal_t, rest)))
      where
        lossy_first : (a : Operation) → slice_get calls k ≡ Some a → IsLossyLegal m (calls_at calls (k ∷ order))
            → (stays : ℕ → Bool) × IsLegalCall (left stays m) a.call a.response
            × IsLossyLegal (after_call (left stays m) a.call a.response) (calls_at calls order)
        lossy_first a here h = rw here at h

  -- ---- and back

  -- a replace of the key found another value than the one that it expected
  abbrev pub HasOther : ℕ → Type 0
  HasOther key = (b : Operation) × Contains calls b × IsAnswered b replies.Other × (low_key b.call ≡ key)

  -- only such keys have fresh values
  abbrev pub FreshAtOthers : Contents → Type 0
  FreshAtOthers n = (key v : ℕ) → value_at n key ≡ Some v → bound ≤ v → HasOther key

  -- a remove next to a scan leaves no more values than there were
  record Removed (m n : Contents) (t : Operation) : Type 0 where
    rises : IsRising (after_call n t.call t.response)
    shows : Shows bound m (after_call n t.call t.response)
    fresh : FreshAtOthers (after_call n t.call t.response)

  remove : (m n : Contents) (a t : Operation) → IsHelperOf a t → IsRising n → Shows bound m n → FreshAtOthers n → Removed m n t
  remove m n a t helper rises shows fresh =
      let k = helper.key in
      let step : after_call n t.call t.response ≡ after n (Remove k) = rw (helper.call, helper.done.1) refl in
      let own : value_at (after n (Remove k)) k ≡ None = value_at-own n (Remove k) tt in
      record {
        rises = subst IsRising (sym step) (reply_rises n (Remove k) replies.Done rises);
        shows = subst (Shows bound m) (sym step) (λ key. by_key (λ x. AtMost (shown bound (value_at (after n (Remove k)) x)) (value_at m x)) k key
            (inl (ap (shown bound) own))
            (λ differ. rw (value_at-other n (Remove k) key differ) (shows key)));
        fresh = subst FreshAtOthers (sym step) (λ key v. by_key (λ x. value_at (after n (Remove k)) x ≡ Some v → bound ≤ v → HasOther x) k key
            (λ here. absurd (none-some v (sym own ∙ here)))
            (λ differ there. fresh key v (sym (value_at-other n (Remove k) key differ) ∙ there)));
      }

  module _ (values : All (λ a. CallBelow bound a.call × ResponseBelow bound a.response) calls) (apart : NoneFoundWhereOther calls) where
    -- no fresh value is at a key whose call was answered `found`
    not_fresh : (n : Contents) (a : Operation) → Contains calls a → FreshAtOthers n → reply_of a.response ≡ replies.Found
        → shown bound (value_at n (low_key a.call)) ≡ value_at n (low_key a.call)
    not_fresh n a among fresh found = by_value (value_at n (low_key a.call)) refl
      where
        by_value : (y : Option ℕ) → value_at n (low_key a.call) ≡ y → shown bound y ≡ y
        by_value None e = refl
        by_value (Some v) e = ⊎_elim (λ less. shown_below bound v less)
            (λ high. let (b, b_among, other, same) = fresh (low_key a.call) v e high in
            absurd (apart a b among b_among (answered a replies.Found (λ e. cc) found) other (sym same))) (cases_lt v bound)

    -- each value of the map that is not fresh stays one of the lossy map, and fresh values stay at keys of which a replace found another one
    pub run_come : (m n : Contents) (order : List ℕ) → All (λ j. j < length recorded) order → IsRising m → IsRising n → Shows bound m n
        → FreshAtOthers n → IsLegal n (calls_at recorded order) → IsLossyLegal m (calls_at calls (collapse order))
    run_come m n [] known m_rises n_rises shows fresh legal = tt
    run_come m n (j ∷ order) known m_rises n_rises shows fresh legal =
        let (t, there) = slice_get-below recorded j (All-head (λ j. j < length recorded) j order known) in
        let (legal_t, legal_rest) = legal_first t there legal in
        by_test t there legal_t legal_rest (is.helps j) refl
        (λ m1. run_come m1 (after_call n t.call t.response) order (All-tail (λ j. j < length recorded) j order known))
      where
        legal_first : (t : Operation) → slice_get recorded j ≡ Some t → IsLegal n (calls_at recorded (j ∷ order))
            → IsLegalCall n t.call t.response × IsLegal (after_call n t.call t.response) (calls_at recorded order)
        legal_first t there h = rw there at h

        by_test : (t : Operation) → slice_get recorded j ≡ Some t → IsLegalCall n t.call t.response
            → IsLegal (after_call n t.call t.response) (calls_at recorded order) → (b : Bool) → is.helps j ≡ b
            → ((m1 : Contents) → IsRising m1 → IsRising (after_call n t.call t.response) → Shows bound m1 (after_call n t.call t.response)
            → FreshAtOthers (after_call n t.call t.response) → IsLegal (after_call n t.call t.response) (calls_at recorded order)
            → IsLossyLegal m1 (calls_at calls (collapse order)))
            → IsLossyLegal m (calls_at calls (cond b (collapse order) (is.source j ∷ collapse order)))
        by_test t there legal_t legal_rest true e rest =
            let (a, here, helper) = is.helpers j t there e in
            let removed = remove m n a t helper n_rises shows fresh in
            rest m m_rises removed.rises removed.shows removed.fresh legal_rest
        by_test t there legal_t legal_rest false e rest =
            let (below, same) = is.once j (slice_get_within recorded j t there) e in
            let (a, here) = slice_get-below calls (is.source j) below in
            let (s, s_there, responses, source, helps) = is.itself (is.source j) a here in
            let one : s ≡ t = same_Some s t (sym s_there ∙ (ap (slice_get recorded) same ∙ there)) in
            let among = Contains-at calls (is.source j) a here in
            rw here (itself a t among (is_recorded bound a t (subst (λ (o : Operation). AreRecordedAs bound a.call a.response o.call o.response) one responses))
            (All-at (λ a. CallBelow bound a.call × ResponseBelow bound a.response) calls (is.source j) a values here) legal_t
            (λ m1 rises n_rises shows fresh. rest m1 rises n_rises shows fresh legal_rest))
          where
            itself : (a t : Operation) → Contains calls a → IsRecorded bound a t → CallBelow bound a.call × ResponseBelow bound a.response
                → IsLegalCall n t.call t.response
                → ((m1 : Contents) → IsRising m1 → IsRising (after_call n t.call t.response) → Shows bound m1 (after_call n t.call t.response)
                → FreshAtOthers (after_call n t.call t.response) → IsLossyLegal m1 (calls_at calls (collapse order)))
                → IsLossyLegal m (a ∷ calls_at calls (collapse order))
            itself a t among r low legal rest =
                let reply = reply_of a.response in
                let c = recorded_call r.fresh a.call reply in
                let answer = recorded_reply a.call reply in
                let came = come bound r.fresh r.high m n shows a.call reply m_rises n_rises low.0 (reply_below bound a.response low.1)
                (not_fresh n a among fresh) (legal_from n t c answer r.call r.reply legal) in
                let left_m = left came.stays m in
                let next_n = after_as n t c answer r.call r.reply in
                let next_m = after_is left_m a.call a.response in (
                  came.stays,
                  legal_call left_m a.call a.response came.legal,
                  rest (after_call left_m a.call a.response)
                      (subst IsRising (sym next_m) (reply_rises left_m a.call reply (left_rises came.stays m m_rises)))
                      (subst IsRising (sym next_n) (reply_rises n c answer n_rises))
                      (λ key. inr (rw (next_n, next_m) (sym (came.next key))))
                      (λ key v at high. ⊎_elim (λ old. fresh key v old high)
                      (λ new. (a, among, answered a replies.Other (λ e. cc) new.0, new.1))
                      (keeps_fresh bound r.fresh n v high a.call reply key low.0 (rw next_n at at))),
                )
