-- Pending calls for which no completed call waits need not be tried.
use Rattle.events.specs.declared.event.Reply.TheVariants as replies
use Rattle.search_choices.proofs.Common.{◌≡◌, ℕ, ◌+◌, ◌<◌, ◌≤◌, true, false, List, [], ◌∷◌, ◌++◌, Option, Some, None, length, refl, sym, ap, ◌∙◌, subst}
use Rattle.search_choices.proofs.Common.{append_assoc, ⊎_elim, arith, ◌≢◌, ◌⊎◌, is_some, slice_get, All, AllPairs, Contains, false≢true, both_ways}
use Rattle.search_choices.proofs.Common.{cases_Bool, cases_lt, length-append, All-head, All-tail, All-contains, Contains-append_left}
use Rattle.search_choices.proofs.Common.{Contains-append_right, Contains-append_cases, same_Some, slice_get_within, Reply, Scan, Operation, Response}
use Rattle.search_choices.proofs.Common.{low_key, high_key, is_before, is_completed, precedes, NonePrecedesItself, Contents, IsRising, value_at, within}
use Rattle.search_choices.proofs.Common.{AreBelow, AreAbove, value_at_found, IsLegalCall, IsLegal, after_calls, calls_at, IsCompletedAt, IsOrder}
use Rattle.search_choices.proofs.Common.{IsLegal-back, All-back, All-from_contains, Contains-nil, Contains-cases, Contains-at, Contains-first}
use Rattle.search_choices.proofs.Common.{Contains-split, place_of-Contains, place_before-Contains, slice_get-append_left, slice_get-middle}
use Rattle.search_choices.proofs.Common.{Contains-from_filter_map, slice_get-below, AllPairs-before, AllPairs-behind, rising_after, within_rises}
use Rattle.search_choices.proofs.Common.{IsOutside, value_at-within, IsFront, IsNext, IsNext-from_front, IsFront-from_order, completed}
use Rattle.search_choices.proofs.Common.{IsEarliestAnswer, pairs_after, Closes, AreNext, Contains-push, Contains-push_cases, IsOpenNext, IsFree}
use Rattle.search_choices.proofs.Common.{IsBarred, WaitsForNone, IsDoneNext, AreIdle, IsPassedOver, MissesPair, IsOrder-not_yet, AllPairs-at, Bool, inl}
use Rattle.search_choices.proofs.Common.{inr, cases_order}
use Rattle.search_choices.proofs.ApartLemmas.{LetsPass, passes, pending_passes, value_stays}
use Rattle.search_choices.proofs.VainLemmas.{lean_close}
use Rattle.search_choices.proofs.ReadLemmas.{not_twice, legal_rest, moves_forward}
use Rattle.search_choices.proofs.EarliestLemmas.{below_or_at}

-- ---- a scan that lists a pair which is not there, and which no pending call may put there

-- a pair that is in the map is found
found_pair : (m : Contents) (key value : ℕ) → IsRising m → Contains m (key, value) → value_at m key ≡ Some value
found_pair m key value rising within_m =
    let (front, back, is) = Contains-split m (key, value) within_m in
    let rises = subst IsRising is rising in
    let lower : AreBelow key front = AllPairs-before (λ (x : ℕ × ℕ) (y : ℕ × ℕ). x.0 < y.0) front (key, value) back rises in
    let higher : AreAbove key back = AllPairs-behind (λ (x : ℕ × ℕ) (y : ℕ × ℕ). x.0 < y.0) front (key, value) back rises in
    ap (λ (n : Contents). value_at n key) is ∙ value_at_found key value front back lower higher

abbrev pub listed : Reply → Contents
listed (replies.Pairs pairs) = pairs
listed reply = []

pub not_refused : (pairs : Contents) → replies.Pairs pairs ≡ replies.Refused → ⊥
not_refused pairs e = cc

pub missing_bars : (m : Contents) (calls : List Operation) (path : List ℕ) (answered low high : ℕ) (a : Operation) (pairs : Contents)
    (response : Response) (key value : ℕ) → IsRising m → a.call ≡ Scan low high → a.response ≡ Some response
    → response.reply ≡ replies.Pairs pairs → Contains pairs (key, value) → low ≤ key → key ≤ high → value_at m key ≢ Some value
    → IsFree calls path answered key key → IsBarred m calls path answered a
missing_bars m calls path answered low high a pairs response key value rising call_is response_is reply_is lists above below misses free front opened
    legal =
    let there = after_calls m front in
    let told : IsLegalCall there (Scan low high) (Some (record { res = response.res; reply = replies.Pairs pairs })) =
    subst (λ r. IsLegalCall there (Scan low high) (Some (record { res = response.res; reply = r }))) reply_is
    (subst (λ o. IsLegalCall there (Scan low high) o) response_is (subst (λ c. IsLegalCall there c a.response) call_is legal)) in
    ⊎_elim (λ refused. not_refused pairs refused)
    (λ tells. let same : pairs ≡ within low high there = ap listed tells in
    let rises = rising_after front m rising in
    let held : value_at (within low high there) key ≡ Some value =
    found_pair (within low high there) key value (within_rises low high there rises) (subst (λ (xs : Contents). Contains xs (key, value)) same lists) in
    misses (sym (value_stays m front key (All-from_contains (λ p. IsOutside key key p.call) front
    (λ p in_front. free p (All-contains (IsOpenNext calls path answered) front p opened in_front))))
    ∙ (sym (value_at-within low high there key above below) ∙ held)))
    told

-- ---- the first completed call of an order

-- a list of calls that holds a completed one: the first of them, after pending ones
pub record HasFirstDone (calls : List Operation) (tail : List ℕ) : Type 0 where
  pub front : List ℕ
  pub n : ℕ
  pub back : List ℕ
  pub call : Operation
  pub parts : tail ≡ front ++ n ∷ back
  pub here : slice_get calls n ≡ Some call
  pub done : is_completed call ≡ true
  pub pending : (k : ℕ) → Contains front k → (p : Operation) × (slice_get calls k ≡ Some p) × (p.response ≡ None)

none_there : (response : Option Response) → is_some response ≡ false → response ≡ None
none_there None h = refl
none_there (Some response) h = absurd (false≢true (sym h))

first_done : (calls : List Operation) (tail : List ℕ) → All (λ k. k < length calls) tail → (e : ℕ) (b : Operation) → Contains tail e
    → slice_get calls e ≡ Some b → is_completed b ≡ true → HasFirstDone calls tail
first_done calls [] known e b h there done = absurd (Contains-nil e h)
first_done calls (k ∷ tail) known e b h there done =
    let (a, here) = slice_get-below calls k (All-head (λ k. k < length calls) k tail known) in
    ⊎_elim
    (λ yes. record {
      front = [];
      n = k;
      back = tail;
      call = a;
      parts = refl;
      here = here;
      done = yes;
      pending = λ l h. absurd (Contains-nil l h);
    })
    (λ no. let later = first_done calls tail (All-tail (λ k. k < length calls) k tail known) e b
    (⊎_elim (λ is. absurd (both_ways (is_completed a) no
    (subst (λ (c : Operation). is_completed c ≡ true) (same_Some b a (sym there ∙ (ap (slice_get calls) (sym is) ∙ here))) done)))
    (λ rest. rest) (Contains-cases k tail e h)) there done in
    record {
      front = k ∷ later.front;
      n = later.n;
      back = later.back;
      call = later.call;
      parts = ap (λ xs. k ∷ xs) later.parts;
      here = later.here;
      done = later.done;
      pending = λ l h. ⊎_elim (λ is. (a, ap (slice_get calls) (sym is) ∙ here, none_there a.response no)) (λ rest. later.pending l rest)
          (Contains-cases k later.front l h);
    })
    (cases_Bool (is_completed a))

-- ---- it may come first

module _ (start : Contents) (calls : List Operation) (path : List ℕ) (answered : ℕ) (rising : IsRising start)
    (apart : NonePrecedesItself calls) (earliest : IsEarliestAnswer calls path (Some answered))
    (idle : AreIdle (pairs_after start calls path) calls path answered) where
  module _ (tail : List ℕ) (first : HasFirstDone calls tail) (whole_order : IsOrder start calls (path ++ tail)) where
    abbrev front : List ℕ
    front = first.front

    abbrev n : ℕ
    n = first.n

    abbrev back : List ℕ
    back = first.back

    abbrev a : Operation
    a = first.call

    order : IsOrder start calls (path ++ (front ++ n ∷ back))
    order = subst (λ xs. IsOrder start calls (path ++ xs)) first.parts whole_order

    together : path ++ (front ++ n ∷ back) ≡ (path ++ front) ++ n ∷ back
    together = sym (append_assoc path front (n ∷ back))

    is_front : IsFront start calls ((path ++ front) ++ n ∷ back)
    is_front = IsFront-from_order start calls ((path ++ front) ++ n ∷ back) apart (subst (IsOrder start calls) together order)

    -- no completed call that is left precedes one of these
    early_at : (i k : ℕ) (p : Operation) → slice_get ((path ++ front) ++ n ∷ back) i ≡ Some k → i ≤ length (path ++ front)
        → slice_get calls k ≡ Some p → p.inv ≤ answered
    early_at i k p at le here_k = ⊎_elim (λ late. absurd (too_early late)) (λ le. le) (cases_lt answered p.inv)
      where
        too_early : answered < p.inv → ⊥
        too_early late =
            let r = (earliest p.inv).0 late in
            let (j, before, there) = place_before-Contains ((path ++ front) ++ n ∷ back) i r.n
            (is_front.closed i r.n k at (r.call, p, r.here, here_k, r.before)) in
            let within_front : Contains (path ++ front) r.n =
            Contains-at (path ++ front) j r.n (sym (slice_get-append_left (path ++ front) (n ∷ back) j (omega (arith, before, le))) ∙ there) in
            ⊎_elim (λ old. r.new old)
            (λ in_front. let (q, here_q, pending) = first.pending r.n in_front in
            false≢true (sym (ap (λ o. is_before o p.inv) (ap (λ (c : Operation). c.response) (same_Some r.call q (sym r.here ∙ here_q)) ∙ pending))
            ∙ r.before))
            (Contains-append_cases path front r.n within_front)

    new_at : (k : ℕ) → Contains (front ++ n ∷ back) k → Contains path k → ⊥
    new_at k later in_path = not_twice path (front ++ n ∷ back) order.legal_order.distinct k in_path later

    open_next : (p : Operation) → Contains (calls_at calls front) p → IsOpenNext calls path answered p
    open_next p h =
        let (k, in_front, there) = Contains-from_filter_map (slice_get calls) front p h in
        let (q, here_q, pending) = first.pending k in_front in
        let (i, at) = place_of-Contains (path ++ front) k (Contains-append_right path front k in_front) in
        let within_front = slice_get_within (path ++ front) i k at in
        record {
          n = k;
          here = there;
          new = new_at k (Contains-append_left front (n ∷ back) k in_front);
          pending = ap (λ (c : Operation). c.response) (same_Some p q (sym there ∙ here_q)) ∙ pending;
          early = early_at i k p (slice_get-append_left (path ++ front) (n ∷ back) i within_front ∙ at) (omega (arith, within_front)) there;
        }

    done_next : IsDoneNext calls path answered n a
    done_next = record {
      here = first.here;
      new = new_at n (Contains-append_right front (n ∷ back) n (Contains-first n back));
      completed = first.done;
      early = early_at (length (path ++ front)) n a (slice_get-middle (path ++ front) n back) (omega arith) first.here;
    }

    there : IsLegal (pairs_after start calls path) (calls_at calls front ++ a ∷ calls_at calls back)
    there = legal_rest start calls path n a first.here front back order

    freely : IsFree calls path answered (low_key a.call) (high_key a.call) → IsOrder start calls (path ++ n ∷ (front ++ back))
    freely free =
        moves_forward start calls path n a first.here front back order
        (All-from_contains (λ b. precedes b a ≡ false) (calls_at calls front)
        (λ b h. ap (λ o. is_before o a.inv) (open_next b h).pending))
        (passes (pairs_after start calls path) (calls_at calls front) (calls_at calls back) a
        (rising_after (calls_at calls path) start rising)
        (All-from_contains (LetsPass a) (calls_at calls front)
        (λ p h. pending_passes a p (open_next p h).pending (free p (open_next p h)))) there)

    pub comes_first : IsOrder start calls (path ++ n ∷ (front ++ back))
    comes_first = ⊎_elim freely
        (λ barred. absurd (barred (calls_at calls front) (All-from_contains (IsOpenNext calls path answered) (calls_at calls front) open_next)
        (IsLegal-back (pairs_after start calls path) (calls_at calls front) (a ∷ calls_at calls back) there).0))
        (idle n a done_next)

    pub is_next : IsNext start calls path n
    is_next = IsNext-from_front start calls path n (front ++ back) (IsFront-from_order start calls (path ++ n ∷ (front ++ back)) apart comes_first)

  -- the completed calls that may come next make an end
  pub idle_close : (rest : List ℕ) → ((n : ℕ) (a : Operation) → IsNext start calls path n → IsDoneNext calls path answered n a → Contains rest n)
      → Closes start calls path rest
  idle_close rest all dead (tail, order) =
      let remains = (earliest (answered + 1)).0 (omega arith) in
      let done : is_completed remains.call ≡ true =
      completed remains.call (record { call = remains.call.call; inv = answered + 1; response = None }) remains.before in
      let done_at : IsCompletedAt calls remains.n = rw remains.here done in
      let in_tail = ⊎_elim (λ old. absurd (remains.new old)) (λ later. later)
      (Contains-append_cases path tail remains.n (order.complete remains.n done_at)) in
      let first = first_done calls tail (All-back (λ k. k < length calls) path tail order.legal_order.known) remains.n remains.call in_tail
      remains.here done in
      dead first.n (all first.n first.call (is_next tail first order) (done_next tail first order)) (
        first.front ++ first.back,
        subst (IsOrder start calls) (sym (append_assoc path (first.n ∷ []) (first.front ++ first.back))) (comes_first tail first order),
      )

  -- all calls that may come next make an end, if only idle pending ones are passed over
  pub choices_close : (m : Contents) (rest : List ℕ) → ((n : ℕ) → IsNext start calls path n → Contains rest n ⊎ IsPassedOver true m calls n)
      → Closes start calls path rest
  choices_close m rest all = idle_close rest (λ n a next done.
      let not_pending : a.response ≡ None → Contains rest n = λ pending. absurd (false≢true (sym (ap is_some pending) ∙ done.completed)) in
      ⊎_elim
      (λ h. h)
      (λ passed. ⊎_elim (λ idle. not_pending (rw done.here at idle.1)) (λ vain. not_pending (rw done.here at vain).0) passed)
      (all n next))

-- where the pending calls are idle the completed ones that may come next make an end, and else all that may
pub tried_close : (start : Contents) (calls : List Operation) (path : List ℕ) (answered : ℕ) (idle : Bool) (rest : List ℕ) → IsRising start
    → NonePrecedesItself calls → IsEarliestAnswer calls path (Some answered)
    → (idle ≡ true → AreIdle (pairs_after start calls path) calls path answered)
    → ((n : ℕ) → IsNext start calls path n → Contains rest n ⊎ IsPassedOver idle (pairs_after start calls path) calls n)
    → Closes start calls path rest
tried_close start calls path answered true rest rising apart earliest idles all =
    choices_close start calls path answered rising apart earliest (idles refl) (pairs_after start calls path) rest all
tried_close start calls path answered false rest rising apart earliest idles all =
    lean_close start calls path rest apart (IsOrder-not_yet start calls path answered earliest)
    (λ n next. ⊎_elim (λ h. inl h) (λ passed. ⊎_elim (λ idle. absurd (false≢true idle.0)) (λ vain. inr vain) passed) (all n next))

-- ---- calls looked at one by one

-- a call of a later number is not invoked earlier
pub begins_later : (calls : List Operation) (i n : ℕ) (a p : Operation) → AllPairs (λ (x : Operation) (y : Operation). x.inv < y.inv) calls
    → slice_get calls i ≡ Some a → slice_get calls n ≡ Some p → i ≤ n → a.inv ≤ p.inv
begins_later calls i n a p rising here there le = ⊎_elim
    (λ is. let same = same_Some a p (sym here ∙ (ap (slice_get calls) (sym is) ∙ there)) in
    subst (λ (x : Operation). a.inv ≤ x.inv) same (omega arith))
    (λ differ. ⊎_elim (λ lower. absurd (omega arith))
    (λ higher. let up = AllPairs-at (λ (x : Operation) (y : Operation). x.inv < y.inv) calls i n a p rising higher here there in
    omega arith) differ)
    (cases_order n i)

module _ (calls : List Operation) (path : List ℕ) (answered : ℕ) where
  module _ (low high : ℕ) where
    -- none of the pending calls with a number below this changes a key of the range
    abbrev pub IsFreeBelow : ℕ → Type 0
    IsFreeBelow i = (p : Operation) (o : IsOpenNext calls path answered p) → o.n < i → IsOutside low high p.call

    pub free-none : (i : ℕ) → ((n : ℕ) → n < i → Contains path n) → IsFreeBelow i
    free-none i all p o lt = absurd (o.new (all o.n lt))

    pub free-more : (i : ℕ) → IsFreeBelow i → ((p : Operation) (o : IsOpenNext calls path answered p) → o.n ≡ i → IsOutside low high p.call)
        → IsFreeBelow (i + 1)
    free-more i h at p o lt = ⊎_elim (λ below. h p o below) (λ is. at p o is) (below_or_at o.n i lt)

    pub free-late : (i : ℕ) (a : Operation) → AllPairs (λ (x : Operation) (y : Operation). x.inv < y.inv) calls → slice_get calls i ≡ Some a
        → answered < a.inv → IsFreeBelow i → IsFree calls path answered low high
    free-late i a rising here late h p o = ⊎_elim (λ below. h p o below)
        (λ above. absurd (let later = begins_later calls i o.n a p rising here o.here above in omega (arith, later, late, o.early)))
        (cases_lt o.n i)

    pub free-all : (i : ℕ) → length calls ≤ i → IsFreeBelow i → IsFree calls path answered low high
    free-all i le h p o = h p o (omega (arith, le, slice_get_within calls o.n p o.here))

  module _ (m : Contents) where
    -- none of the completed calls with a number below this waits
    abbrev pub AreIdleBelow : ℕ → Type 0
    AreIdleBelow i = (n : ℕ) (a : Operation) → IsDoneNext calls path answered n a → n < i → WaitsForNone m calls path answered a

    pub idle-none : (i : ℕ) → ((n : ℕ) → n < i → Contains path n) → AreIdleBelow i
    idle-none i all n a d lt = absurd (d.new (all n lt))

    pub idle-more : (i : ℕ) → AreIdleBelow i → ((a : Operation) → IsDoneNext calls path answered i a → WaitsForNone m calls path answered a)
        → AreIdleBelow (i + 1)
    idle-more i h at n a d lt = ⊎_elim (λ below. h n a d below)
        (λ is. at a (subst (λ k. IsDoneNext calls path answered k a) is d)) (below_or_at n i lt)

    pub idle-late : (i : ℕ) (b : Operation) → AllPairs (λ (x : Operation) (y : Operation). x.inv < y.inv) calls → slice_get calls i ≡ Some b
        → answered < b.inv → AreIdleBelow i → AreIdle m calls path answered
    idle-late i b rising here late h n a d = ⊎_elim (λ below. h n a d below)
        (λ above. absurd (let later = begins_later calls i n b a rising here d.here above in omega (arith, later, late, d.early)))
        (cases_lt n i)

    pub idle-all : (i : ℕ) → length calls ≤ i → AreIdleBelow i → AreIdle m calls path answered
    idle-all i le h n a d = h n a d (omega (arith, le, slice_get_within calls n a d.here))

    -- a scan that lists a pair which no pending call may put there
    pub waits-missing : (low high : ℕ) (pairs : Contents) (a : Operation) (response : Response) → IsRising m → a.call ≡ Scan low high
        → a.response ≡ Some response → response.reply ≡ replies.Pairs pairs → MissesPair m calls path answered low high pairs
        → WaitsForNone m calls path answered a
    waits-missing low high pairs a response rising call_is response_is reply_is (pair, lists, missing) =
        inr (missing_bars m calls path answered low high a pairs response pair.0 pair.1 rising call_is response_is reply_is lists missing.above
        missing.below missing.missing missing.free)

-- ---- the calls to be tried, call by call

-- each call with a number below this that may come next is listed, or passed over, and no others
-- are listed
abbrev pub AreTried : Contents → List Operation → List ℕ → (ℕ → Type 0) → List ℕ → ℕ → Type 0
AreTried start calls path Passed rest i =
    AreNext start calls path rest × ((n : ℕ) → n < i → IsNext start calls path n → Contains rest n ⊎ Passed n) × (length rest ≤ i)

module _ (start : Contents) (calls : List Operation) (path : List ℕ) (Passed : ℕ → Type 0) (rest more : List ℕ) (i : ℕ) where
  -- one call more may come next
  pub tried-more : more ≡ rest ++ i ∷ [] → IsNext start calls path i → AreTried start calls path Passed rest i
      → AreTried start calls path Passed more (i + 1)
  tried-more is next h = (
    λ n within. ⊎_elim (λ old. h.0 n old) (λ same. subst (IsNext start calls path) same next)
        (Contains-push_cases rest i n (subst (λ xs. Contains xs n) is within)),
    λ n lt next_n. ⊎_elim
        (λ below. ⊎_elim (λ listed. inl (subst (λ xs. Contains xs n) (sym is) (Contains-append_left rest (i ∷ []) n listed))) (λ passed. inr passed)
        (h.1 n below next_n))
        (λ same. inl (subst (λ xs. Contains xs n) (sym is) (subst (Contains (rest ++ i ∷ [])) (sym same) (Contains-push rest i))))
        (below_or_at n i lt),
    omega (arith, ap length is, length-append rest (i ∷ []), h.2),
  )

  -- one may not, or is passed over
  pub tried-less : more ≡ rest → (IsNext start calls path i → Passed i) → AreTried start calls path Passed rest i
      → AreTried start calls path Passed more (i + 1)
  tried-less is passed_over h = (
    λ n within. h.0 n (subst (λ xs. Contains xs n) is within),
    λ n lt next_n. ⊎_elim
        (λ below. ⊎_elim (λ listed. inl (subst (λ xs. Contains xs n) (sym is) listed)) (λ passed. inr passed) (h.1 n below next_n))
        (λ same. inr (subst Passed (sym same) (passed_over (subst (IsNext start calls path) same next_n))))
        (below_or_at n i lt),
    omega (arith, ap length is, h.2),
  )
