-- What is recorded of a history of a cache, call by call.
use Rattle.certificate.proofs.Common.{◌≡◌, ℕ, suc, ◌+◌, ◌<◌, ◌&&◌, nat_le, not, Bool, true, false, cond, List, [], ◌∷◌, ◌++◌, length, Option, Some}
use Rattle.certificate.proofs.Common.{None, IsTrue, refl, sym, ap, ◌∙◌, subst, ⊎_elim, arith, ◌≢◌, All, Contains, ⊤, false≢true, cases_Bool, eqb-true}
use Rattle.certificate.proofs.Common.{eqb-false, ne_eqb, eq-eqb, and_parts, and_from, le-leb, leb-true, none-some, same_Some, All-nil, All-cons}
use Rattle.certificate.proofs.Common.{All-head, All-tail, All-weaker, Call, Get, Insert, Remove, Scan, Replace, Reply, Event, Invoke, Answer}
use Rattle.certificate.proofs.Common.{Operation, Response, process_of, events_of, events_alternate, response_from, operation_of, operations_from}
use Rattle.certificate.proofs.Common.{value_at, Contains-nil, Contains-cases, Contains-first, Contains-later, Contains-filter, Contains-from_filter}
use Rattle.certificate.proofs.Common.{recorded_call, recorded_reply, AreRecordedAs, MissesKey, IsHelperOf, recorded_invocation, recorded_answer}
use Rattle.certificate.proofs.Common.{is_missed, missed_keys, helper, answer_to_come, recorded_event, last_after, recorded_events, ◌==◌, is_some}
use Rattle.certificate.proofs.Common.{length-map}
use Rattle.std.proofs.Common.{map}
use Rattle.events.specs.declared.event.Reply.TheVariants as replies

-- ---- events that are not the answer to a process: they can be skipped when its answer is looked for

abbrev IsOther : ℕ → Event → Type 0
IsOther p (Invoke q call) = ⊤
IsOther p (Answer q reply) = q ≢ p

response_after : (p i j : ℕ) (xs ys : List Event) → All (IsOther p) xs → j ≡ i + length xs → response_from p i (xs ++ ys) ≡ response_from p j ys
response_after p i j [] ys others e = ap (λ k. response_from p k ys) (omega arith)
response_after p i j (Invoke q call ∷ xs) ys others e =
    response_after p (suc i) j xs ys (All-tail (IsOther p) (Invoke q call) xs others) (omega arith)
response_after p i j (Answer q reply ∷ xs) ys others e =
    rw (ne_eqb q p (All-head (IsOther p) (Answer q reply) xs others))
    (response_after p (suc i) j xs ys (All-tail (IsOther p) (Answer q reply) xs others) (omega arith))

-- the invocations of removes are none, and their answers are those of their own processes
helper_invocations : (p q : ℕ) (keys : List ℕ) → All (IsOther q) (map (λ key. Invoke (helper p key) (Remove key)) keys)
helper_invocations p q [] = All-nil (IsOther q)
helper_invocations p q (key ∷ keys) =
    All-cons (IsOther q) (Invoke (helper p key) (Remove key)) (map (λ key. Invoke (helper p key) (Remove key)) keys) tt (helper_invocations p q keys)

helper_answers : (p q : ℕ) (keys : List ℕ) → ((key : ℕ) → helper p key ≢ q) → All (IsOther q) (map (λ key. Answer (helper p key) replies.Done) keys)
helper_answers p q [] differ = All-nil (IsOther q)
helper_answers p q (key ∷ keys) differ =
    All-cons (IsOther q) (Answer (helper p key) replies.Done) (map (λ key. Answer (helper p key) replies.Done) keys) (differ key)
    (helper_answers p q keys differ)

-- no process of a history removes next to a scan, and those that remove differ if the processes of their scans do
pub helper_above : (p key q : ℕ) → q < 64 → helper p key ≢ q
helper_above p key q small same = absurd (omega arith)

pub helper_differs : (p q key other : ℕ) → p < 64 → q < 64 → p ≢ q → helper p key ≢ helper q other
helper_differs p q key other p_small q_small differ same = differ (omega arith)

-- ---- the answer to come

abbrev reply_in : Option Response → Option Reply
reply_in None = None
reply_in (Some r) = Some r.reply

to_come : (p i : ℕ) (events : List Event) → answer_to_come p events ≡ reply_in (response_from p i events)
to_come p i [] = refl
to_come p i (Invoke q call ∷ events) = to_come p (suc i) events
to_come p i (Answer q reply ∷ events) = by_test (q == p) (to_come p (suc i) events)
  where
    by_test : (b : Bool) → answer_to_come p events ≡ reply_in (response_from p (suc i) events)
        → cond b (Some reply) (answer_to_come p events)
        ≡ reply_in (cond b (Some (record { res = i; reply = reply })) (response_from p (suc i) events))
    by_test true rest = refl
    by_test false rest = rest

-- ---- what is recorded of an invocation

-- the call, and the keys that are removed next to it
abbrev pub call_of : ℕ → Call → Option Reply → Call
call_of fresh call None = call
call_of fresh call (Some reply) = recorded_call fresh call reply

abbrev pub keys_of : List ℕ → Call → Option Reply → List ℕ
keys_of keys call None = []
keys_of keys call (Some reply) = missed_keys keys call reply

abbrev pub invokes : ℕ → List ℕ → List Event
invokes p keys = map (λ key. Invoke (helper p key) (Remove key)) keys

abbrev pub answers : ℕ → List ℕ → List Event
answers p keys = map (λ key. Answer (helper p key) replies.Done) keys

pub invocation_is : (fresh : ℕ) (keys : List ℕ) (p : ℕ) (call : Call) (o : Option Reply)
    → recorded_invocation fresh keys p call o ≡ Invoke p (call_of fresh call o) ∷ invokes p (keys_of keys call o)
invocation_is fresh keys p call None = refl
invocation_is fresh keys p call (Some reply) = refl

invocation_others : (fresh : ℕ) (keys : List ℕ) (p q : ℕ) (call : Call) (o : Option Reply) → All (IsOther p) (recorded_invocation fresh keys q call o)
invocation_others fresh keys p q call o =
    rw (invocation_is fresh keys q call o)
    (All-cons (IsOther p) (Invoke q (call_of fresh call o)) (invokes q (keys_of keys call o)) tt (helper_invocations q p (keys_of keys call o)))

-- a key that a call misses
missed_from : (a : Operation) (key res : ℕ) (call : Call) (reply : Reply) → a.call ≡ call → a.response ≡ Some (record { res = res; reply = reply })
    → is_missed call reply key ≡ true → MissesKey a key
missed_from a key res (Get own) reply is answered h = absurd (false≢true h)
missed_from a key res (Insert own value) reply is answered h = absurd (false≢true h)
missed_from a key res (Remove own) reply is answered h = absurd (false≢true h)
missed_from a key res (Scan low high) replies.None is answered h = absurd (false≢true h)
missed_from a key res (Scan low high) (replies.Some value) is answered h = absurd (false≢true h)
missed_from a key res (Scan low high) (replies.Pairs pairs) is answered h =
    let parts = and_parts (nat_le low key) (nat_le key high && not (is_some (value_at pairs key))) h in
    let rest = and_parts (nat_le key high) (not (is_some (value_at pairs key))) parts.1 in
    record {
      low = low;
      high = high;
      pairs = pairs;
      is_scan = is;
      answered = (res, answered);
      from = leb-true low key parts.0;
      to = leb-true key high rest.0;
      missing = no_value (value_at pairs key) rest.1;
    }
  where
    no_value : (x : Option ℕ) → not (is_some x) ≡ true → x ≡ None
    no_value None g = refl
    no_value (Some v) g = absurd (false≢true g)
missed_from a key res (Scan low high) replies.Refused is answered h = absurd (false≢true h)
missed_from a key res (Scan low high) replies.Done is answered h = absurd (false≢true h)
missed_from a key res (Scan low high) replies.Found is answered h = absurd (false≢true h)
missed_from a key res (Scan low high) replies.Other is answered h = absurd (false≢true h)
missed_from a key res (Replace own expected value) reply is answered h = absurd (false≢true h)

missed_to : (a : Operation) (key : ℕ) (r : Response) → MissesKey a key → a.response ≡ Some r → is_missed a.call r.reply key ≡ true
missed_to a key r h answered =
    let reply : replies.Pairs h.pairs ≡ r.reply =
    ap (λ (x : Response). x.reply) (same_Some (record { res = h.answered.0; reply = replies.Pairs h.pairs }) r (sym h.answered.1 ∙ answered)) in
    subst (λ (x : Reply). is_missed a.call x key ≡ true) reply (rw h.is_scan
    (and_from (nat_le h.low key) (nat_le key h.high && not (is_some (value_at h.pairs key))) (le-leb h.low key h.from)
    (and_from (nat_le key h.high) (not (is_some (value_at h.pairs key))) (le-leb key h.high h.to) (rw h.missing refl))))

-- the calls of removes
abbrev helper_ops : ℕ → ℕ → List ℕ → List Event → List Operation
helper_ops p i [] ys = []
helper_ops p i (key ∷ keys) ys = operation_of (helper p key) (Remove key) i (invokes p keys ++ ys) ∷ helper_ops p (suc i) keys ys

ops_of_invokes : (p i j : ℕ) (keys : List ℕ) (ys : List Event) → j ≡ i + length keys
    → operations_from i (invokes p keys ++ ys) ≡ helper_ops p i keys ys ++ operations_from j ys
ops_of_invokes p i j [] ys e = ap (λ k. operations_from k ys) (omega arith)
ops_of_invokes p i j (key ∷ keys) ys e =
    ap (λ (l : List Operation). operation_of (helper p key) (Remove key) i (invokes p keys ++ ys) ∷ l)
    (ops_of_invokes p (suc i) j keys ys (omega arith))

record IsHelperOp (p i j : ℕ) (keys : List ℕ) (ys : List Event) (h : Operation) : Type 0 where
  key : ℕ
  among : Contains keys key
  call : h.call ≡ Remove key
  n : ℕ
  within : n < length keys
  inv : h.inv ≡ i + n
  response : h.response ≡ response_from (helper p key) j ys

helper_ops_are : (p i j : ℕ) (keys : List ℕ) (ys : List Event) → j ≡ i + length keys
    → All (IsHelperOp p i j keys ys) (helper_ops p i keys ys)
helper_ops_are p i j [] ys e = All-nil (IsHelperOp p i j [] ys)
helper_ops_are p i j (key ∷ keys) ys e =
    All-cons (IsHelperOp p i j (key ∷ keys) ys) (operation_of (helper p key) (Remove key) i (invokes p keys ++ ys)) (helper_ops p (suc i) keys ys)
    (record {
      key = key;
      among = Contains-first key keys;
      call = refl;
      n = 0;
      within = omega arith;
      inv = omega arith;
      response = response_after (helper p key) (suc i) j (invokes p keys) ys (helper_invocations p (helper p key) keys)
          (omega (arith, length-map {A = ℕ} {B = Event}));
    })
    (All-weaker (IsHelperOp p (suc i) j keys ys) (IsHelperOp p i j (key ∷ keys) ys) (λ h is. record {
      key = is.key;
      among = Contains-later key keys is.key is.among;
      call = is.call;
      n = suc is.n;
      within = let less = is.within in omega arith;
      inv = let same = is.inv in omega arith;
      response = is.response;
    }) (helper_ops p (suc i) keys ys) (helper_ops_are p (suc i) j keys ys (omega arith)))

helper_ops_all : (p i : ℕ) (keys : List ℕ) (ys : List Event) (key : ℕ) → Contains keys key
    → (h : Operation) × Contains (helper_ops p i keys ys) h × (h.call ≡ Remove key)
helper_ops_all p i [] ys key among = absurd (Contains-nil key among)
helper_ops_all p i (k ∷ keys) ys key among =
    let first = operation_of (helper p k) (Remove k) i (invokes p keys ++ ys) in
    ⊎_elim (λ same. (first, Contains-first first (helper_ops p (suc i) keys ys), ap Remove same))
    (λ later. let (h, h_among, is) = helper_ops_all p (suc i) keys ys key later in
    (h, Contains-later first (helper_ops p (suc i) keys ys) h h_among, is)) (Contains-cases k keys key among)

-- the answers of removes
find_helper : (p key i : ℕ) (keys : List ℕ) (ys : List Event) → Contains keys key
    → (n : ℕ) × (n < length keys)
    × (response_from (helper p key) i (answers p keys ++ ys) ≡ Some (record { res = i + n; reply = replies.Done }))
find_helper p key i [] ys among = absurd (Contains-nil key among)
find_helper p key i (k ∷ keys) ys among = by_test (helper p k == helper p key) refl (find_helper p key (suc i) keys ys)
  where
    by_test : (b : Bool) → (helper p k == helper p key) ≡ b
        → (Contains keys key → (n : ℕ) × (n < length keys)
        × (response_from (helper p key) (suc i) (answers p keys ++ ys) ≡ Some (record { res = suc i + n; reply = replies.Done })))
        → (n : ℕ) × (n < length (k ∷ keys))
        × (cond b (Some (record { res = i; reply = replies.Done })) (response_from (helper p key) (suc i) (answers p keys ++ ys))
        ≡ Some (record { res = i + n; reply = replies.Done }))
    by_test true e rest =
        let place : i ≡ i + 0 = omega arith in (0, omega arith, ap (λ (x : ℕ). Some (record { res = x; reply = replies.Done })) place)
    by_test false e rest = ⊎_elim
        (λ same. absurd (false≢true (sym e ∙ eq-eqb (helper p k) (helper p key) (ap (helper p) same))))
        (λ later. let (n, within, is) = rest later in
        let place : suc i + n ≡ i + suc n = omega arith in
        (suc n, omega arith, is ∙ ap (λ (x : ℕ). Some (record { res = x; reply = replies.Done })) place))
        (Contains-cases k keys key among)

-- ---- events in turn

-- processes are those of a history
abbrev pub AreSmall : List Event → Type 0
AreSmall events = All (λ e. process_of e < 64) events

-- the open call of a process is answered next
abbrev IsOpen : ℕ → List Event → Type 0
IsOpen p events = IsTrue (events_alternate true (events_of p events))

-- each process has its events in turn from here on
abbrev pub AreInTurn : List Event → Type 0
AreInTurn events = (p : ℕ) → (waiting : Bool) × IsTrue (events_alternate waiting (events_of p events))

in_turn_later : (e : Event) (events : List Event) → AreInTurn (e ∷ events) → AreInTurn events
in_turn_later (Invoke q call) events turns p = ⊎_elim
    (λ same. let (waiting, h) = turns p in (true, later waiting (rw same at h)))
    (λ other. let (waiting, h) = turns p in (waiting, rw other at h)) (cases_Bool (q == p))
  where
    later : (waiting : Bool) → (not waiting && events_alternate true (events_of p events)) ≡ true → events_alternate true (events_of p events) ≡ true
    later waiting h = (and_parts (not waiting) (events_alternate true (events_of p events)) h).1
in_turn_later (Answer q reply) events turns p = ⊎_elim
    (λ same. let (waiting, h) = turns p in (false, later waiting (rw same at h)))
    (λ other. let (waiting, h) = turns p in (waiting, rw other at h)) (cases_Bool (q == p))
  where
    later : (waiting : Bool) → (waiting && events_alternate false (events_of p events)) ≡ true → events_alternate false (events_of p events) ≡ true
    later waiting h = (and_parts waiting (events_alternate false (events_of p events)) h).1

opened_by : (p : ℕ) (call : Call) (events : List Event) → AreInTurn (Invoke p call ∷ events) → IsOpen p events
opened_by p call events turns =
    let (waiting, h) = turns p in
    (and_parts (not waiting) (events_alternate true (events_of p events)) (rw (eq-eqb p p refl) at h)).1

-- ---- places

module _ (fresh : ℕ) (keys : List ℕ) (owner : ℕ → ℕ) where
  abbrev block : (ℕ → Call) → Event → List Event → List Event
  block last e events = recorded_event fresh keys last e events

  -- each place of what is recorded belongs to the place of the event of which it is recorded
  abbrev pub Owns : ℕ → ℕ → (ℕ → Call) → List Event → Type 0
  Owns i j last [] = ⊤
  Owns i j last (e ∷ events) = ((k : ℕ) → k < length (block last e events) → owner (j + k) ≡ i)
      × Owns (suc i) (j + length (block last e events)) (last_after last e) events

  -- ---- the answer of the call itself

  abbrev Responded : Call → Option Response → Option Response → Type 0
  Responded call None None = ⊤
  Responded call None (Some s) = ⊥
  Responded call (Some r) None = ⊥
  Responded call (Some r) (Some s) = (owner s.res ≡ r.res) × (s.reply ≡ recorded_reply call r.reply)

  skip_invocation : (p i j q : ℕ) (call : Call) (events ys : List Event)
      → response_from p j (recorded_invocation fresh keys q call (answer_to_come q events) ++ ys)
      ≡ response_from p (j + length (recorded_invocation fresh keys q call (answer_to_come q events))) ys
  skip_invocation p i j q call events ys =
      response_after p j (j + length (recorded_invocation fresh keys q call (answer_to_come q events)))
      (recorded_invocation fresh keys q call (answer_to_come q events)) ys
      (invocation_others fresh keys p q call (answer_to_come q events)) refl

  main_response : (p : ℕ) (call : Call) → p < 64 → (i j : ℕ) (last : ℕ → Call) (events : List Event) → last p ≡ call → IsOpen p events
      → AreSmall events → Owns i j last events
      → Responded call (response_from p i events) (response_from p j (recorded_events fresh keys last events))
  main_response p call p_small i j last [] is_last opened small owns = tt
  main_response p call p_small i j last (Invoke q c ∷ events) is_last opened small owns = ⊎_elim
      (λ same. absurd (false≢true (rw same at opened)))
      (λ other. rw (skip_invocation p i j q c events (recorded_events fresh keys (last_after last (Invoke q c)) events))
      (main_response p call p_small (suc i) (j + length (block last (Invoke q c) events)) (last_after last (Invoke q c)) events (rw other is_last)
      (rw other at opened) (All-tail (λ e. process_of e < 64) (Invoke q c) events small) owns.1))
      (cases_Bool (q == p))
  main_response p call p_small i j last (Answer q reply ∷ events) is_last opened small owns = ⊎_elim
      (λ same. let is : q ≡ p = eqb-true q p same in
      let place : j ≡ j + 0 = omega arith in
      rw same (ap owner place ∙ owns.0 0 (omega arith), ap (λ (c : Call). recorded_reply c reply) (ap last is ∙ is_last)))
      (λ other. let rest = recorded_events fresh keys last events in
      let skip = response_after p j (j + length (recorded_answer keys q (last q) reply)) (recorded_answer keys q (last q) reply) rest
      (All-cons (IsOther p) (Answer q (recorded_reply (last q) reply)) (answers q (missed_keys keys (last q) reply)) (eqb-false q p other)
      (helper_answers q p (missed_keys keys (last q) reply) (λ key. helper_above q key p p_small))) refl in
      rw (skip, other) (main_response p call p_small (suc i) (j + length (block last (Answer q reply) events)) last events is_last
      (rw other at opened) (All-tail (λ e. process_of e < 64) (Answer q reply) events small) owns.1))
      (cases_Bool (q == p))

  -- ---- the answer of a remove next to it

  helper_response : (p : ℕ) (call : Call) (key : ℕ) → p < 64 → (i j : ℕ) (last : ℕ → Call) (events : List Event) (r : Response)
      → last p ≡ call → IsOpen p events → AreSmall events → Owns i j last events → response_from p i events ≡ Some r
      → Contains (missed_keys keys call r.reply) key
      → (s : Response) × (response_from (helper p key) j (recorded_events fresh keys last events) ≡ Some s) × (owner s.res ≡ r.res)
      × (s.reply ≡ replies.Done)
  helper_response p call key p_small i j last [] r is_last opened small owns answered among = absurd (none-some r answered)
  helper_response p call key p_small i j last (Invoke q c ∷ events) r is_last opened small owns answered among = ⊎_elim
      (λ same. absurd (false≢true (rw same at opened)))
      (λ other. rw (skip_invocation (helper p key) i j q c events (recorded_events fresh keys (last_after last (Invoke q c)) events))
      (helper_response p call key p_small (suc i) (j + length (block last (Invoke q c) events)) (last_after last (Invoke q c)) events r
      (rw other is_last) (rw other at opened) (All-tail (λ e. process_of e < 64) (Invoke q c) events small) owns.1 answered among))
      (cases_Bool (q == p))
  helper_response p call key p_small i j last (Answer q reply ∷ events) r is_last opened small owns answered among = ⊎_elim here
      (there (λ opened answered. helper_response p call key p_small (suc i) (j + length (block last (Answer q reply) events)) last events r is_last
      opened (All-tail (λ e. process_of e < 64) (Answer q reply) events small) owns.1 answered among))
      (cases_Bool (q == p))
    where
      q_small : q < 64
      q_small = All-head (λ e. process_of e < 64) (Answer q reply) events small

      not_own : q ≢ helper p key
      not_own same = helper_above p key q q_small (sym same)

      here : (q == p) ≡ true → (s : Response)
          × (response_from (helper p key) j (recorded_answer keys q (last q) reply ++ recorded_events fresh keys last events) ≡ Some s)
          × (owner s.res ≡ r.res) × (s.reply ≡ replies.Done)
      here same =
          let is : q ≡ p = eqb-true q p same in
          let is_call : last q ≡ call = ap last is ∙ is_last in
          let r_is : record { res = i; reply = reply } ≡ r = same_Some (record { res = i; reply = reply }) r (rw same at answered) in
          let missed = missed_keys keys (last q) reply in
          let key_in : Contains (missed_keys keys (last q) reply) key =
          rw is_call (subst (λ (x : Response). Contains (missed_keys keys call x.reply) key) (sym r_is) among) in
          let (n, within, found) = find_helper p key (suc j) missed (recorded_events fresh keys last events) key_in in
          let place : suc j + n ≡ j + suc n = omega arith in (
            record { res = suc j + n; reply = replies.Done },
            rw (ne_eqb q (helper p key) not_own) (subst (λ x. response_from (helper p key) (suc j) (answers x missed ++ recorded_events fresh keys last events)
                ≡ Some (record { res = suc j + n; reply = replies.Done })) (sym is) found),
            ap owner place ∙ (owns.0 (suc n) (omega (arith, length-map {A = ℕ} {B = Event})) ∙ ap (λ (x : Response). x.res) r_is),
            refl,
          )

      there : (IsOpen p events → response_from p (suc i) events ≡ Some r → (s : Response)
          × (response_from (helper p key) (j + length (recorded_answer keys q (last q) reply)) (recorded_events fresh keys last events) ≡ Some s)
          × (owner s.res ≡ r.res) × (s.reply ≡ replies.Done))
          → (q == p) ≡ false → (s : Response)
          × (response_from (helper p key) j (recorded_answer keys q (last q) reply ++ recorded_events fresh keys last events) ≡ Some s)
          × (owner s.res ≡ r.res) × (s.reply ≡ replies.Done)
      there rest other =
          let skip = response_after (helper p key) j (j + length (recorded_answer keys q (last q) reply)) (recorded_answer keys q (last q) reply)
          (recorded_events fresh keys last events)
          (All-cons (IsOther (helper p key)) (Answer q (recorded_reply (last q) reply)) (answers q (missed_keys keys (last q) reply)) not_own
          (helper_answers q (helper p key) (missed_keys keys (last q) reply)
          (λ k. helper_differs q p k key q_small p_small (eqb-false q p other)))) refl in
          rw skip (rest (rw other at opened) (rw other at answered))

  -- ---- calls

  abbrev pub SameResponse : Option Response → Option Response → Type 0
  SameResponse None None = ⊤
  SameResponse None (Some s) = ⊥
  SameResponse (Some r) None = ⊥
  SameResponse (Some r) (Some s) = owner s.res ≡ r.res

  -- a recorded call has its events among those that are recorded of the events of its call
  pub record HasTimes (a t : Operation) : Type 0 where
    pub inv : owner t.inv ≡ a.inv
    pub response : SameResponse a.response t.response

  -- a call is recorded with removes next to it
  pub record IsBlock (a t : Operation) (helpers : List Operation) : Type 0 where
    pub recorded_as : AreRecordedAs fresh a.call a.response t.call t.response
    pub times : HasTimes a t
    pub helpers_are : All (λ h. IsHelperOf a h × HasTimes a h) helpers
    pub all : (key : ℕ) → Contains keys key → MissesKey a key → (h : Operation) × Contains helpers h × (h.call ≡ Remove key)

  -- calls are recorded in this way, one after the other
  abbrev pub AreBlocks : List Operation → List Operation → Type 0
  AreBlocks [] recorded = recorded ≡ []
  AreBlocks (a ∷ calls) recorded = (t : Operation) × (helpers : List Operation) × (rest : List Operation) × (recorded ≡ t ∷ helpers ++ rest)
      × IsBlock a t helpers × AreBlocks calls rest

  responded_as : (call : Call) (r s : Option Response) → Responded call r s → AreRecordedAs fresh call r (call_of fresh call (reply_in r)) s
  responded_as call None None h = refl
  responded_as call None (Some s) h = h
  responded_as call (Some r) None h = h
  responded_as call (Some r) (Some s) h = (fresh, omega arith, refl, h.1)

  responded_times : (call : Call) (r s : Option Response) → Responded call r s → SameResponse r s
  responded_times call None None h = tt
  responded_times call None (Some s) h = h
  responded_times call (Some r) None h = h
  responded_times call (Some r) (Some s) h = h.0

  -- ---- all calls of a list of events

  keys_known : (call : Call) (key : ℕ) (o : Option Reply) (r : Option Response) → o ≡ reply_in r → Contains (keys_of keys call o) key
      → (x : Response) × (r ≡ Some x) × Contains (missed_keys keys call x.reply) key
  keys_known call key o None is among = absurd (Contains-nil key (subst (λ (x : Option Reply). Contains (keys_of keys call x) key) is among))
  keys_known call key o (Some r) is among = (r, refl, subst (λ (x : Option Reply). Contains (keys_of keys call x) key) is among)

  module _ (p : ℕ) (call : Call) (p_small : p < 64) (i j : ℕ) (last : ℕ → Call) (events : List Event) (opened : IsOpen p events)
      (small : AreSmall events)
      (owns : Owns i j last (Invoke p call ∷ events)) where
    abbrev coming : Option Reply
    coming = answer_to_come p events

    abbrev removed : List ℕ
    removed = keys_of keys call coming

    abbrev later : List Event
    later = recorded_events fresh keys (last_after last (Invoke p call)) events

    abbrev after_block : ℕ
    after_block = j + length (block last (Invoke p call) events)

    abbrev made : Operation
    made = operation_of p call i events

    abbrev noted : Operation
    noted = operation_of p (call_of fresh call coming) j (invokes p removed ++ later)

    block_length : length (block last (Invoke p call) events) ≡ suc (length removed)
    block_length = omega (arith, ap length (invocation_is fresh keys p call coming), length-map {A = ℕ} {B = Event})

    is_last : last_after last (Invoke p call) p ≡ call
    is_last = rw (eq-eqb p p refl) refl

    noted_response : noted.response ≡ response_from p after_block later
    noted_response =
        response_after p (suc j) after_block (invokes p removed) later (helper_invocations p p removed)
        (omega (arith, block_length, length-map {A = ℕ} {B = Event}))

    responded : Responded call made.response (response_from p after_block later)
    responded = main_response p call p_small (suc i) after_block (last_after last (Invoke p call)) events is_last opened small owns.1

    owner_at : (n : ℕ) → n < suc (length removed) → owner (j + n) ≡ i
    owner_at n h = owns.0 n (omega (arith, block_length))

    helper_is : (h : Operation) → IsHelperOp p (suc j) after_block removed later h → IsHelperOf made h × HasTimes made h
    helper_is h is =
        let (r, answered, among) = keys_known call is.key coming made.response (to_come p (suc i) events) is.among in
        let (s, found, times, done) = helper_response p call is.key p_small (suc i) after_block (last_after last (Invoke p call)) events r is_last
        opened small owns.1 answered among in
        let less = is.within in
        let place : suc j + is.n ≡ j + suc is.n = omega arith in (
          record {
            key = is.key;
            misses = missed_from made is.key r.res call r.reply refl answered
                (Contains-from_filter (is_missed call r.reply) keys is.key among).1;
            call = is.call;
            done = (s.res, is.response ∙ (found ∙ ap (λ (x : Reply). Some (record { res = s.res; reply = x })) done));
          },
          record {
            inv = ap owner (is.inv ∙ place) ∙ owner_at (suc is.n) (omega arith);
            response = subst (SameResponse made.response) (sym (is.response ∙ found))
                (subst (λ (x : Option Response). SameResponse x (Some s)) (sym answered) times);
          },
        )

    block_of : IsBlock made noted (helper_ops p (suc j) removed later)
    block_of = record {
      recorded_as = subst (AreRecordedAs fresh call made.response (call_of fresh call coming)) (sym noted_response)
          (subst (λ (x : Option Reply). AreRecordedAs fresh call made.response (call_of fresh call x) (response_from p after_block later))
          (sym (to_come p (suc i) events)) (responded_as call made.response (response_from p after_block later) responded));
      times = record {
        inv = let place : j ≡ j + 0 = omega arith in ap owner place ∙ owner_at 0 (omega arith);
        response = subst (SameResponse made.response) (sym noted_response)
            (responded_times call made.response (response_from p after_block later) responded);
      };
      helpers_are = All-weaker (IsHelperOp p (suc j) after_block removed later) (λ h. IsHelperOf made h × HasTimes made h) helper_is
          (helper_ops p (suc j) removed later) (helper_ops_are p (suc j) after_block removed later (omega (arith, block_length)));
      all = λ key among missed.
          let r : Response = record { res = missed.answered.0; reply = replies.Pairs missed.pairs } in
          let coming_is : coming ≡ Some r.reply = to_come p (suc i) events ∙ ap reply_in missed.answered.1 in
          helper_ops_all p (suc j) removed later key
          (subst (λ (x : Option Reply). Contains (keys_of keys call x) key) (sym coming_is)
          (Contains-filter (is_missed call r.reply) keys key among (missed_to made key r missed missed.answered.1)));
    }

    ops_are : operations_from j (block last (Invoke p call) events ++ later) ≡ noted ∷ helper_ops p (suc j) removed later
        ++ operations_from after_block later
    ops_are = ap (λ (l : List Event). operations_from j (l ++ later)) (invocation_is fresh keys p call coming)
        ∙ ap (λ (l : List Operation). noted ∷ l) (ops_of_invokes p (suc j) after_block removed later (omega (arith, block_length)))

  ops_after_answers : (p i j : ℕ) (removed : List ℕ) (ys : List Event) → j ≡ i + length removed
      → operations_from i (answers p removed ++ ys) ≡ operations_from j ys
  ops_after_answers p i j [] ys e = ap (λ k. operations_from k ys) (omega arith)
  ops_after_answers p i j (key ∷ removed) ys e = ops_after_answers p (suc i) j removed ys (omega arith)

  pub blocks_of : (i j : ℕ) (last : ℕ → Call) (events : List Event) → AreInTurn events → AreSmall events → Owns i j last events
      → AreBlocks (operations_from i events) (operations_from j (recorded_events fresh keys last events))
  blocks_of i j last [] turns small owns = refl
  blocks_of i j last (Invoke p call ∷ events) turns small owns =
      let p_small = All-head (λ e. process_of e < 64) (Invoke p call) events small in
      let rest = All-tail (λ e. process_of e < 64) (Invoke p call) events small in
      let opened = opened_by p call events turns in (
        noted p call p_small i j last events opened rest owns,
        helper_ops p (suc j) (removed p call p_small i j last events opened rest owns) (later p call p_small i j last events opened rest owns),
        operations_from (after_block p call p_small i j last events opened rest owns) (later p call p_small i j last events opened rest owns),
        ops_are p call p_small i j last events opened rest owns,
        block_of p call p_small i j last events opened rest owns,
        blocks_of (suc i) (j + length (block last (Invoke p call) events)) (last_after last (Invoke p call)) events
            (in_turn_later (Invoke p call) events turns) rest owns.1,
      )
  blocks_of i j last (Answer q reply ∷ events) turns small owns =
      let missed = missed_keys keys (last q) reply in
      let skip = ops_after_answers q (suc j) (j + length (recorded_answer keys q (last q) reply)) missed (recorded_events fresh keys last events)
      (omega (arith, length-map {A = ℕ} {B = Event})) in
      rw skip (blocks_of (suc i) (j + length (block last (Answer q reply) events)) last events (in_turn_later (Answer q reply) events turns)
      (All-tail (λ e. process_of e < 64) (Answer q reply) events small) owns.1)
