-- Which calls put values, as they are known from event to event.
use Rattle.follow_monitor.proofs.Common.{completed_stays, same_call, keep_last, All-back, All-front, All-from_contains, AllPairs-across}
use Rattle.follow_monitor.proofs.Common.{AllPairs-append, AllPairs-back, Contains-around, Contains-cases, Contains-first, Contains-later}
use Rattle.follow_monitor.proofs.Common.{Contains-nil, inv_rises, IsWellFormed, low_key, operation_of, operations_from, operations, is_before}
use Rattle.follow_monitor.proofs.Common.{is_completed, Call, Event, Invoke, Answer, Reply, Operation, Response, is_undone, writes, IsPutOf}
use Rattle.follow_monitor.proofs.Common.{IsOpenCall, IsCallOf, known_call, HaveOwnEvents, AreAllPuts, put_limit, IsAnsweredPut, AreLastPuts}
use Rattle.follow_monitor.proofs.Common.{AreRecentPuts, IsAnsweredBefore, BecomeWithAnswer, ArePutsOf, OpenCall, Put, begun, is_reported, ◌≡◌, ℕ}
use Rattle.follow_monitor.proofs.Common.{zero, suc, ◌+◌, ◌-◌, ◌<◌, true, false, not, List, [], ◌∷◌, ◌++◌, length, take, Option, Some, None, refl, sym}
use Rattle.follow_monitor.proofs.Common.{ap, ◌∙◌, subst, ⊎_elim, inl, inr, arith, ◌&&◌, is_some, and_parts, eqb-true, false≢true, ltb-true}
use Rattle.follow_monitor.proofs.Common.{length-append, length-drop, length-take, take-append-drop, All-append, All-contains, All-cons, All-nil}
use Rattle.follow_monitor.proofs.Common.{All-tail, Contains-append_cases, Contains-append_left, Contains-append_right, Contains-get_or, none-some}
use Rattle.follow_monitor.proofs.Common.{same_Some, ◌⊎◌, All, AllPairs, Contains, slice_get}
use Rattle.explain_reads_from.specs.External.{is_put}
use Rattle.explain_shrink.specs.Tells.{put_by}
use Rattle.std.specs.Prelude.{◌==◌}

-- ---- a call puts one pair

one_value : (put : Option (Option ℕ)) (v w : ℕ) → is_put put v ≡ true → is_put put w ≡ true → v ≡ w
one_value None v w here there = absurd (false≢true here)
one_value (Some None) v w here there = absurd (false≢true here)
one_value (Some (Some x)) v w here there = sym (eqb-true x v here) ∙ eqb-true x w there

same_put : (p q : Put) → p.key ≡ q.key → p.value ≡ q.value → p.event ≡ q.event → p ≡ q
same_put p q key value event =
    ap (λ (k : ℕ). record { key = k; value = p.value; event = p.event }) key
    ∙ (ap (λ (v : ℕ). record { key = q.key; value = v; event = p.event }) value
    ∙ ap (λ (e : ℕ). record { key = q.key; value = q.value; event = e }) event)

pub one_put : (o : Operation) (p q : Put) → IsPutOf o p → IsPutOf o q → p ≡ q
one_put o p q own other =
    let (own_key, own_rest) = and_parts (low_key o.call == p.key) (is_put (put_by o.call) p.value && not (is_undone o.call o.response)) own.writes_it in
    let (key, rest) = and_parts (low_key o.call == q.key) (is_put (put_by o.call) q.value && not (is_undone o.call o.response)) other.writes_it in
    let own_value = (and_parts (is_put (put_by o.call) p.value) (not (is_undone o.call o.response)) own_rest).0 in
    let value = (and_parts (is_put (put_by o.call) q.value) (not (is_undone o.call o.response)) rest).0 in
    same_put p q (sym (eqb-true (low_key o.call) p.key own_key) ∙ eqb-true (low_key o.call) q.key key)
    (one_value (put_by o.call) p.value q.value own_value value)
    (own.event_is ∙ sym other.event_is)

-- ---- the puts of calls that were answered

-- if the same puts of calls were answered, the last puts are the same
pub same_puts : (limit : ℕ) (calls others : List Operation) (puts : List Put)
    → ((p : Put) (place : ℕ) → IsAnsweredPut calls p place → IsAnsweredPut others p place)
    → ((p : Put) (place : ℕ) → IsAnsweredPut others p place → IsAnsweredPut calls p place)
    → AreLastPuts limit calls puts → AreLastPuts limit others puts
same_puts limit calls others puts on back h = record {
  within = h.within;
  each = λ k d below. let (place, is) = h.each k d below in (place, on _ place is);
  rising = λ i j d less below place later a b. h.rising i j d less below place later (back _ place a) (back _ later b);
  whole = λ p place is. ⊎_elim
      (λ there. inl there)
      (λ full. inr (full.0, λ k d below later at. full.1 k d below later (back _ later at)))
      (h.whole p place (back p place is));
}

pub no_puts : (limit : ℕ) → AreLastPuts limit [] []
no_puts limit = record {
  within = omega arith;
  each = λ k d below. absurd (omega (arith, below));
  rising = λ i j d less below. absurd (omega (arith, below));
  whole = λ p place is. absurd (Contains-nil is.call is.there);
}

-- with one answered put more, which was answered after all others
module _ (limit : ℕ) (calls others : List Operation) (puts : List Put) (new : Put) (res : ℕ)
    (on : (p : Put) (place : ℕ) → IsAnsweredPut calls p place → IsAnsweredPut others p place)
    (back : (p : Put) (place : ℕ) → IsAnsweredPut others p place → IsAnsweredPut calls p place ⊎ ((p ≡ new) × (place ≡ res)))
    (there : IsAnsweredPut others new res)
    (before : (p : Put) (place : ℕ) → IsAnsweredPut calls p place → place < res)
    (apart : (place : ℕ) → IsAnsweredPut calls new place → ⊥)
    (h : AreLastPuts limit calls puts) where
  abbrev whole_list : List Put
  whole_list = puts ++ new ∷ []

  abbrev kept : List Put
  kept = keep_last limit whole_list

  abbrev gone : List Put
  gone = take (length whole_list - limit) whole_list

  abbrev IsBefore : Put → Put → Type 0
  IsBefore p q = (place later : ℕ) → IsAnsweredPut others p place → IsAnsweredPut others q later → place < later

  parts_are : gone ++ kept ≡ whole_list
  parts_are = take-append-drop (length whole_list - limit) whole_list

  old_of : (p : Put) (place : ℕ) → Contains puts p → IsAnsweredPut others p place → IsAnsweredPut calls p place
  old_of p place in_puts is = ⊎_elim
      (λ old. old)
      (λ (same, _).
      let (own, was) = All-contains (λ q. (at : ℕ) × IsAnsweredPut calls q at) puts p h.each in_puts in
      absurd (apart own (subst (λ (q : Put). IsAnsweredPut calls q own) same was)))
      (back p place is)

  new_at : (later : ℕ) → IsAnsweredPut others new later → later ≡ res
  new_at later is = ⊎_elim (λ old. absurd (apart later old)) (λ (_, at). at) (back new later is)

  before_new : (p : Put) → Contains puts p → IsBefore p new
  before_new p in_puts place later is other =
      let less = before p place (old_of p place in_puts is) in
      let last = new_at later other in omega (arith, less, last)

  rises : AllPairs IsBefore whole_list
  rises = AllPairs-append IsBefore puts (new ∷ [])
      (λ i j d less below place later is other.
      let first = Contains-get_or puts i d (omega (arith, less, below)) in
      let second = Contains-get_or puts j d below in
      h.rising i j d less below place later (old_of _ place first is) (old_of _ later second other))
      (λ i j d less below. absurd (omega (arith, less, below)))
      (All-from_contains (λ p. All (IsBefore p) (new ∷ [])) puts (λ p in_puts.
      All-cons (IsBefore p) new [] (before_new p in_puts) (All-nil (IsBefore p))))

  abbrev IsWhole : Put → ℕ → Type 0
  IsWhole p place = Contains kept p ⊎ ((length kept ≡ limit) × All (λ q. (later : ℕ) → IsAnsweredPut others q later → place < later) kept)

  full : limit < length whole_list → length kept ≡ limit
  full more =
      let size = length-drop (length whole_list - limit) whole_list in
      omega (arith, more, size)

  within_gone : (p : Put) → Contains gone p → limit < length whole_list
  within_gone p is =
      let size = length-take (length whole_list - limit) whole_list in
      let below = is.1 in grind (arith, size, below)

  in_list : (p : Put) (place : ℕ) → IsAnsweredPut others p place → Contains whole_list p → IsWhole p place
  in_list p place is in_whole = ⊎_elim
      (λ old. inr (
        full (within_gone p old),
        λ k d below later other.
            All-contains (λ q. All (IsBefore q) kept) gone p
            (AllPairs-across IsBefore gone kept (subst (AllPairs IsBefore) (sym parts_are) rises)) old k d below place later is other,
      ))
      (λ here. inl here)
      (Contains-append_cases gone kept p (subst (λ (l : List Put). Contains l p) (sym parts_are) in_whole))

  in_whole_list : (q : Put) → Contains kept q → Contains whole_list q
  in_whole_list q is = subst (λ (l : List Put). Contains l q) parts_are (Contains-append_right gone kept q is)

  after_all : (p : Put) (place : ℕ) → IsAnsweredPut calls p place → length puts ≡ limit
      → All (λ q. (later : ℕ) → IsAnsweredPut calls q later → place < later) puts → IsWhole p place
  after_all p place is size earlier = inr (
    (let more = length-append puts (new ∷ []) in full (omega (arith, more, size))),
    All-from_contains (λ q. (later : ℕ) → IsAnsweredPut others q later → place < later) kept (λ q q_is later other. ⊎_elim
        (λ in_puts. All-contains (λ r. (at : ℕ) → IsAnsweredPut calls r at → place < at) puts q earlier in_puts later (old_of q later in_puts other))
        (λ last. ⊎_elim
        (λ (same : new ≡ q).
        let at = new_at later (subst (λ (r : Put). IsAnsweredPut others r later) (sym same) other) in
        let less = before p place is in omega (arith, at, less))
        (λ none. absurd (Contains-nil q none))
        (Contains-cases new [] q last))
        (Contains-append_cases puts (new ∷ []) q (in_whole_list q q_is))),
  )

  pub one_put_more : AreLastPuts limit others kept
  one_put_more = record {
    within = let size = length-drop (length whole_list - limit) whole_list in omega (arith, size);
    each = All-from_contains (λ q. (place : ℕ) × IsAnsweredPut others q place) kept (λ q q_is. ⊎_elim
        (λ in_puts.
        let (place, is) = All-contains (λ r. (at : ℕ) × IsAnsweredPut calls r at) puts q h.each in_puts in (place, on q place is))
        (λ last. ⊎_elim
        (λ (same : new ≡ q). (res, subst (λ (r : Put). IsAnsweredPut others r res) same there))
        (λ none. absurd (Contains-nil q none))
        (Contains-cases new [] q last))
        (Contains-append_cases puts (new ∷ []) q (in_whole_list q q_is)));
    rising = AllPairs-back IsBefore gone kept (subst (AllPairs IsBefore) (sym parts_are) rises);
    whole = λ p place is. ⊎_elim
        (λ old. ⊎_elim
        (λ in_puts. in_list p place is (Contains-append_left puts (new ∷ []) p in_puts))
        (λ (size, earlier). after_all p place old size earlier)
        (h.whole p place old))
        (λ (same, _). in_list p place is
        (subst (Contains whole_list) (sym same) (Contains-append_right puts (new ∷ []) new (Contains-first new []))))
        (back p place is);
  }

-- ---- an invocation

-- a call that begins changes nothing
pub puts_invoked : (calls : List Operation) (call : Call) (place : ℕ) (puts : List Put) → AreRecentPuts calls puts
    → AreRecentPuts (calls ++ begun call place ∷ []) puts
puts_invoked calls call place puts = same_puts put_limit calls (calls ++ begun call place ∷ []) puts
    (λ p at is. record {
      call = is.call;
      there = Contains-append_left calls (begun call place ∷ []) is.call is.there;
      is = is.is;
      response = is.response;
      answered = is.answered;
      place_is = is.place_is;
    })
    (λ p at is. ⊎_elim
    (λ old. record { call = is.call; there = old; is = is.is; response = is.response; answered = is.answered; place_is = is.place_is })
    (λ last. ⊎_elim
    (λ same. absurd (none-some is.response (ap (λ (o : Operation). o.response) same ∙ is.answered)))
    (λ none. absurd (Contains-nil is.call none))
    (Contains-cases (begun call place) [] is.call last))
    (Contains-append_cases calls (begun call place ∷ []) is.call is.there))

-- ---- an answer

-- the answer of a call, which is one of some calls, after all other answers
module _ (limit : ℕ) (front back : List Operation) (call : Call) (inv : ℕ) (reply : Reply) (res : ℕ)
    (rising : AllPairs (λ a b. a.inv < b.inv) (front ++ begun call inv ∷ back))
    (earlier : All (IsAnsweredBefore res) (front ++ back)) where
  abbrev pending : Operation
  pending = begun call inv

  abbrev done : Operation
  done = is_reported pending reply res

  abbrev calls : List Operation
  calls = front ++ pending ∷ back

  abbrev others : List Operation
  others = front ++ done ∷ back

  around : (x o : Operation) → Contains (front ++ back) o → Contains (front ++ x ∷ back) o
  around x o is = ⊎_elim
      (λ in_front. Contains-append_left front (x ∷ back) o in_front)
      (λ in_back. Contains-append_right front (x ∷ back) o (Contains-later x back o in_back))
      (Contains-append_cases front back o is)

  moved : (p : Put) (place : ℕ) (x : Operation) (is : IsAnsweredPut calls p place) → Contains (front ++ back) is.call
      → IsAnsweredPut (front ++ x ∷ back) p place
  moved p place x is there = record {
    call = is.call;
    there = around x is.call there;
    is = is.is;
    response = is.response;
    answered = is.answered;
    place_is = is.place_is;
  }

  -- a call that was answered before is another one
  other_call : (p : Put) (place : ℕ) (is : IsAnsweredPut calls p place) → Contains (front ++ back) is.call
  other_call p place is = ⊎_elim
      (λ same. absurd (none-some is.response (ap (λ (o : Operation). o.response) same ∙ is.answered)))
      (λ other. other)
      (Contains-around front pending back is.call is.there)

  on : (p : Put) (place : ℕ) → IsAnsweredPut calls p place → IsAnsweredPut others p place
  on p place is = moved p place done is (other_call p place is)

  before : (p : Put) (place : ℕ) → IsAnsweredPut calls p place → place < res
  before p place is =
      let less = All-contains (IsAnsweredBefore res) (front ++ back) is.call earlier
      (other_call p place is) is.response is.answered in
      let at = is.place_is in omega (arith, less, at)

  from_done : (p : Put) (place : ℕ) (is : IsAnsweredPut others p place)
      → IsAnsweredPut calls p place ⊎ (IsPutOf done p × (place ≡ res))
  from_done p place is = ⊎_elim
      (λ (same : done ≡ is.call).
      let own : Some (record { res = res; reply = reply }) ≡ Some is.response = ap (λ (o : Operation). o.response) same ∙ is.answered in
      let response : record { res = res; reply = reply } ≡ is.response = same_Some (record { res = res; reply = reply }) is.response own in
      inr (
        subst (λ (o : Operation). IsPutOf o p) (sym same) is.is,
        sym is.place_is ∙ sym (ap (λ (r : Response). r.res) response),
      ))
      (λ other. inl (record {
        call = is.call;
        there = around pending is.call other;
        is = is.is;
        response = is.response;
        answered = is.answered;
        place_is = is.place_is;
      }))
      (Contains-around front done back is.call is.there)

  -- an answer of a call that puts nothing changes nothing
  pub puts_answered_none : (puts : List Put) → ((key value : ℕ) → writes (key, value) done ≡ false) → AreLastPuts limit calls puts
      → AreLastPuts limit others puts
  puts_answered_none puts none = same_puts limit calls others puts on
      (λ p place is. ⊎_elim
      (λ old. old)
      (λ (own, _). absurd (false≢true (sym (none p.key p.value) ∙ own.writes_it)))
      (from_done p place is))

  -- the put of the call was not known before
  unknown : (p : Put) (place : ℕ) → p.event ≡ inv → IsAnsweredPut calls p place → ⊥
  unknown p place at is =
      let own : is.call.inv ≡ inv = sym is.is.event_is ∙ at in
      ⊎_elim
      (λ in_front.
      let less = All-contains (λ (b : Operation). is.call.inv < b.inv) (pending ∷ back) pending
      (All-contains (λ (a : Operation). All (λ b. a.inv < b.inv) (pending ∷ back)) front is.call
      (AllPairs-across (λ (a b : Operation). a.inv < b.inv) front (pending ∷ back) rising) in_front) (Contains-first pending back) in
      omega (arith, own, less))
      (λ in_back.
      let rest = AllPairs-back (λ (a b : Operation). a.inv < b.inv) front (pending ∷ back) rising in
      let less = All-contains (λ (b : Operation). inv < b.inv) back is.call
      (AllPairs-across (λ (a b : Operation). a.inv < b.inv) (pending ∷ []) back rest 0 pending (omega arith)) in_back in
      omega (arith, own, less))
      (Contains-append_cases front back is.call (other_call p place is))

  -- an answer of a call that puts a value makes its put the last
  pub puts_answered : (puts : List Put) (p : Put) → IsPutOf done p → AreLastPuts limit calls puts
      → AreLastPuts limit others (keep_last limit (puts ++ p ∷ []))
  puts_answered puts p own h = one_put_more limit calls others puts p res on
      (λ q place is. ⊎_elim (λ old. inl old) (λ (is_own, at). inr (one_put done q p is_own own, at)) (from_done q place is))
      (record {
        call = done;
        there = Contains-append_right front (done ∷ back) done (Contains-first done back);
        is = own;
        response = record { res = res; reply = reply };
        answered = refl;
        place_is = refl;
      })
      before
      (λ place is. unknown p place own.event_is is)
      h

-- ---- the events of calls

-- the answers of events are among them
pub answered_before : (events : List Event) → All (IsAnsweredBefore (length events)) (operations events)
answered_before events = All-from_contains (IsAnsweredBefore (length events)) (operations events) (λ o o_is response answered.
    let done : is_completed o ≡ true = ap is_some answered in
    let before : is_before o.response (length events) ≡ true = (completed_stays events [] o o_is done).1 in
    ltb-true response.res (length events) (ap (λ (r : Option Response). is_before r (length events)) (sym answered) ∙ before))

-- the recent puts after an answer of an open call
pub recent_after : (events then : List Event) (front back : List Operation) (call : Call) (inv : ℕ) (reply : Reply) (puts nexts : List Put)
    → operations events ≡ front ++ begun call inv ∷ back → operations then ≡ front ++ is_reported (begun call inv) reply (length events) ∷ back
    → BecomeWithAnswer put_limit call inv reply puts nexts → AreRecentPuts (operations events) puts → AreRecentPuts (operations then) nexts
recent_after events then front back call inv reply puts nexts before after become h =
    let earlier : All (IsAnsweredBefore (length events)) (front ++ begun call inv ∷ back) =
    subst (All (IsAnsweredBefore (length events))) before (answered_before events) in
    subst (λ (l : List Operation). AreRecentPuts l nexts) (sym after)
    (become front back (length events) (subst (AllPairs (λ (a b : Operation). a.inv < b.inv)) before (inv_rises events))
    (All-append (IsAnsweredBefore (length events)) front back
    (All-front (IsAnsweredBefore (length events)) front (begun call inv ∷ back) earlier)
    (All-tail (IsAnsweredBefore (length events)) (begun call inv) back
    (All-back (IsAnsweredBefore (length events)) front (begun call inv ∷ back) earlier)))
    (subst (λ (l : List Operation). AreRecentPuts l puts) before h))

abbrev operation : Call → ℕ → Option Response → Operation
operation call inv response = record { call = call; inv = inv; response = response }

same_operation : (call other : Call) (inv at : ℕ) (response answer : Option Response) → call ≡ other → inv ≡ at → response ≡ answer
    → operation call inv response ≡ operation other at answer
same_operation call other inv at response answer asks same given = rw (asks, same, given) refl

invoked_from : (i : ℕ) (events : List Event) (j p : ℕ) (call : Call) → slice_get events j ≡ Some (Invoke p call)
    → (a : Operation) × Contains (operations_from i events) a × (a.inv ≡ i + j) × (a.call ≡ call)
invoked_from i [] j p call here = absurd (none-some (Invoke p call) here)
invoked_from i (Invoke q other ∷ events) zero p call here =
    let same = same_Some (Invoke q other) (Invoke p call) here in
    let asks : other ≡ call = cc in
    (operation_of q other i events, Contains-first (operation_of q other i events) (operations_from (suc i) events), omega arith, asks)
invoked_from i (Answer q reply ∷ events) zero p call here =
    let same = same_Some (Answer q reply) (Invoke p call) here in absurd cc
invoked_from i (Invoke q other ∷ events) (suc j) p call here =
    let (a, is, at, asks) = invoked_from (suc i) events j p call here in
    (a, Contains-later (operation_of q other i events) (operations_from (suc i) events) a is, omega (arith, at), asks)
invoked_from i (Answer q reply ∷ events) (suc j) p call here =
    let (a, is, at, asks) = invoked_from (suc i) events j p call here in
    (a, is, omega (arith, at), asks)

-- an invocation is that of a call
pub invoked_call : (events : List Event) (place p : ℕ) (call : Call) → slice_get events place ≡ Some (Invoke p call)
    → (a : Operation) × Contains (operations events) a × (a.inv ≡ place) × (a.call ≡ call)
invoked_call events place p call here =
    let (a, is, at, asks) = invoked_from 0 events place p call here in (a, is, omega (arith, at), asks)

invocation_from : (i : ℕ) (events : List Event) (a : Operation) → Contains (operations_from i events) a
    → (j : ℕ) × (p : ℕ) × (a.inv ≡ i + j) × (slice_get events j ≡ Some (Invoke p a.call))
invocation_from i [] a is = absurd (Contains-nil a is)
invocation_from i (Invoke q call ∷ events) a is = ⊎_elim
    (λ (same : operation_of q call i events ≡ a).
    let at : i ≡ a.inv = ap (λ (o : Operation). o.inv) same in
    let asks : call ≡ a.call = ap (λ (o : Operation). o.call) same in
    (0, q, omega (arith, at), ap (λ (c : Call). Some (Invoke q c)) asks))
    (λ later. let (j, p, at, here) = invocation_from (suc i) events a later in (suc j, p, omega (arith, at), here))
    (Contains-cases (operation_of q call i events) (operations_from (suc i) events) a is)
invocation_from i (Answer q reply ∷ events) a is =
    let (j, p, at, here) = invocation_from (suc i) events a is in (suc j, p, omega (arith, at), here)

-- a call has an invocation
pub invocation_of : (events : List Event) (a : Operation) → Contains (operations events) a → (p : ℕ) × (slice_get events a.inv ≡ Some (Invoke p a.call))
invocation_of events a is =
    let (j, p, at, here) = invocation_from 0 events a is in
    let same : a.inv ≡ j = omega (arith, at) in
    (p, ap (slice_get events) same ∙ here)

-- ---- the puts of pending calls

module _ (events : List Event) (open_calls : List (ℕ × OpenCall)) (formed : IsWellFormed events)
    (calls_open : (process : ℕ) (c : OpenCall) → known_call open_calls process ≡ Some c → IsCallOf events process c)
    (all_open : (process event : ℕ) (call : Call) → IsOpenCall events process event call
    → (c : OpenCall) × (known_call open_calls process ≡ Some c) × (c.event ≡ event)) where
  -- a known call is a pending call
  known_pending : (process : ℕ) (c : OpenCall) → known_call open_calls process ≡ Some c → Contains (operations events) (begun c.call c.event)
  known_pending process c known =
      let own = (calls_open process c known).is_open in
      let (a, is, at, asks) = invoked_call events c.event process c.call own.invoked in
      let none = own.pending a is at in
      subst (Contains (operations events)) (same_operation a.call c.call a.inv c.event a.response None asks at none) is

  -- a pending call is known
  pending_known : (o : Operation) → Contains (operations events) o → o.response ≡ None
      → (process : ℕ) × (c : OpenCall) × (known_call open_calls process ≡ Some c) × (begun c.call c.event ≡ o)
  pending_known o o_is none =
      let (process, here) = invocation_of events o o_is in
      let own : IsOpenCall events process o.inv o.call = record {
        well_formed = formed;
        invoked = here;
        pending = λ a a_is at. ap (λ (x : Operation). x.response) (same_call (operations events) a o (inv_rises events) a_is o_is at) ∙ none;
      } in
      let (c, known, at) = all_open process o.inv o.call own in
      let known_here : slice_get events o.inv ≡ Some (Invoke process c.call) =
      ap (slice_get events) (sym at) ∙ (calls_open process c known).is_open.invoked in
      let one = same_Some (Invoke process c.call) (Invoke process o.call) (sym known_here ∙ here) in
      let asks : c.call ≡ o.call = cc in
      (process, c, known, same_operation c.call o.call c.event o.inv None o.response asks at (sym none))

  own_events : HaveOwnEvents open_calls
  own_events process other c d here there same =
      let first = (calls_open process c here).is_open.invoked in
      let second = (calls_open other d there).is_open.invoked in
      let one = same_Some (Invoke process c.call) (Invoke other d.call) (sym first ∙ (ap (slice_get events) same ∙ second)) in
      cc

  -- all puts that are known
  pub known_puts : (recent puts : List Put) → AreRecentPuts (operations events) recent → AreAllPuts recent open_calls puts
      → ArePutsOf (operations events) puts
  known_puts recent puts are_recent all = record {
    recent = recent;
    pending = all.pending;
    parts = all.parts;
    are_recent = are_recent;
    are_pending = record {
      each = λ p. (
        λ is.
            let (process, c, known, put) = (all.are_open.each p).0 is in
            let (k, below, here) = known_pending process c known in
            (k, begun c.call c.event, below, here, (refl, put)),
        λ (k, o, below, here, (none, put)).
            let (process, c, known, same) = pending_known o (k, below, here) none in
            (all.are_open.each p).1 (process, c, known, subst (λ (x : Operation). IsPutOf x p) (sym same) put),
      );
      rising = all.are_open.rising own_events;
    };
  }
