-- Histories with neither starting pairs nor a replace, and with complete answers only, have the
-- orders that their calls have without either.
use Rattle.events.specs.declared.event.Reply.TheVariants as replies
use Rattle.orders.proofs.Common.{◌≡◌, ℕ, suc, ◌==◌, Bool, true, false, cond, List, [], ◌∷◌, Option, Some, None, inl, inr, refl, sym, subst, ◌∙◌, All}
use Rattle.orders.proofs.Common.{slice_get, ⊤, list_all, and_parts, not-true, All-nil, All-cons, All-head, All-tail, All-contains, Call, Get, Insert}
use Rattle.orders.proofs.Common.{Remove, Scan, Replace, Event, Invoke, Answer, Reply, Operation, Response, response_from, operation_of}
use Rattle.orders.proofs.Common.{operations_from, operations, Contents, reply_to, after, after_reply, IsAllOrPartOf, after_reply-answer, tells_all}
use Rattle.orders.proofs.Common.{tells_answers, whole_from_tells, All-from_contains, Contains-at, Contains-from_filter_map, after_call, IsLegalCall}
use Rattle.orders.proofs.Common.{IsLegal, calls_at, IsOrder}
use Rattle.events.specs.PlainHistories.{is_replace, is_plain_event, has_no_pairs}
use Rattle.events.specs.Told.{is_complete}
use Rattle.orders.specs.PlainOrders.{DoesPlain, DoesPlainCall, AreDonePlainly, IsPlainOrder}
use Rattle.orders.specs.Laws.{PlainHistoriesHavePlainOrders}

-- the response is complete, if there is one
abbrev IsToldResponse : Option Response → Type 0
IsToldResponse None = ⊤
IsToldResponse (Some response) = is_complete response.reply ≡ true

-- a call that is no replace, and whose answer is complete
abbrev IsPlainCall : Operation → Type 0
IsPlainCall a = (is_replace a.call ≡ false) × IsToldResponse a.response

-- one call: what the map does is done plainly
does_plain : (m : Contents) (call : Call) → is_replace call ≡ false → DoesPlain m call (reply_to m call) (after m call)
does_plain m (Get key) plain = (refl, refl)
does_plain m (Insert key value) plain = (refl, refl)
does_plain m (Remove key) plain = (refl, refl)
does_plain m (Scan low high) plain = (refl, refl)
does_plain m (Replace key expected value) plain = cc

-- one call: what is done plainly the map does
plain_does : (m : Contents) (call : Call) (reply : Reply) (next : Contents) → DoesPlain m call reply next → (reply ≡ reply_to m call)
    × (next ≡ after m call)
plain_does m (Get key) reply next d = d
plain_does m (Insert key value) reply next d = d
plain_does m (Remove key) reply next d = d
plain_does m (Scan low high) reply next d = d
plain_does m (Replace key expected value) reply next d = absurd d

-- the pairs after an answer, and after a refusal
after_told : (m : Contents) (call : Call) (reply : Reply) → IsAllOrPartOf call (reply_to m call) reply → after_reply m call reply ≡ after m call
after_told m call reply tells = after_reply-answer m call reply (tells_answers m call reply tells)

after_refused : (m : Contents) (call : Call) (reply : Reply) → reply ≡ replies.Refused → after_reply m call reply ≡ m
after_refused m call reply refused = rw refused refl

done-from_legal : (m : Contents) (call : Call) (response : Option Response) → is_replace call ≡ false → IsToldResponse response
    → IsLegalCall m call response
    → DoesPlainCall m call response (after_call m call response)
done-from_legal m call None plain told legal = (reply_to m call, does_plain m call plain)
done-from_legal m call (Some r) plain told (inl refused) = inl (refused, after_refused m call r.reply refused)
done-from_legal m call (Some r) plain told (inr tells) =
    inr (rw (after_told m call r.reply tells, whole_from_tells call (reply_to m call) r.reply told tells) (does_plain m call plain))

legal_from_done : (m : Contents) (call : Call) (response : Option Response) (next : Contents) → DoesPlainCall m call response next
    → IsLegalCall m call response × (next ≡ after_call m call response)
legal_from_done m call None next d = (tt, (plain_does m call d.0 next d.1).1)
legal_from_done m call (Some r) next (inl d) = (inl d.0, d.1 ∙ sym (after_refused m call r.reply d.0))
legal_from_done m call (Some r) next (inr d) =
    let p = plain_does m call r.reply next d in
    let tells = tells_all m call r.reply p.0 in
    (inr tells, p.1 ∙ sym (after_told m call r.reply tells))

-- a list of calls
all_done : (m : Contents) (calls : List Operation) → All IsPlainCall calls → IsLegal m calls → AreDonePlainly m calls
all_done m [] plain legal = tt
all_done m (a ∷ calls) plain legal = (
  after_call m a.call a.response,
  done-from_legal m a.call a.response (All-head IsPlainCall a calls plain).0 (All-head IsPlainCall a calls plain).1 legal.0,
  all_done (after_call m a.call a.response) calls (All-tail IsPlainCall a calls plain) legal.1,
)

all_legal : (m : Contents) (calls : List Operation) → AreDonePlainly m calls → IsLegal m calls
all_legal m [] done = tt
all_legal m (a ∷ calls) done =
    let p = legal_from_done m a.call a.response done.0 done.1 in
    (p.0, all_legal (after_call m a.call a.response) calls (subst (λ (next : Contents). AreDonePlainly next calls) p.1 done.2))

-- the calls of plain events are plain, and so are those with some numbers
told_response : (p i : ℕ) (events : List Event) → list_all is_plain_event events ≡ true → IsToldResponse (response_from p i events)
told_response p i [] plain = tt
told_response p i (Invoke q call ∷ events) plain =
    told_response p (suc i) events (and_parts (is_plain_event (Invoke q call)) (list_all is_plain_event events) plain).1
told_response p i (Answer q reply ∷ events) plain =
    let parts = and_parts (is_complete reply) (list_all is_plain_event events) plain in
    go (q == p) parts.0 (told_response p (suc i) events parts.1)
  where
    go : (b : Bool) → is_complete reply ≡ true → IsToldResponse (response_from p (suc i) events)
        → IsToldResponse (cond b (Some (record { res = i; reply = reply })) (response_from p (suc i) events))
    go true here later = here
    go false here later = later

plain_from : (i : ℕ) (events : List Event) → list_all is_plain_event events ≡ true → All IsPlainCall (operations_from i events)
plain_from i [] plain = All-nil IsPlainCall
plain_from i (Answer p reply ∷ events) plain =
    plain_from (suc i) events (and_parts (is_complete reply) (list_all is_plain_event events) plain).1
plain_from i (Invoke p call ∷ events) plain =
    let parts = and_parts (is_plain_event (Invoke p call)) (list_all is_plain_event events) plain in
    All-cons IsPlainCall (operation_of p call i events) (operations_from (suc i) events)
    (not-true (is_replace call) parts.0, told_response p (suc i) events parts.1)
    (plain_from (suc i) events parts.1)

plain_at : (calls : List Operation) (numbers : List ℕ) → All IsPlainCall calls → All IsPlainCall (calls_at calls numbers)
plain_at calls numbers plain = All-from_contains IsPlainCall (calls_at calls numbers) (λ a is.
    let (n, n_is, here) = Contains-from_filter_map (slice_get calls) numbers a is in
    All-contains IsPlainCall calls a plain (Contains-at calls n a here))

no_pairs : (pairs : Contents) → has_no_pairs pairs ≡ true → pairs ≡ []
no_pairs [] h = refl
no_pairs (pair ∷ pairs) h = cc

plain_order : (calls : List Operation) (order : List ℕ) → All IsPlainCall calls → IsOrder [] calls order → IsPlainOrder calls order
plain_order calls order plain h = record {
  known = h.legal_order.known;
  distinct = h.legal_order.distinct;
  precedence = h.legal_order.precedence;
  done = all_done [] (calls_at calls order) (plain_at calls order plain) h.legal_order.legal;
  complete = h.complete;
}

order_from_plain : (calls : List Operation) (order : List ℕ) → IsPlainOrder calls order → IsOrder [] calls order
order_from_plain calls order h = record {
  legal_order = record {
    known = h.known;
    distinct = h.distinct;
    precedence = h.precedence;
    legal = all_legal []
        (calls_at calls order) h.done;
  };
  complete = h.complete;
}

pub plain_orders : PlainHistoriesHavePlainOrders
plain_orders history order plain =
    let parts = and_parts (has_no_pairs history.start) (list_all is_plain_event history.events) plain in
    let calls = operations history.events in
    let start = no_pairs history.start parts.0 in (
      λ h. plain_order calls order (plain_from 0 history.events parts.1) (rw start at h),
      λ h. rw start (order_from_plain calls order h),
    )
