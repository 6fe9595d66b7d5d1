-- The answer of an open call: it is the answer of the call's number, and if there is no order with it, the events go wrong there.
use Rattle.follow_monitor.proofs.Common.{completed_at, answered_at, Contains-map, AllPairs-across, AllPairs-back, AllPairs-head, Contains-split}
use Rattle.follow_monitor.proofs.Common.{inv_rises, low_key, high_key, operations, Call, Get, Insert, Remove, Scan, Replace, Event, Answer, Reply}
use Rattle.follow_monitor.proofs.Common.{Operation, Response, OrdersAreKeyedOrders, HasForm, KeptPart, PartGoesOn, KeptPartsDecide, KeptPast}
use Rattle.follow_monitor.proofs.Common.{MayReply, event_limit, answer_fault, IsCallOf, IsFollowing, MonitorView, known_call, PrefixesHaveOrders}
use Rattle.follow_monitor.proofs.Common.{IsAnswerOf, GoesWrongAt, OpenCall, begun, is_reported, reported, IsKeptBeside, pasts_of, EndedPart, IsDead}
use Rattle.follow_monitor.proofs.Common.{covered, Contents, IsRising, IsLinearizable, ◌≡◌, ◌≢◌, ℕ, ◌+◌, ◌<◌, ◌≤◌, List, [], ◌∷◌, ◌++◌, length, map}
use Rattle.follow_monitor.proofs.Common.{take, Option, Some, None, refl, sym, ap, ◌∙◌, subst, arith, eq-eqb, ne_eqb, length_push, take_at}
use Rattle.follow_monitor.proofs.Common.{All-contains, All-head, All-weaker, map_fixed, slice_get-map, option_map, All, AllPairs, Any, Contains}
use Rattle.follow_monitor.proofs.Common.{slice_get, IsSomeAnd}
use Rattle.std.proofs.Common.{append_assoc}
use mathlib.Core.List.{map-append}
use Rattle.follow_monitor.proofs.CallLemmas.{open_call, answered_calls, with_answer}
use Rattle.follow_monitor.proofs.FaultLemmas.{waits, fine_answer}
use Rattle.follow_monitor.proofs.NextLemmas.{IsShaped}

-- ---- forms of replies

form_from : (call : Call) (reply : Reply) (res : ℕ) → HasForm call (reported reply res) → MayReply call reply
form_from (Get key) reply res h = tt
form_from (Insert key value) reply res h = tt
form_from (Remove key) reply res h = tt
form_from (Scan low high) reply res h = h
form_from (Replace key expected value) reply res h = tt

-- ---- the calls around an open call

-- calls before and after the open call, and the same calls around it with its answer
pub record AreAround (events : List Event) (process : ℕ) (known : OpenCall) (reply : Reply) : Type 0 where
  pub front : List Operation
  pub back : List Operation
  pub before : operations events ≡ front ++ begun known.call known.event ∷ back
  pub after : operations (events ++ Answer process reply ∷ []) ≡ front ++ is_reported (begun known.call known.event) reply (length events) ∷ back

-- a call is known by its parts
abbrev operation : Call → ℕ → Option Response → Operation
operation call inv response = record { call = call; inv = inv; response = response }

begun_is : (a : Operation) (call : Call) (inv : ℕ) → a.call ≡ call → a.inv ≡ inv → a.response ≡ None → a ≡ begun call inv
begun_is a call inv asks at pending =
    ap (λ (c : Call). operation c a.inv a.response) asks ∙ (ap (λ (i : ℕ). operation call i a.response) at ∙ ap (operation call inv) pending)

abbrev IsElsewhere : ℕ → Operation → Type 0
IsElsewhere inv a = a.inv ≢ inv

unchanged : (inv place : ℕ) (reply : Reply) (calls : List Operation) → All (IsElsewhere inv) calls → map (answered_at inv place reply) calls ≡ calls
unchanged inv place reply calls apart =
    map_fixed (answered_at inv place reply) calls
    (All-weaker (IsElsewhere inv) (λ a. answered_at inv place reply a ≡ a) (λ a other. rw (ne_eqb a.inv inv other) refl) calls apart)

pub around : (events : List Event) (process : ℕ) (known : OpenCall) (reply : Reply) → IsCallOf events process known → AreAround events process known reply
around events process known reply h =
    let R : Operation → Operation → Type 0 = λ a b. a.inv < b.inv in
    let own = begun known.call known.event in
    let f = answered_at known.event (length events) reply in
    let (a, a_is, at, asks, pending) = open_call events process known.event known.call h.is_open in
    let (front, back, parts) = Contains-split (operations events) a a_is in
    let is : a ≡ own = begun_is a known.call known.event asks at pending in
    let before : operations events ≡ front ++ own ∷ back = parts ∙ ap (λ (x : Operation). front ++ x ∷ back) is in
    let rising = subst (λ (l : List Operation). AllPairs R l) before (inv_rises events) in
    let front_apart : All (IsElsewhere known.event) front =
    All-weaker (λ x. All (R x) (own ∷ back)) (IsElsewhere known.event)
    (λ x less same. let below = All-head (R x) own back less in omega (arith, below, same)) front (AllPairs-across R front (own ∷ back) rising) in
    let back_apart : All (IsElsewhere known.event) back =
    All-weaker (R own) (IsElsewhere known.event) (λ x more same. omega (arith, more, same)) back
    (AllPairs-head R own back (AllPairs-back R front (own ∷ back) rising)) in
    let here : f own ≡ is_reported own reply (length events) = rw (eq-eqb known.event known.event refl) refl in
    record {
      front = front;
      back = back;
      before = before;
      after =
          answered_calls events process known.event known.call reply h.is_open
          ∙ (ap (map f) before
          ∙ (map-append f front (own ∷ back)
          ∙ (ap (λ (l : List Operation). l ++ f own ∷ map f back) (unchanged known.event (length events) reply front front_apart)
          ∙ (ap (λ (x : Operation). front ++ x ∷ map f back) here
          ∙ ap (λ (l : List Operation). front ++ is_reported own reply (length events) ∷ l) (unchanged known.event (length events) reply back back_apart)))));
    }

-- ---- the call that is answered

-- an open call is answered by an answer of its process, whatever follows
answer_is : (events : List Event) (process : ℕ) (known : OpenCall) → IsCallOf events process known → (reply : Reply) (more : List Event)
    → IsAnswerOf (events ++ Answer process reply ∷ more) known.number (length events)
answer_is events process known is_call reply more =
    let then : List Event = events ++ Answer process reply ∷ [] in
    let (a, a_is, at, asks, pending) = open_call events process known.event known.call is_call.is_open in
    let done : Operation = record { call = a.call; inv = a.inv; response = Some (record { res = length events; reply = reply }) } in
    let is : answered_at known.event (length events) reply a ≡ done = rw (eq-eqb a.inv known.event at) refl in
    let now : slice_get (operations then) known.number ≡ Some done =
    ap (λ (l : List Operation). slice_get l known.number) (answered_calls events process known.event known.call reply is_call.is_open)
    ∙ (slice_get-map (answered_at known.event (length events) reply) (operations events) known.number
    ∙ (ap (option_map (answered_at known.event (length events) reply)) (is_call.numbered a a_is at) ∙ ap Some is)) in
    let stays = (completed_at then more known.number done now refl).0 in
    let there : slice_get (operations (events ++ Answer process reply ∷ more)) known.number ≡ Some done =
    ap (λ (es : List Event). slice_get (operations es) known.number) (sym (append_assoc events (Answer process reply ∷ []) more)) ∙ stays in
    subst (λ o. IsSomeAnd o (λ a. IsSomeAnd a.response (λ response. response.res ≡ length events))) (sym there) refl

-- it is among the calls
answered_there : (events : List Event) (process : ℕ) (known : OpenCall) (reply : Reply) → IsCallOf events process known
    → Contains (operations (events ++ Answer process reply ∷ [])) (with_answer events known.event known.call reply)
answered_there events process known reply h =
    let f = answered_at known.event (length events) reply in
    let own = begun known.call known.event in
    let (a, a_is, at, asks, pending) = open_call events process known.event known.call h.is_open in
    let is : a ≡ own = begun_is a known.call known.event asks at pending in
    let here : f own ≡ with_answer events known.event known.call reply = rw (eq-eqb known.event known.event refl) refl in
    subst (λ (l : List Operation). Contains l (with_answer events known.event known.call reply))
    (sym (answered_calls events process known.event known.call reply h.is_open))
    (subst (Contains (map f (operations events))) (ap f is ∙ here) (Contains-map f (operations events) a a_is))

-- ---- no order with the answer

abbrev HasOrder : KeptPast → Type 0
HasOrder past = IsLinearizable past.pairs past.left

-- of dead pasts none has an order
none_alive : (pasts : List KeptPast) → All IsDead pasts → Any HasOrder pasts → ⊥
none_alive pasts dead h = All-contains IsDead pasts h.1 dead (h.0, h.2, h.3) h.4

-- if a part has only dead pasts, there is no order
pub none_with_part : KeptPartsDecide → (start : Contents) (events : List Event) (place : ℕ) (part : EndedPart) → IsRising start
    → IsKeptBeside start place (operations events) part → All IsDead (pasts_of part) → IsLinearizable start (operations events) → ⊥
none_with_part decide start events place part rising beside dead has =
    let own : KeptPart = record { keys = covered part.ranges.items; pasts = pasts_of part } in
    none_alive (pasts_of part) dead
    (All-head PartGoesOn own beside.others ((decide start events place (own ∷ beside.others) rising beside.are_kept).0 has))

-- if no map answers the call so, there is no order
pub none_without_form : OrdersAreKeyedOrders → (start : Contents) (events : List Event) (process : ℕ) (known : OpenCall) (reply : Reply)
    → IsRising start → IsCallOf events process known → (MayReply known.call reply → ⊥)
    → IsLinearizable start (operations (events ++ Answer process reply ∷ [])) → ⊥
none_without_form keyed start events process known reply rising h never has =
    let then : List Event = events ++ Answer process reply ∷ [] in
    let forms = ((keyed start then rising).0 has).0 in
    never (form_from known.call reply (length events)
    (All-contains (λ a. HasForm a.call a.response) (operations then) (with_answer events known.event known.call reply) forms
    (answered_there events process known reply h)))

-- ---- a monitor's answer

module _ (start : Contents) (events : List Event) (m : MonitorView) (process : ℕ) (known : OpenCall) (h : IsFollowing start events m)
    (here : known_call m.open_calls process ≡ Some known) where
  pub is_call : IsCallOf events process known
  is_call = h.calls_open process known here

  pub accepted : m.parts.now < event_limit → answer_fault events process ≡ None
  accepted room = fine_answer events process (waits start events m process h known here) (omega (arith, room, h.events_are))

  pub answers : (reply : Reply) (more : List Event) → IsAnswerOf (events ++ Answer process reply ∷ more) known.number m.parts.now
  answers reply more = subst (IsAnswerOf (events ++ Answer process reply ∷ more) known.number) (sym h.events_are)
      (answer_is events process known is_call reply more)

  pub is_shaped : low_key known.call ≤ high_key known.call
  is_shaped =
      let (a, a_is, at, asks, pending) = open_call events process known.event known.call is_call.is_open in
      subst (λ (c : Call). low_key c ≤ high_key c) asks (All-contains IsShaped (operations events) a h.shaped a_is)

  module _ (prefixes : PrefixesHaveOrders) (reply : Reply)
      (none : IsLinearizable start (operations (events ++ Answer process reply ∷ [])) → ⊥) (more : List Event) where
    abbrev e : Event
    e = Answer process reply

    abbrev then : List Event
    then = events ++ Answer process reply ∷ []

    abbrev all : List Event
    all = events ++ e ∷ more

    with_answer_only : take (length events + 1) all ≡ then
    with_answer_only =
        let size : length then ≡ length events + 1 = omega (arith, length_push events e) in
        ap (take (length events + 1)) (sym (append_assoc events (e ∷ []) more)) ∙ take_at then more (length events + 1) size

    after : IsLinearizable start (operations (take (length events + 1) all)) → ⊥
    after has = none (subst (λ (es : List Event). IsLinearizable start (operations es)) with_answer_only has)

    pub goes_wrong : (IsLinearizable start (operations all) → ⊥) × GoesWrongAt (record { start = start; events = all }) known.number m.parts.now
    goes_wrong = (
      λ has. after (prefixes (record { start = start; events = all }) (length events + 1) has),
      subst (GoesWrongAt (record { start = start; events = all }) known.number) (sym h.events_are) (record {
        before = subst (λ (es : List Event). IsLinearizable start (operations es))
            (sym (take_at events (e ∷ more) (length events) refl)) h.linearizable;
        after = after;
        answer = answer_is events process known is_call reply more;
      }),
    )
