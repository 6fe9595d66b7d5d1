-- The first events of a history, and one invocation more.
use Rattle.follow_monitor.proofs.Common.{extended_at, Contains-at, slice_get-append_left, place-push, some_at, inv-at_least, process_of}
use Rattle.follow_monitor.proofs.Common.{is_invocation, events_of, events_alternate, is_shaped, is_small, AreHistoryEvents, operations_from}
use Rattle.follow_monitor.proofs.Common.{operations, is_completed, Call, Event, Invoke, Answer, Operation, Contents, KeepsPrecedence, IsLegal}
use Rattle.follow_monitor.proofs.Common.{calls_at, IsCompletedAt, IsOrder, IsLinearizable, ◌≡◌, ℕ, zero, ◌+◌, ◌<◌, ◌≤◌, List, [], ◌∷◌, ◌++◌, length}
use Rattle.follow_monitor.proofs.Common.{take, drop, refl, sym, ap, ◌∙◌, subst, arith, Bool, true, false, suc, cond, ◌==◌, Some, None, IsTrue, ⊎_elim}
use Rattle.follow_monitor.proofs.Common.{false≢true, and_parts, take_more, length-append, All-head, All-tail, All-weaker, All-contains, filter-append}
use Rattle.follow_monitor.proofs.Common.{list_all-append, sum_by-append, none-some, slice_get_within, get_or_from_slice_get, list_all, slice_get}
use Rattle.follow_monitor.proofs.Common.{IsSomeAnd, All}
use Rattle.std.proofs.Common.{take-append-drop}
use Rattle.events.proofs.OperationLemmas.{operations_from-invoke}
use Rattle.follow_monitor.proofs.CutLemmas.{kept, order_of_part}

-- the further calls of the whole are invoked after its first events
invoked_later : (i place : ℕ) (events more : List Event) (n : ℕ) (b : Operation) → place ≤ i + length events
    → slice_get (operations_from i events) n ≡ None
    → slice_get (operations_from i (events ++ more)) n ≡ Some b → place ≤ b.inv
invoked_later i place [] more n b within none here =
    let from_place : i ≤ b.inv =
    All-contains (λ a. i ≤ a.inv) (operations_from i more) b (inv-at_least i more) (Contains-at (operations_from i more) n b here) in
    omega arith
invoked_later i place (Answer p reply ∷ events) more n b within none here =
    invoked_later (suc i) place events more n b (omega arith) none here
invoked_later i place (Invoke p call ∷ events) more (suc n) b within none here =
    invoked_later (suc i) place events more n b (omega arith) none here
invoked_later i place (Invoke p call ∷ events) more zero b within none here = absurd (none-some _ (sym none))

-- what has an order has one without its last events
pub front_has_order : (start : Contents) (events more : List Event) → IsLinearizable start (operations (events ++ more))
    → IsLinearizable start (operations events)
front_has_order start events more (order, h) = (
  kept (operations events) (operations (events ++ more)) order,
  order_of_part (length events) start (operations events) (operations (events ++ more)) order
      (λ n a here. extended_at 0 (length events) events more n a (omega arith) here)
      (λ n b none here. invoked_later 0 (length events) events more n b (omega arith) none here) h,
)

pub prefix_has_order : (start : Contents) (events : List Event) (count : ℕ) → IsLinearizable start (operations events)
    → IsLinearizable start (operations (take count events))
prefix_has_order start events count h =
    front_has_order start (take count events) (drop count events)
    (subst (λ (all : List Event). IsLinearizable start (operations all)) (sym (take-append-drop count events)) h)

-- the front of what takes turns takes turns
events_alternate-front : (w : Bool) (xs ys : List Event) → events_alternate w (xs ++ ys) ≡ true → events_alternate w xs ≡ true
events_alternate-front w [] ys h = refl
events_alternate-front true (Invoke p call ∷ xs) ys h = h
events_alternate-front false (Invoke p call ∷ xs) ys h = events_alternate-front true xs ys h
events_alternate-front true (Answer p reply ∷ xs) ys h = events_alternate-front false xs ys h
events_alternate-front false (Answer p reply ∷ xs) ys h = h

-- the front of the events of a history are those of one
front_of_history : (events more : List Event) → AreHistoryEvents (events ++ more) → AreHistoryEvents events
front_of_history events more h = record {
  shaped = (and_parts (list_all is_shaped events) _ (sym (list_all-append is_shaped events more) ∙ h.shaped)).0;
  small = (and_parts (list_all is_small events) _ (sym (list_all-append is_small events more) ∙ h.small)).0;
  calls = omega (arith, h.calls, sum_by-append (λ x. cond (is_invocation x) 1 0) events more);
  well_formed = λ p. events_alternate-front false (events_of p events) (events_of p more)
      (subst (λ (own : List Event). events_alternate false own ≡ true) (filter-append (λ e. process_of e == p) events more) (h.well_formed p));
}

pub prefix_is_history : (events : List Event) (count : ℕ) → AreHistoryEvents events → AreHistoryEvents (take count events)
prefix_is_history events count h =
    front_of_history (take count events) (drop count events) (subst AreHistoryEvents (sym (take-append-drop count events)) h)

-- known numbers name the same calls in a list with one more
calls_at-more_calls : (calls : List Operation) (a : Operation) (order : List ℕ) → All (λ n. n < length calls) order
    → calls_at (calls ++ a ∷ []) order ≡ calls_at calls order
calls_at-more_calls calls a [] known = refl
calls_at-more_calls calls a (n ∷ order) known =
    rw (
      slice_get-append_left calls (a ∷ []) n (All-head (λ n. n < length calls) n order known),
      calls_at-more_calls calls a order
          (All-tail (λ n. n < length calls) n order known),
    ) refl

-- an order stays one where there is a pending call more
order_with_call : (start : Contents) (calls : List Operation) (call : Call) (inv : ℕ) (order : List ℕ) → IsOrder start calls order
    → IsOrder start (calls ++ record { call = call; inv = inv; response = None } ∷ []) order
order_with_call start calls call inv order h =
    let a : Operation = record { call = call; inv = inv; response = None } in
    let same = sym (calls_at-more_calls calls a order h.legal_order.known) in
    record {
      legal_order = record {
        known = All-weaker (λ n. n < length calls) (λ n. n < length (calls ++ a ∷ []))
            (λ n below. omega (arith, below, length-append calls (a ∷ []))) order
            h.legal_order.known;
        distinct = h.legal_order.distinct;
        precedence = subst KeepsPrecedence same h.legal_order.precedence;
        legal = subst (IsLegal start) same h.legal_order.legal;
      };
      complete = λ n completed. h.complete n (still n (some_at (slice_get (calls ++ a ∷ []) n) (λ b. IsTrue (is_completed b)) completed));
    }
  where
    still : (n : ℕ)
        → (b : Operation) × (slice_get (calls ++ record { call = call; inv = inv; response = None } ∷ []) n ≡ Some b)
        × IsTrue (is_completed b)
        → IsCompletedAt calls n
    still n (b, here, completed) =
        let a : Operation = record { call = call; inv = inv; response = None } in
        ⊎_elim (λ old. subst (λ o. IsSomeAnd o (λ c. IsTrue (is_completed c))) (sym old) completed)
        (λ new. absurd (false≢true (subst (λ (c : Operation). is_completed c ≡ true) new.1 completed))) (place-push calls a n b here)

pub invocation_keeps_order : (start : Contents) (events : List Event) (process : ℕ) (call : Call) → IsLinearizable start (operations events)
    → IsLinearizable start (operations (events ++ Invoke process call ∷ []))
invocation_keeps_order start events process call (order, h) = (
  order,
  subst (λ (calls : List Operation). IsOrder start calls order) (sym (operations_from-invoke 0 process call events))
      (order_with_call start (operations events) call (0 + length events) order h),
)

-- the first events up to an event and with it
pub take_with : (events : List Event) (place : ℕ) (e : Event) → slice_get events place ≡ Some e
    → take (place + 1) events ≡ take place events ++ e ∷ []
take_with events place e here =
    take_more events place e (slice_get_within events place e here)
    ∙ ap (λ (x : Event). take place events ++ x ∷ []) (get_or_from_slice_get events place e e here)
