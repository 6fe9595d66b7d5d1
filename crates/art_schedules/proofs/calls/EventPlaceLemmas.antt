-- The calls of a list of events, by the places of their invocations and responses.
use Rattle.art_schedules.proofs.Common.{◌≡◌, ℕ, zero, suc, ◌+◌, ◌<◌, ◌≤◌, Bool, true, false, cond, List, [], ◌∷◌, refl, sym, ◌∙◌, subst, arith}
use Rattle.art_schedules.proofs.Common.{eqb-true, eq-eqb, slice_get, false≢true, none-some, same_Some, Call, Event, Invoke, Answer, Reply}
use Rattle.art_schedules.proofs.Common.{Operation, Response, operations}
use Rattle.std.proofs.Common.{◌==◌, Option, Some, None}
use Rattle.events.specs.Operations.{response_from, operation_of, operations_from}

-- this event is at place k of events that begin at place i
abbrev HasAt : ℕ → List Event → ℕ → Event → Type 0
HasAt i events k e = (j : ℕ) × (k ≡ i + j) × (slice_get events j ≡ Some e)

later : (i : ℕ) (x : Event) (events : List Event) (k : ℕ) (e : Event) → HasAt (suc i) events k e → HasAt i (x ∷ events) k e
later i x events k e (j, is, here) = (suc j, omega arith, here)

earlier : (i : ℕ) (x : Event) (events : List Event) (k : ℕ) (e : Event) → i < k → HasAt i (x ∷ events) k e → HasAt (suc i) events k e
earlier i x events k e less (zero, is, here) = absurd (omega arith)
earlier i x events k e less (suc j, is, here) = (j, omega arith, here)

at_first : (i : ℕ) (x : Event) (events : List Event) → HasAt i (x ∷ events) i x
at_first i x events = (0, omega arith, refl)

not_before : (i : ℕ) (events : List Event) (k : ℕ) (e : Event) → HasAt i events k e → i ≤ k
not_before i events k e (j, is, here) = omega arith

-- the first response of a process
abbrev IsFirstAnswer : ℕ → ℕ → List Event → Option Response → Type 0
IsFirstAnswer p i events None = (k : ℕ) (reply : Reply) → HasAt i events k (Answer p reply) → ⊥
IsFirstAnswer p i events (Some r) = HasAt i events r.res (Answer p r.reply)
    × ((k : ℕ) (reply : Reply) → k < r.res → HasAt i events k (Answer p reply) → ⊥)

-- the first response of a process after a place
abbrev pub IsNextAnswer : ℕ → ℕ → List Event → ℕ → Option Response → Type 0
IsNextAnswer p i events place None = (k : ℕ) (reply : Reply) → place < k → HasAt i events k (Answer p reply) → ⊥
IsNextAnswer p i events place (Some r) =
    (place < r.res) × HasAt i events r.res (Answer p r.reply)
    × ((k : ℕ) (reply : Reply) → place < k → k < r.res → HasAt i events k (Answer p reply) → ⊥)

no_answer : (i p q : ℕ) (call : Call) (events : List Event) (k : ℕ) (reply : Reply)
    → HasAt i (Invoke q call ∷ events) k (Answer p reply) → i < k
no_answer i p q call events k reply (zero, is, here) = cc
no_answer i p q call events k reply (suc j, is, here) = omega arith

other_answer : (i p q : ℕ) (answer : Reply) (events : List Event) (k : ℕ) (reply : Reply) → (q == p) ≡ false
    → HasAt i (Answer q answer ∷ events) k (Answer p reply) → i < k
other_answer i p q answer events k reply other (zero, is, here) = absurd (false≢true (sym other ∙ eq-eqb q p (cc here)))
other_answer i p q answer events k reply other (suc j, is, here) = omega arith

first_answer : (p i : ℕ) (events : List Event) → IsFirstAnswer p i events (response_from p i events)
first_answer p i [] = λ k reply (j, is, here). none-some (Answer p reply) here
first_answer p i (Invoke q call ∷ events) = goes_on (response_from p (suc i) events) (first_answer p (suc i) events)
  where
    goes_on : (o : Option Response) → IsFirstAnswer p (suc i) events o → IsFirstAnswer p i (Invoke q call ∷ events) o
    goes_on None h = λ k reply is. h k reply (earlier i (Invoke q call) events k (Answer p reply)
        (no_answer i p q call events k reply is) is)
    goes_on (Some r) h = (
      later i (Invoke q call) events r.res (Answer p r.reply) h.0,
      λ k reply less is. h.1 k reply less (earlier i (Invoke q call) events k (Answer p reply) (no_answer i p q call events k reply is) is),
    )
first_answer p i (Answer q answer ∷ events) = by_test (q == p) refl (response_from p (suc i) events) (first_answer p (suc i) events)
  where
    by_test : (b : Bool) → (q == p) ≡ b → (o : Option Response) → IsFirstAnswer p (suc i) events o
        → IsFirstAnswer p i (Answer q answer ∷ events) (cond b (Some (record { res = i; reply = answer })) o)
    by_test true own o h = (
      subst (λ r. HasAt i (Answer q answer ∷ events) i (Answer r answer)) (eqb-true q p own) (at_first i (Answer q answer) events),
      λ k reply less is. let up = not_before i (Answer q answer ∷ events) k (Answer p reply) is in omega arith,
    )
    by_test false other None h =
        λ k reply is. h k reply (earlier i (Answer q answer) events k (Answer p reply) (other_answer i p q answer events k
        reply other is) is)
    by_test false other (Some r) h = (
      later i (Answer q answer) events r.res (Answer p r.reply) h.0,
      λ k reply less is. h.1 k reply less (earlier i (Answer q answer) events k (Answer p reply) (other_answer i p q answer events k
          reply other is) is),
    )

-- what comes after a place of the rest comes after it in the whole
next_later : (p i : ℕ) (x : Event) (events : List Event) (place : ℕ) (o : Option Response) → i < place
    → IsNextAnswer p (suc i) events place o
    → IsNextAnswer p i (x ∷ events) place o
next_later p i x events place None up h = λ k reply less is. h k reply less (earlier i x events k (Answer p reply) (omega arith) is)
next_later p i x events place (Some r) up h = (
  h.0,
  later i x events r.res (Answer p r.reply) h.1,
  λ k reply less until is. h.2 k reply less until (earlier i x events k (Answer p reply) (omega arith) is),
)

-- the first response of the rest is the first one after the first place
next_first : (p i : ℕ) (x : Event) (events : List Event) (o : Option Response) → IsFirstAnswer p (suc i) events o
    → IsNextAnswer p i (x ∷ events) i o
next_first p i x events None h = λ k reply less is. h k reply (earlier i x events k (Answer p reply) less is)
next_first p i x events (Some r) h = (
  let up = not_before (suc i) events r.res (Answer p r.reply) h.0 in omega arith,
  later i x events r.res (Answer p r.reply) h.0,
  λ k reply less until is. h.1 k reply until (earlier i x events k (Answer p reply) less is),
)

-- a call of events: the place of its invocation, its process, and its response
pub record IsCallAt (i : ℕ) (events : List Event) (a : Operation) : Type 0 where
  pub process : ℕ
  pub invoked : HasAt i events a.inv (Invoke process a.call)
  pub response : IsNextAnswer process i events a.inv a.response

call_from : (i : ℕ) (events : List Event) (n : ℕ) (a : Operation) → slice_get (operations_from i events) n ≡ Some a → IsCallAt i events a
call_from i [] n a here = absurd (none-some a here)
call_from i (Answer p reply ∷ events) n a here =
    let c = call_from (suc i) events n a here in
    let up = not_before (suc i) events a.inv (Invoke c.process a.call) c.invoked in
    record {
      process = c.process;
      invoked = later i (Answer p reply) events a.inv (Invoke c.process a.call) c.invoked;
      response = next_later c.process i (Answer p reply) events a.inv a.response (omega arith) c.response;
    }
call_from i (Invoke p call ∷ events) (suc n) a here =
    let c = call_from (suc i) events n a here in
    let up = not_before (suc i) events a.inv (Invoke c.process a.call) c.invoked in
    record {
      process = c.process;
      invoked = later i (Invoke p call) events a.inv (Invoke c.process a.call) c.invoked;
      response = next_later c.process i (Invoke p call) events a.inv a.response (omega arith) c.response;
    }
call_from i (Invoke p call ∷ events) zero a here =
    subst (IsCallAt i (Invoke p call ∷ events)) (same_Some (operation_of p call i events) a here) (record {
      process = p;
      invoked = at_first i (Invoke p call) events;
      response = next_first p i (Invoke p call) events (response_from p (suc i) events) (first_answer p (suc i) events);
    })

pub call_at : (events : List Event) (n : ℕ) (a : Operation) → slice_get (operations events) n ≡ Some a → IsCallAt 0 events a
call_at events n a here = call_from 0 events n a here

-- each invocation is that of a call
invocation_from : (i : ℕ) (events : List Event) (k p : ℕ) (call : Call) → HasAt i events k (Invoke p call)
    → (n : ℕ) × (a : Operation) × (slice_get (operations_from i events) n ≡ Some a) × (a.inv ≡ k)
invocation_from i [] k p call (j, is, here) = absurd (none-some (Invoke p call) here)
invocation_from i (Answer q reply ∷ events) k p call (zero, is, here) = cc
invocation_from i (Answer q reply ∷ events) k p call (suc j, is, here) = invocation_from (suc i) events k p call (j, omega arith, here)
invocation_from i (Invoke q other ∷ events) k p call (zero, is, here) = (0, operation_of q other i events, refl, omega arith)
invocation_from i (Invoke q other ∷ events) k p call (suc j, is, here) =
    let (n, a, at, inv) = invocation_from (suc i) events k p call (j, omega arith, here) in (suc n, a, at, inv)

pub invocation_at : (events : List Event) (k p : ℕ) (call : Call) → slice_get events k ≡ Some (Invoke p call)
    → (n : ℕ) × (a : Operation) × (slice_get (operations events) n ≡ Some a) × (a.inv ≡ k)
invocation_at events k p call here = invocation_from 0 events k p call (k, omega arith, here)

-- places of events that begin at 0
pub at_place : (events : List Event) (k : ℕ) (e : Event) → HasAt 0 events k e → slice_get events k ≡ Some e
at_place events k e (j, is, here) = subst (λ i. slice_get events i ≡ Some e) (omega arith) here

pub from_place : (events : List Event) (k : ℕ) (e : Event) → slice_get events k ≡ Some e → HasAt 0 events k e
from_place events k e here = (k, omega arith, here)
