-- Which calls are open after an event, and which processes have an open call.
use Rattle.events.specs.declared.event.Reply.TheVariants as replies
use Rattle.follow_monitor.proofs.Common.{invoked_before, operations-invoke, none_of, same_call, begun_at, answered_at, Contains-map, Contains-first}
use Rattle.follow_monitor.proofs.Common.{Contains-later, slice_get-append_left, slice_get-middle, inv_rises, process_of, is_invocation, events_of}
use Rattle.follow_monitor.proofs.Common.{events_alternate, IsWellFormed, ends_waiting, has_open_call, response_from, operation_of, operations_from}
use Rattle.follow_monitor.proofs.Common.{operations, Call, Event, Invoke, Answer, Reply, Operation, Response, IsOpenCall, ◌≡◌, ◌≢◌, ℕ, zero, suc, ◌+◌}
use Rattle.follow_monitor.proofs.Common.{◌<◌, ◌==◌, Bool, true, false, not, List, [], ◌∷◌, ◌++◌, length, map, Option, Some, None, refl, sym, ap, ◌∙◌}
use Rattle.follow_monitor.proofs.Common.{subst, ⊎_elim, inl, inr, arith, and_parts, eq-eqb, eqb-true, ne_eqb, false≢true, Contains-append_left}
use Rattle.follow_monitor.proofs.Common.{Contains-append_right, filter-append, none-some, slice_get_within, nat_cmp, is_eq, ◌⊎◌, Contains, slice_get}
use Rattle.follow_monitor.proofs.CallLemmas.{open_call, answered_calls, invoked_later, answered_later, well_formed_on}

-- a query is at a process if it is the same number
pub at_process : (process other : ℕ) → is_eq (nat_cmp process other) ≡ (other == process)
at_process process other = grind arith

-- ---- processes with an open call

-- if it is a process's turn to answer, its last event is an invocation
waits_before : (w : Bool) (own : List Event) (p : ℕ) (reply : Reply) → events_alternate w (own ++ Answer p reply ∷ []) ≡ true → ends_waiting w own ≡ true
waits_before w [] p reply turns = (and_parts w true turns).0
waits_before w (Invoke q call ∷ own) p reply turns =
    waits_before true own p reply (and_parts (not w) (events_alternate true (own ++ Answer p reply ∷ [])) turns).1
waits_before w (Answer q given ∷ own) p reply turns =
    waits_before false own p reply (and_parts w (events_alternate false (own ++ Answer p reply ∷ [])) turns).1

own_push : (p : ℕ) (events : List Event) (reply : Reply) → events_of p (events ++ Answer p reply ∷ []) ≡ events_of p events ++ Answer p reply ∷ []
own_push p events reply =
    filter-append (λ e. process_of e == p) events (Answer p reply ∷ [])
    ∙ ap (λ (l : List Event). events_of p events ++ l) (rw (eq-eqb p p refl) refl)

-- a process with an open call has one
pub is_open : (events : List Event) (process place : ℕ) (call : Call) → IsOpenCall events process place call → has_open_call process events ≡ true
is_open events process place call h =
    waits_before false (events_of process events) process replies.None
    (subst (λ (l : List Event). events_alternate false l ≡ true) (own_push process events replies.None)
    (well_formed_on events process place call replies.None h process))

-- if no event of a process is left, none answers
none_found : (p i : ℕ) (events : List Event) → events_of p events ≡ [] → response_from p i events ≡ None
none_found p i [] none = refl
none_found p i (Invoke q call ∷ events) none = none_found p (suc i) events (none_of p replies.None (Invoke q call) events none).1
none_found p i (Answer q given ∷ events) none =
    let parts = none_of p replies.None (Answer q given) events none in rw (ne_eqb q p parts.0) (none_found p (suc i) events parts.1)

-- an open call of a process among events from a place on
abbrev OpenFrom : ℕ → ℕ → List Event → Type 0
OpenFrom p i events = (j : ℕ) × ((call : Call) × (slice_get events j ≡ Some (Invoke p call))
    × Contains (operations_from i events) (begun_at (i + j) call))

later_call : (i : ℕ) (e : Event) (events : List Event) (a : Operation) → Contains (operations_from (suc i) events) a
    → Contains (operations_from i (e ∷ events)) a
later_call i (Invoke q call) events a is = Contains-later (operation_of q call i events) (operations_from (suc i) events) a is
later_call i (Answer q given) events a is = is

open_later : (p i : ℕ) (e : Event) (events : List Event) → OpenFrom p (suc i) events → OpenFrom p i (e ∷ events)
open_later p i e events (j, (call, here, is)) =
    let same : suc i + j ≡ i + suc j = omega arith in (
      suc j,
      (
        call,
        here,
        subst (λ (k : ℕ). Contains (operations_from i (e ∷ events)) (begun_at k call)) same
            (later_call i e events (begun_at (suc i + j) call) is),
      ),
    )

open_first : (p i : ℕ) (e : Event) (events : List Event) → process_of e ≡ p → is_invocation e ≡ true → events_of p events ≡ []
    → OpenFrom p i (e ∷ events)
open_first p i (Answer q given) events own is none = absurd (false≢true is)
open_first p i (Invoke q call) events own is none =
    let place : i ≡ i + 0 = omega arith in
    let pending : response_from q (suc i) events ≡ None = none_found q (suc i) events (subst (λ (n : ℕ). events_of n events ≡ []) (sym own) none) in
    let new : Operation = operation_of q call i events in
    let same : new ≡ begun_at (i + 0) call =
    ap (λ (o : Option Response). record { call = call; inv = i; response = o }) pending ∙ ap (λ (k : ℕ). begun_at k call) place in (
      zero,
      (
        call,
        ap (λ (n : ℕ). Some (Invoke n call)) own,
        subst (Contains (operations_from i (Invoke q call ∷ events))) same (Contains-first new (operations_from (suc i) events)),
      ),
    )

open_or_none : (p i : ℕ) (events : List Event) (w : Bool) → ends_waiting w (events_of p events) ≡ true
    → ((w ≡ true) × (events_of p events ≡ [])) ⊎ OpenFrom p i events
open_or_none p i [] w h = inl (h, refl)
open_or_none p i (e ∷ events) w h = by_test (open_or_none p (suc i) events) (process_of e == p) refl
  where
    by_test : ((w : Bool) → ends_waiting w (events_of p events) ≡ true → ((w ≡ true) × (events_of p events ≡ [])) ⊎ OpenFrom p (suc i) events)
        → (t : Bool) → (process_of e == p) ≡ t → ((w ≡ true) × (events_of p (e ∷ events) ≡ [])) ⊎ OpenFrom p i (e ∷ events)
    by_test rest false same =
        let own : events_of p (e ∷ events) ≡ events_of p events = rw same refl in
        ⊎_elim (λ none. inl (none.0, own ∙ none.1)) (λ there. inr (open_later p i e events there))
        (rest w (subst (λ (l : List Event). ends_waiting w l ≡ true) own h))
    by_test rest true same =
        let own : events_of p (e ∷ events) ≡ e ∷ events_of p events = rw same refl in
        ⊎_elim (λ last. inr (open_first p i e events (eqb-true (process_of e) p same) last.0 last.1)) (λ there. inr (open_later p i e events there))
        (rest (is_invocation e) (subst (λ (l : List Event). ends_waiting w l ≡ true) own h))

-- a process that has an open call has it at a place
pub open_of : (events : List Event) (process : ℕ) → IsWellFormed events → has_open_call process events ≡ true
    → (place : ℕ) × ((call : Call) × IsOpenCall events process place call)
open_of events process well h = ⊎_elim
    (λ none. absurd (false≢true none.0))
    (λ (j, (call, here, is)). (
      j,
      (
        call,
        record {
          well_formed = well;
          invoked = here;
          pending = λ a a_is at. ap (λ (b : Operation). b.response)
              (same_call (operations events) a (begun_at (0 + j) call) (inv_rises events) a_is is (omega (arith, at)));
        },
      ),
    ))
    (open_or_none process 0 events false h)

-- ---- after an invocation

module _ (events : List Event) (process : ℕ) (call : Call) (well : IsWellFormed (events ++ Invoke process call ∷ [])) where
  abbrev e : Event
  e = Invoke process call

  abbrev then : List Event
  then = events ++ Invoke process call ∷ []

  pub call_on : (a : Operation) → Contains (operations events) a → Contains (operations then) a
  call_on a is =
      subst (λ (l : List Operation). Contains l a) (sym (operations-invoke events process call))
      (Contains-append_left (operations events) (begun_at (length events) call ∷ []) a is)

  pub open_on : (p place : ℕ) (other : Call) → IsOpenCall events p place other → IsOpenCall then p place other
  open_on p place other h =
      record {
        well_formed = well;
        invoked = slice_get-append_left events (e ∷ []) place (slice_get_within events place (Invoke p other) h.invoked) ∙ h.invoked;
        pending = λ a is at. ⊎_elim (λ old. h.pending a old at) (λ new. ap (λ (b : Operation). b.response) new) (invoked_later events process call a is);
      }

  pub opened : IsOpenCall then process (length events) call
  opened = record {
    well_formed = well;
    invoked = slice_get-middle events e [];
    pending = λ a is at. ⊎_elim
        (λ old. let less = invoked_before 0 events a old in absurd (omega (arith, less, at)))
        (λ new. ap (λ (b : Operation). b.response) new)
        (invoked_later events process call a is);
  }

  pub open_before : IsWellFormed events → (p place : ℕ) (other : Call) → IsOpenCall then p place other
      → IsOpenCall events p place other ⊎ ((p ≡ process) × (place ≡ length events) × (other ≡ call))
  open_before formed p place other h =
      let (b, b_is, at, asks, pending) = open_call then p place other h in
      ⊎_elim
      (λ old.
      let less = invoked_before 0 events b old in
      let within : place < length events = omega (arith, at, less) in
      inl (record {
        well_formed = formed;
        invoked = sym (slice_get-append_left events (e ∷ []) place within) ∙ h.invoked;
        pending = λ a a_is here. h.pending a (call_on a a_is) here;
      }))
      (λ new.
      let last : place ≡ length events = sym at ∙ ap (λ (a : Operation). a.inv) new in
      let same : Some (Invoke process call) ≡ Some (Invoke p other) =
      sym (slice_get-middle events e []) ∙ (ap (slice_get then) (sym last) ∙ h.invoked) in
      inr (cc, last, cc))
      (invoked_later events process call b b_is)

-- ---- after the answer of an open call

module _ (events : List Event) (process name : ℕ) (call : Call) (reply : Reply) (own : IsOpenCall events process name call) where
  abbrev answered : List Event
  answered = events ++ Answer process reply ∷ []

  pub calls_are : operations answered ≡ map (answered_at name (length events) reply) (operations events)
  calls_are = answered_calls events process name call reply own

  -- another call stays as it is
  pub same_at : (a : Operation) → a.inv ≢ name → answered_at name (length events) reply a ≡ a
  same_at a apart = rw (ne_eqb a.inv name apart) refl

  pub call_stays : (a : Operation) → Contains (operations events) a → a.inv ≢ name → Contains (operations answered) a
  call_stays a is apart =
      subst (λ (l : List Operation). Contains l a) (sym calls_are)
      (subst (Contains (map (answered_at name (length events) reply) (operations events))) (same_at a apart)
      (Contains-map (answered_at name (length events) reply) (operations events) a is))

  -- a call that is open after the answer was open, and is another one
  pub pending_then : (a : Operation) → Contains (operations answered) a → a.response ≡ None → Contains (operations events) a × (a.inv ≢ name)
  pending_then a is pending = ⊎_elim
      (λ same. absurd (none-some (record { res = length events; reply = reply }) (sym pending ∙ ap (λ (b : Operation). b.response) same)))
      (λ old. old)
      (answered_later events process name call reply a own is)

  -- those of other processes stay open
  pub open_after : (p place : ℕ) (other : Call) → p ≢ process → IsOpenCall events p place other → IsOpenCall answered p place other
  open_after p place other apart h =
      let elsewhere : place ≢ name = λ same.
      let both : Some (Invoke p other) ≡ Some (Invoke process call) = sym h.invoked ∙ (ap (slice_get events) same ∙ own.invoked) in
      let one : p ≡ process = cc in apart one in
      record {
        well_formed = well_formed_on events process name call reply own;
        invoked = slice_get-append_left events (Answer process reply ∷ []) place (slice_get_within events place (Invoke p other) h.invoked) ∙ h.invoked;
        pending = λ a is at. ⊎_elim
            (λ done. absurd (elsewhere (sym at ∙ ap (λ (b : Operation). b.inv) done)))
            (λ old. h.pending a old.0 at)
            (answered_later events process name call reply a own is);
      }

  pub open_still : (p place : ℕ) (other : Call) → IsOpenCall answered p place other → IsOpenCall events p place other × (place ≢ name)
  open_still p place other h =
      let (b, b_is, at, asks, pending) = open_call answered p place other h in
      let (old, apart) = pending_then b b_is pending in
      let less = invoked_before 0 events b old in
      let within : place < length events = omega (arith, at, less) in (
        record {
          well_formed = own.well_formed;
          invoked = sym (slice_get-append_left events (Answer process reply ∷ []) place within) ∙ h.invoked;
          pending = λ a a_is here. h.pending a (call_stays a a_is (λ same. apart (at ∙ (sym here ∙ same)))) here;
        },
        λ same. apart (at ∙ same),
      )
