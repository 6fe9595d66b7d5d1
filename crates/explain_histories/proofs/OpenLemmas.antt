-- Which processes have an open call, after one event more.
use Rattle.explain_histories.proofs.Common.{◌≡◌, ◌≢◌, ℕ, ◌==◌, List, [], ◌∷◌, ◌++◌, refl, ap, ◌∙◌, append_assoc, slice_get, IsSomeAnd, eq-eqb, ne_eqb}
use Rattle.explain_histories.proofs.Common.{filter-append, Event, Invoke, process_of, is_invocation, events_of, has_open_call, operations}
use Rattle.explain_histories.proofs.Common.{has_open_call-push, IsOpenAt}
use Rattle.std.specs.Prelude.{None, length}

-- an event of another process leaves the open call of a process
pub other_open : (p : ℕ) (events : List Event) (e : Event) → process_of e ≢ p → has_open_call p (events ++ e ∷ []) ≡ has_open_call p events
other_open p events e other = has_open_call-push p events e ∙ rw (ne_eqb (process_of e) p other) refl

-- the process of an event has an open call after it exactly if the event is an invocation
pub own_open : (events : List Event) (e : Event) → has_open_call (process_of e) (events ++ e ∷ []) ≡ is_invocation e
own_open events e = has_open_call-push (process_of e) events e ∙ rw (eq-eqb (process_of e) (process_of e) refl) refl

-- the open call of another process is open at its place still
pub open_on : (events : List Event) (e : Event) (number process : ℕ) → process_of e ≢ process → (h : IsOpenAt events number process)
    → IsSomeAnd (slice_get (operations (events ++ e ∷ [])) number) (λ c. (c.inv ≡ length h.before) × (c.response ≡ None))
    → IsOpenAt (events ++ e ∷ []) number process
open_on events e number process other h is_call = record {
  before = h.before;
  call = h.call;
  between = h.between ++ e ∷ [];
  parts = ap (λ (l : List Event). l ++ e ∷ []) h.parts ∙ append_assoc h.before (Invoke process h.call ∷ h.between) (e ∷ []);
  silent = filter-append (λ (e : Event). process_of e == process) h.between (e ∷ [])
      ∙ (ap (λ (l : List Event). l ++ events_of process (e ∷ [])) h.silent ∙ rw (ne_eqb (process_of e) process other) refl);
  is_call = is_call;
}
