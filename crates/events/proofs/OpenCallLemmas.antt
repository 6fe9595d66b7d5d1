-- What is kept of the events so far, when one more is taken.
use Rattle.events.proofs.Common.{◌≡◌, ℕ, ◌+◌, ◌<◌, ◌≢◌, Bool, false, cond, nat_lt, List, [], ◌∷◌, ◌++◌, length, get_or, set, refl, sym, ◌∙◌, arith}
use Rattle.events.proofs.Common.{get_or-set_other, get_or-set_same, inl, inr, cases_lt, le-ltb, eqb_tells, Event, Invoke, Answer, process_limit}
use Rattle.events.proofs.Common.{process_of, is_invocation, call_count, has_open_call, event_fault, fault_after, AreOpenAfter}
use Rattle.events.specs.declared.open_calls.OpenCalls.{OpenCalls}
use Rattle.events.proofs.HistoryLemmas.{has_open_call-push, call_count-push}

flags_at : (flags : List Bool) (before : List Event) (e : Event) (p : ℕ) → process_of e < length flags
    → get_or flags p false ≡ has_open_call p before
    → get_or (set flags (process_of e) (is_invocation e)) p false ≡ has_open_call p (before ++ e ∷ [])
flags_at flags before e p within was = elim (eqb_tells (process_of e) p) [
  | inl h ↦ rw (has_open_call-push p before e, h.0) (rw (sym h.1) (get_or-set_same flags (process_of e) (is_invocation e) false within))
  | inr h ↦ let other : p ≢ process_of e = λ same. h.1 (sym same) in
      rw (has_open_call-push p before e, h.0) (get_or-set_other flags (process_of e) p (is_invocation e) false other ∙ was)
]

-- the turns after one event more
pub AreOpenAfter-push : (before : List Event) (e : Event) (turns after : OpenCalls) → AreOpenAfter before turns
    → length turns.has_open ≡ process_limit
    → process_of e < process_limit
    → after.has_open ≡ set turns.has_open (process_of e) (is_invocation e) → after.calls ≡ turns.calls + cond (is_invocation e) 1 0
    → AreOpenAfter (before ++ e ∷ []) after
AreOpenAfter-push before e turns after h size within flags calls = record {
  calls = rw (calls, call_count-push before e, h.calls) refl;
  has_open = λ p below. rw flags (flags_at turns.has_open before e p (omega arith) (h.has_open p below));
}

-- a process that is not known makes its event too many, whether it has an open call or not
unknown_process : (place calls : ℕ) (open_first open_second : Bool) (e : Event) → nat_lt (process_of e) process_limit ≡ false
    → event_fault place calls open_first e ≡ event_fault place calls open_second e
unknown_process place calls open_first open_second (Invoke p call) unknown = rw unknown refl
unknown_process place calls open_first open_second (Answer p reply) unknown = rw unknown refl

-- what is wrong with an event after others is seen by what is kept of those
pub fault_after-open : (before : List Event) (turns : OpenCalls) (e : Event) → AreOpenAfter before turns
    → event_fault (length before) turns.calls (get_or turns.has_open (process_of e) false) e ≡ fault_after before e
fault_after-open before turns e h = elim (cases_lt (process_of e) process_limit) [
  | inl known ↦ rw (h.calls, h.has_open (process_of e) known) refl
  | inr unknown ↦ rw h.calls (unknown_process (length before) (call_count before) _ _ e (le-ltb (process_of e) process_limit unknown))
]
