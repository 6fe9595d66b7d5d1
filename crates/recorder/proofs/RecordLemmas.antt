-- A log grows by one event, in which nothing is wrong.
use Rattle.recorder.proofs.Common.{◌≡◌, ℕ, ◌+◌, ◌*◌, ◌<◌, ◌≤◌, Bool, true, false, not, cond, List, [], ◌∷◌, ◌++◌, length, None, refl, sym, ap, ◌∙◌}
use Rattle.recorder.proofs.Common.{arith, subst, All, length-append, map-append, All-nil, All-cons, All-head, All-tail, All-push, AllPairs-nil}
use Rattle.recorder.proofs.Common.{AllPairs-append, Event, process_of, is_invocation, AreHistoryEvents, call_count, eq-eqb, Stamped, events_in}
use Rattle.recorder.proofs.Common.{stamps_in, StampsRise, IsRecord}
use Rattle.events.specs.HistoryFaults.{has_open_call, fault_after}
use Rattle.events.proofs.HistoryLemmas.{AreHistoryEvents-push, has_open_call-push, call_count-push}

-- nothing is a history
pub no-events : AreHistoryEvents []
no-events = record { shaped = refl; small = refl; calls = omega arith; well_formed = λ p. refl }

paired-push : (b : Bool) (l begun : ℕ) → l + cond (not b) 1 0 ≡ 2 * begun → l + 1 + cond b 1 0 ≡ 2 * (begun + cond b 1 0)
paired-push true l begun h = omega arith
paired-push false l begun h = omega arith

all-below : (e : Stamped) (log : List Stamped) → All (λ x. x < e.0) (stamps_in log) → All (λ a. All (λ b. a.0 < b.0) (e ∷ [])) log
all-below e [] h = All-nil (λ a. All (λ b. a.0 < b.0) (e ∷ []))
all-below e (a ∷ log) h =
    All-cons (λ a. All (λ b. a.0 < b.0) (e ∷ [])) a log
    (All-cons (λ b. a.0 < b.0) e [] (All-head (λ x. x < e.0) a.0 (stamps_in log) h) (All-nil (λ b. a.0 < b.0)))
    (all-below e log (All-tail (λ x. x < e.0) a.0 (stamps_in log) h))

one-rises : (e : Stamped) → StampsRise (e ∷ [])
one-rises e = AllPairs-append (λ a b. a.0 < b.0) [] (e ∷ []) (AllPairs-nil (λ a b. a.0 < b.0)) (λ i j d lt within. absurd
    (omega arith)) (All-nil _)

module _ (process calls begun : ℕ) (has_open : Bool) (log : List Stamped) (r : IsRecord process calls begun has_open log) where
  module _ (e : Event) (turn : has_open_call process (events_in log) ≡ not (is_invocation e))
      (left : call_count (events_in log) + cond (is_invocation e) 1 0 ≤ calls) where
    was_open : has_open ≡ not (is_invocation e)
    was_open = r.waits ∙ turn

    paired : length log + cond (not (is_invocation e)) 1 0 ≡ 2 * begun
    paired = ap (λ b. length log + cond b 1 0) (sym was_open) ∙ r.paired

    -- the log with the event
    pub IsRecord-push : (n : ℕ) → process_of e ≡ process → fault_after (events_in log) e ≡ None → All (λ x. x < n) (stamps_in log)
        → IsRecord process calls (begun + cond (is_invocation e) 1 0) (is_invocation e) (log ++ (n, e) ∷ [])
    IsRecord-push n own sound above =
        let more : events_in (log ++ (n, e) ∷ []) ≡ events_in log ++ e ∷ [] = map-append (λ e. e.1) log ((n, e) ∷ []) in
        record {
          known = r.known;
          own = All-push (λ e. process_of e.1 ≡ process) log (n, e) r.own own;
          history = subst AreHistoryEvents (sym more) (AreHistoryEvents-push (events_in log) e r.history sound);
          waits = sym (ap (has_open_call process) more
              ∙ (has_open_call-push process (events_in log) e ∙ rw (eq-eqb (process_of e) process own) refl));
          begun_is = sym (ap call_count more ∙ (call_count-push (events_in log) e ∙ ap (λ k. k + cond (is_invocation e) 1 0)
              (sym r.begun_is)));
          few = let b = r.begun_is in omega arith;
          small = r.small;
          paired = omega (arith, length-append log ((n, e) ∷ []), paired-push (is_invocation e) (length log) begun paired);
          rises = AllPairs-append (λ a b. a.0 < b.0) log ((n, e) ∷ []) r.rises (one-rises (n, e)) (all-below (n, e) log above);
        }
