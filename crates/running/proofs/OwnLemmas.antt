-- In what a state logs, the events of each process are those of its log.
use Rattle.running.proofs.Common.{◌≡◌, ℕ, zero, suc, ◌<◌, ◌==◌, true, false, cond, inl, inr, List, [], ◌∷◌, ◌++◌, length, map, sym, refl, ap, subst}
use Rattle.running.proofs.Common.{◌∙◌, arith, eq-eqb, ne_eqb, replicate, Option, Some, None, All, slice_get, slice_index, slice_set, flat_map}
use Rattle.running.proofs.Common.{range_with_len, length-set, map-set, map-append, append-nil, All-nil, All-head, All-tail, All-push, filter-append}
use Rattle.running.proofs.Common.{slice_get_within, same_Some, none-some, Invoke, Answer, Stamped, events_by_stamp, history_of_logs, opening, Process}
use Rattle.running.proofs.Common.{Plan, State, Move, Invokes, Makes, Responds, moved, word_of_move, after_move, idle, opened, history_of, Gives}
use Rattle.running.proofs.Common.{run_on, IsPlan, IsClocked, run-on-append, clocks-are-ahead, logged, map-same, changed-at, is-moved, nowhere}
use Rattle.running.proofs.Common.{no-logs, all-idle, opening-length, start-clock, no-start, Setup, View, Numbered, numbers_of, IsIn, state_of}
use Rattle.running.proofs.Common.{HasOwnEvents}
use Rattle.events.specs.declared.event.Event.{Event}
use Rattle.events.specs.Events.{process_of, events_of}
use Rattle.events.proofs.GrowthLemmas.{AreBelow, AreBelow-append, history-push}
use Rattle.art_core.specs.Core.{step}
use Rattle.running.proofs.SharedStepLemmas.{all-has}

abbrev logs_of : List Process → List (List Stamped)
logs_of ps = map (λ q. q.log) ps

abbrev events_in : Process → List Event
events_in q = map (λ e. e.1) q.log

-- what is logged of each process is its log, and there is no other process
pub record AreOwned (ps : List Process) : Type 0 where
  pub each : (i : ℕ) (q : Process) → slice_get ps i ≡ Some q → events_of i (logged ps) ≡ events_in q
  pub known : All (λ e. process_of e < length ps) (logged ps)

-- One process changes.

get-log : (ps : List Process) (p : ℕ) (q : Process) → slice_get ps p ≡ Some q → slice_get (logs_of ps) p ≡ Some q.log
get-log [] p q e = absurd (none-some q e)
get-log (x ∷ xs) zero q e = ap (λ q. Some q.log) (same_Some x q e)
get-log (x ∷ xs) (suc p) q e = get-log xs p q e

module _ (ps : List Process) (p : ℕ) (q q' : Process) (here : slice_get ps p ≡ Some q) (o : AreOwned ps) where
  same-log : q'.log ≡ q.log → AreOwned (slice_set ps p q')
  same-log log =
      let same : logged (slice_set ps p q') ≡ logged ps = ap history_of_logs (map-same (λ q. q.log) ps p q q' here log) in
      record {
        each = λ i r at. ap (events_of i) same ∙ elim (changed-at ps p q' i r at) [
          | inl t ↦ subst (λ j. events_of j (logged ps) ≡ events_in r) (sym t.0)
              (o.each p q here ∙ sym (ap events_in t.1 ∙ ap (map (λ (e : Stamped). e.1)) log))
          | inr t ↦ o.each i r t.1
        ];
        known = subst (λ n. All (λ e. process_of e < n) (logged (slice_set ps p q'))) (sym (length-set ps p q'))
            (subst (All (λ e. process_of e < length ps)) (sym same) o.known);
      }

  one-more : (n : ℕ) (e : Event) → process_of e ≡ p → q'.log ≡ q.log ++ (n, e) ∷ [] → AreBelow n (flat_map (λ log. log) (logs_of ps))
      → AreOwned (slice_set ps p q')
  one-more n e its log below = record {
    each = λ i r at. kept i ∙ elim (changed-at ps p q' i r at) [
      | inl t ↦ let own : (process_of e == i) ≡ true = eq-eqb (process_of e) i (its ∙ sym t.0) in
          ap (λ b. events_of i (logged ps) ++ cond b (e ∷ []) []) own
          ∙ (ap (λ es. es ++ e ∷ []) (subst (λ j. events_of j (logged ps) ≡ events_in q) (sym t.0) (o.each p q here))
          ∙ (sym (map-append (λ (e : Stamped). e.1) q.log ((n, e) ∷ [])) ∙ sym (ap events_in t.1 ∙ ap (map (λ (e : Stamped). e.1)) log)))
      | inr t ↦ let other : (process_of e == i) ≡ false = ne_eqb (process_of e) i (λ same. t.0 (sym same ∙ its)) in
          ap (λ b. events_of i (logged ps) ++ cond b (e ∷ []) []) other ∙ (append-nil (events_of i (logged ps)) ∙ o.each i r t.1)
    ];
    known = subst (λ n. All (λ e. process_of e < n) (logged (slice_set ps p q'))) (sym (length-set ps p q'))
        (subst (All (λ e. process_of e < length ps)) (sym more)
        (All-push (λ e. process_of e < length ps) (logged ps) e o.known
        (let within = slice_get_within ps p q here in omega (arith, its, within))));
  }
    where
      more : logged (slice_set ps p q') ≡ logged ps ++ e ∷ []
      more = ap history_of_logs (map-set (λ q. q.log) ps p q' ∙ ap (λ l. slice_set (logs_of ps) p l) log)
          ∙ history-push (logs_of ps) p q.log (n, e) (get-log ps p q here) below

      kept : (i : ℕ) → events_of i (logged (slice_set ps p q')) ≡ events_of i (logged ps) ++ events_of i (e ∷ [])
      kept i = ap (events_of i) more ∙ filter-append (λ e. process_of e == i) (logged ps) (e ∷ [])

-- Each step of a schedule keeps it.

logs-below : (n : ℕ) (ps : List Process) → All (λ q. All (λ (e : Stamped). e.0 < n) q.log) ps
    → AreBelow n (flat_map (λ log. log) (logs_of ps))
logs-below n [] h = tt
logs-below n (q ∷ ps) h =
    AreBelow-append n q.log (flat_map (λ log. log) (logs_of ps)) (one q.log (All-head (λ q. All (λ (e : Stamped). e.0 < n) q.log) q ps h))
    (logs-below n ps (All-tail (λ q. All (λ (e : Stamped). e.0 < n) q.log) q ps h))
  where
    one : (log : List Stamped) → All (λ (e : Stamped). e.0 < n) log → AreBelow n log
    one [] h = tt
    one (e ∷ log) h = (All-head (λ (e : Stamped). e.0 < n) e log h, one log (All-tail (λ (e : Stamped). e.0 < n) e log h))

owned-move : (s : State) (p : ℕ) (q : Process) (m : Move) → slice_get s.processes p ≡ Some q → IsClocked s → AreOwned s.processes
    → AreOwned (moved s p q m).processes
owned-move s p q (Invokes call) here c o =
    let n = slice_index s.words 0 in
    one-more s.processes p q (after_move p (Invokes call) n q) here o n (Invoke p call) refl refl (logs-below n s.processes c.stamps)
owned-move s p q (Makes a) here c o =
    same-log s.processes p q (after_move p (Makes a) (slice_index s.words (word_of_move (Makes a))) q) here o refl
owned-move s p q (Responds reply) here c o =
    let n = slice_index s.words 0 in
    one-more s.processes p q (after_move p (Responds reply) n q) here o n (Answer p reply) refl refl (logs-below n s.processes c.stamps)

module _ (plan : Plan) (within : IsPlan plan) where
  clocked : (schedule : List ℕ) (s : State) → Gives plan (opened plan) schedule s → IsClocked s
  clocked schedule s gives =
      clocks-are-ahead plan (opening plan.shape) schedule s within (opening-length plan.shape)
      (start-clock plan.shape plan.variant [] (opening plan.shape) (no-start plan.shape plan.variant)) gives

  owned-on : (earlier schedule : List ℕ) (first s : State) → Gives plan (opened plan) earlier first
      → run_on plan (Some first) schedule ≡ Some s
      → AreOwned first.processes → AreOwned s.processes
  owned-on earlier [] first s given e o = subst (λ s. AreOwned s.processes) (same_Some first s e) o
  owned-on earlier (p ∷ schedule) first s given e o = go (step plan first p) refl e (λ next. owned-on (earlier ++ p ∷ []) schedule next s)
    where
      go : (o : Option State) → step plan first p ≡ o → run_on plan o schedule ≡ Some s
          → ((next : State) → Gives plan (opened plan) (earlier ++ p ∷ []) next → run_on plan (Some next) schedule ≡ Some s
          → AreOwned next.processes → AreOwned s.processes)
          → AreOwned s.processes
      go None f l later = absurd (nowhere plan schedule s l)
      go (Some next) f l later =
          let m = is-moved plan first p next f in
          let further = run-on-append plan (Some (opened plan)) earlier (p ∷ [])
          ∙ (ap (λ o. run_on plan o (p ∷ [])) given ∙ ap (λ o. run_on plan o []) f) in
          later next further l
          (subst (λ s. AreOwned s.processes) (sym m.is) (owned-move first p m.process m.move m.here (clocked earlier first given) o))

  owned-first : AreOwned (opened plan).processes
  owned-first =
      let n = length plan.scripts in
      let none : logged (replicate n idle) ≡ [] = ap events_by_stamp (no-logs n) in
      record {
        each = λ i q at. ap (events_of i) none ∙ sym (ap events_in (all-idle n i q at));
        known = subst (All (λ e. process_of e < length (replicate n idle))) (sym none) (All-nil _);
      }

  -- the processes are owned in each state that a schedule gives
  pub owned : (schedule : List ℕ) (s : State) → Gives plan (opened plan) schedule s → AreOwned s.processes
  owned schedule s gives = owned-on [] schedule (opened plan) s refl gives owned-first

-- A view that has all processes shows it.

pub own-events : (setup : Setup) (words : List ℕ) (v : View) (ps : List Process) → map (λ (x : Numbered). x.1) v.processes ≡ ps
    → length ps ≡ setup.processes → numbers_of v.processes ≡ range_with_len 0 setup.processes
    → ((p : ℕ) (q : Process) → IsIn (p, q) v.processes → slice_get ps p ≡ Some q) → AreOwned ps
    → HasOwnEvents setup v (history_of (state_of words v))
unfolding history_of
own-events setup words v ps same many numbers at o =
    let logs : history_of (state_of words v) ≡ logged ps = ap logged same in
    record {
      numbers = numbers;
      each = all-has (λ x. events_of x.0 (history_of (state_of words v)) ≡ map (λ (e : Stamped). e.1) x.1.log) v.processes
          (λ x t. ap (events_of x.0) logs ∙ o.each x.0 x.1 (at x.0 x.1 t));
      known = subst (All (λ e. process_of e < setup.processes)) (sym logs)
          (subst (λ n. All (λ e. process_of e < n) (logged ps)) many o.known);
    }
