-- The events of a run, each with the step that logs it.
use Rattle.art_schedules.proofs.Common.{◌≡◌, ℕ, zero, suc, ◌+◌, ◌^◌, ◌<◌, ◌≤◌, List, [], ◌∷◌, ◌++◌, length, take, drop, refl, sym, ap, ap₂, ◌∙◌}
use Rattle.art_schedules.proofs.Common.{subst, ⊎_elim, arith, slice_get, slice_index, slice_set, All, AllPairs, Contains, cases_lt}
use Rattle.art_schedules.proofs.Common.{take-append-drop, All-nil, All-cons, All-append, All-contains, Contains-append_left}
use Rattle.art_schedules.proofs.Common.{Contains-append_right, AllPairs-cons, same_Some, slice_get-map, slice_get_within, AllPairs-nil}
use Rattle.art_schedules.proofs.Common.{AllPairs-append, Contains-first, All-from_contains, Event, Invoke, Answer, process_of, table_words}
use Rattle.art_schedules.proofs.Common.{Access, Process, Plan, State, Move, Invokes, Responds, after_move, moved, next_move, opened_on, step}
use Rattle.art_schedules.proofs.Common.{word_of_move, run_on, At, Gives, is-moved, logged, opened-logged, steps-rise, run-on-append}
use Rattle.std.proofs.Common.{map, Some}
use Rattle.std.specs.Prelude.{option_map, flat_map}
use Rattle.std.proofs.lemmas.List.{map-set, map-append}
use Rattle.events.specs.Logs.{events_by_stamp, history_of_logs}
use Rattle.events.proofs.GrowthLemmas.{AreBelow, history-push}
use Rattle.art_core.specs.Core.{Makes}
use Rattle.art_core.specs.Plans.{IsPlan}
use Rattle.art_core.specs.Runs.{HasFewSteps}
use Rattle.art_core.proofs.HistoryLemmas.{IsLogged, all_steps, map-same, no-logs, one-move, one-step}
use Rattle.art_schedules.proofs.calls.MomentLemmas.{LogsAt, StepAt, logging, moment-before}

-- an event with the step that logged it
abbrev pub Dated : Type 0
Dated = ℕ × Event

-- the events that the first t steps logged, in their order
pub record Traced (plan : Plan) (first : State) (schedule : List ℕ) (t : ℕ) (s : State) : Type 0 where
  pub events : List Dated
  pub history : logged s.processes ≡ map (λ (x : Dated). x.1) events
  pub rising : AllPairs (λ (x y : Dated). x.0 < y.0) events
  pub early : All (λ (x : Dated). x.0 < t) events
  pub sound : All (λ (x : Dated). LogsAt plan first schedule x.0 x.1) events
  pub complete : (u : ℕ) (e : Event) → u < t → LogsAt plan first schedule u e → Contains events (u, e)
  pub is_logged : IsLogged plan s

-- an event is known by its process and its move
same-event : (e f : Event) → process_of e ≡ process_of f → logging e ≡ logging f → e ≡ f
same-event (Invoke p call) (Invoke q other) same h = cc
same-event (Invoke p call) (Answer q other) same h = cc
same-event (Answer p reply) (Invoke q other) same h = cc
same-event (Answer p reply) (Answer q other) same h = cc

-- an access logs nothing
no-event : (e : Event) (a : Access) → logging e ≡ Makes a → ⊥
no-event (Invoke p call) a h = cc
no-event (Answer p reply) a h = cc

its-log : (e : Event) (n : ℕ) (q : Process) → (after_move (process_of e) (logging e) n q).log ≡ q.log ++ (n, e) ∷ []
its-log (Invoke p call) n q = refl
its-log (Answer p reply) n q = refl

its-word : (e : Event) → word_of_move (logging e) ≡ 0
its-word (Invoke p call) = refl
its-word (Answer p reply) = refl

module _ (plan : Plan) (first : State) (schedule : List ℕ) (t : ℕ) (s next : State) (h : Traced plan first schedule t s) where
  -- what a step that is made now logs is an event of this move
  logs-now : (p : ℕ) (q : Process) (m : Move) (e : Event) → slice_get schedule t ≡ Some p → At plan first schedule t s
      → slice_get s.processes p ≡ Some q
      → next_move plan p q ≡ Some m → LogsAt plan first schedule t e → (process_of e ≡ p) × (logging e ≡ m)
  logs-now p q m e turn at here is_next logs =
      let own : process_of e ≡ p = same_Some (process_of e) p (sym logs.turn ∙ turn) in
      let state = same_Some logs.now s (sym logs.at ∙ at) in
      let process = same_Some logs.process q
      (sym logs.own ∙ (ap (λ z. slice_get z.processes (process_of e)) state ∙ (ap (slice_get s.processes) own ∙ here))) in (
        own,
        same_Some (logging e) m (sym logs.next ∙ (ap (λ w. next_move plan (process_of e) w) process
            ∙ (ap (λ i. next_move plan i q) own ∙ is_next))),
      )

  -- past the end of the schedule
  past-end : length schedule ≤ t → Traced plan first schedule (suc t) s
  past-end over = record {
    events = h.events;
    history = h.history;
    rising = h.rising;
    early = λ k d within. let before = h.early k d within in omega arith;
    sound = h.sound;
    complete = λ u e before logs. h.complete u e (let within = slice_get_within schedule u (process_of e) logs.turn in omega arith) logs;
    is_logged = h.is_logged;
  }

  by-access : (p : ℕ) (q : Process) (a : Access) → slice_get schedule t ≡ Some p → At plan first schedule t s
      → slice_get s.processes p ≡ Some q
      → next_move plan p q ≡ Some (Makes a) → next ≡ moved s p q (Makes a) → IsLogged plan next → Traced plan first schedule (suc t) next
  by-access p q a turn at here is_next is logged_next = record {
    events = h.events;
    history = ap (λ z. logged z.processes) is
        ∙ (ap history_of_logs (map-same (λ q. q.log) s.processes p q
        (after_move p (Makes a) (slice_index s.words (word_of_move (Makes a))) q) here refl)
        ∙ h.history);
    rising = h.rising;
    early = λ k d within. let before = h.early k d within in omega arith;
    sound = h.sound;
    complete = λ u e before logs. ⊎_elim (λ less. h.complete u e less logs)
        (λ more. let same : u ≡ t = omega arith in
        absurd (no-event e a (logs-now p q (Makes a) e turn at here is_next (subst (λ i. LogsAt plan first schedule i e) same
        logs)).1)) (cases_lt u t);
    is_logged = logged_next;
  }

  by-event : (e : Event) (q : Process) → slice_get schedule t ≡ Some (process_of e) → At plan first schedule t s
      → slice_get s.processes (process_of e) ≡ Some q
      → next_move plan (process_of e) q ≡ Some (logging e) → next ≡ moved s (process_of e) q (logging e) → IsLogged plan next
      → Traced plan first schedule (suc t) next
  by-event e q turn at here is_next is logged_next =
      let p = process_of e in
      let n = slice_index s.words (word_of_move (logging e)) in
      let after = after_move p (logging e) n q in
      let clocked : n ≡ slice_index s.words 0 = ap (slice_index s.words) (its-word e) in
      let its : slice_get (map (λ q. q.log) s.processes) p ≡ Some q.log =
      slice_get-map (λ q. q.log) s.processes p ∙ ap (λ o. option_map (λ q. q.log) o) here in
      let logs_are : map (λ q. q.log) (slice_set s.processes p after) ≡ slice_set (map (λ q. q.log) s.processes) p (q.log ++ (n, e) ∷ []) =
      map-set (λ q. q.log) s.processes p after ∙ ap (λ log. slice_set (map (λ q. q.log) s.processes) p log) (its-log e n q) in
      let last : Dated = (t, e) in
      record {
        events = h.events ++ last ∷ [];
        history = ap (λ z. logged z.processes) is
            ∙ (ap history_of_logs logs_are
            ∙ (history-push (map (λ q. q.log) s.processes) p q.log (n, e) its
            (subst (λ k. AreBelow k (flat_map (λ log. log) (map (λ q. q.log) s.processes))) (sym clocked) h.is_logged.stamps)
            ∙ (ap (λ xs. xs ++ e ∷ []) h.history ∙ sym (map-append (λ (x : Dated). x.1) h.events (last ∷ [])))));
        rising =
            AllPairs-append (λ (x y : Dated). x.0 < y.0) h.events (last ∷ []) h.rising
            (AllPairs-cons (λ (x y : Dated). x.0 < y.0) last [] (All-nil (λ (y : Dated). t < y.0))
            (AllPairs-nil (λ (x y : Dated). x.0 < y.0)))
            (All-from_contains (λ (x : Dated). All (λ (y : Dated). x.0 < y.0) (last ∷ [])) h.events
            (λ x among. All-cons (λ (y : Dated). x.0 < y.0) last [] (All-contains (λ (x : Dated). x.0 < t) h.events x h.early among)
            (All-nil (λ (y : Dated). x.0 < y.0))));
        early =
            All-append (λ (x : Dated). x.0 < suc t) h.events (last ∷ []) (λ k d within. let before = h.early k d within in omega arith)
            (All-cons (λ (x : Dated). x.0 < suc t) last [] (omega arith) (All-nil (λ (x : Dated). x.0 < suc t)));
        sound =
            All-append (λ (x : Dated). LogsAt plan first schedule x.0 x.1) h.events (last ∷ []) h.sound
            (All-cons (λ (x : Dated). LogsAt plan first schedule x.0 x.1) last []
            (record { turn = turn; now = s; at = at; process = q; own = here; next = is_next })
            (All-nil (λ (x : Dated). LogsAt plan first schedule x.0 x.1)));
        complete = λ u f before logs. ⊎_elim (λ less. Contains-append_left h.events (last ∷ []) (u, f) (h.complete u f less logs))
            (λ more. let same : u ≡ t = omega arith in
            let known = logs-now p q (logging e) f turn at here is_next (subst (λ i. LogsAt plan first schedule i f) same logs) in
            let event = same-event f e known.0 known.1 in
            let item : ◌≡◌ {A = Dated} last (u, f) = ap₂ (λ (i : ℕ) (x : Event). (i, x)) (sym same) (sym event) in
            Contains-append_right h.events (last ∷ []) (u, f) (subst (Contains (last ∷ [])) item (Contains-first last []))) (cases_lt u t);
        is_logged = logged_next;
      }

  one-step-more : (r : StepAt plan first schedule t next) → r.before ≡ s → IsPlan plan → all_steps s + 1 < 2 ^ 61
      → Traced plan first schedule (suc t) next
  one-step-more r same within few =
      let step_is = subst (λ (z : State). step plan z r.turn ≡ Some next) same r.is in
      let at = subst (λ (z : State). At plan first schedule t z) same r.at in
      let m = is-moved plan s r.turn next step_is in
      let logged_next = subst (IsLogged plan) (sym m.is)
      (one-move plan within s r.turn m.process h.is_logged m.here few m.process.call m.move refl m.is_next) in
      by_move m.process m.move at m.here m.is_next m.is logged_next
    where
      by_move : (q : Process) (m : Move) → At plan first schedule t s → slice_get s.processes r.turn ≡ Some q
          → next_move plan r.turn q ≡ Some m
          → next ≡ moved s r.turn q m → IsLogged plan next → Traced plan first schedule (suc t) next
      by_move q (Invokes call) at here is_next is logged_next = by-event (Invoke r.turn call) q r.here at here is_next is logged_next
      by_move q (Makes a) at here is_next is logged_next = by-access r.turn q a r.here at here is_next is logged_next
      by_move q (Responds reply) at here is_next is logged_next = by-event (Answer r.turn reply) q r.here at here is_next is logged_next

-- few steps lead to each moment
pub few-before : (plan : Plan) (first : State) (schedule : List ℕ) (s : State) → Gives plan first schedule s → (t : ℕ) (now : State)
    → At plan first schedule t now → all_steps now ≤ all_steps s
few-before plan first schedule s gives t now at =
    steps-rise plan (drop t schedule) now s
    (ap (λ o. run_on plan o (drop t schedule)) (sym at)
    ∙ (sym (run-on-append plan (Some first) (take t schedule) (drop t schedule))
    ∙ (ap (run_on plan (Some first)) (take-append-drop t schedule) ∙ gives)))

module _ (plan : Plan) (words schedule : List ℕ) (s : State) (within : IsPlan plan) (long : length words ≡ table_words plan.shape)
    (zeroed : slice_index words 0 ≡ 0) (gives : Gives plan (opened_on plan words) schedule s) (few : HasFewSteps s) where
  abbrev first : State
  first = opened_on plan words

  pub traced : (t : ℕ) (now : State) → At plan first schedule t now → Traced plan first schedule t now
  traced zero now at = subst (Traced plan first schedule 0) (same_Some first now at) (record {
    events = [];
    history = ap events_by_stamp (no-logs (length plan.scripts));
    rising = AllPairs-nil (λ (x y : Dated). x.0 < y.0);
    early = All-nil (λ (x : Dated). x.0 < 0);
    sound = All-nil (λ (x : Dated). LogsAt plan first schedule x.0 x.1);
    complete = λ u e before logs. absurd (omega arith);
    is_logged = opened-logged plan words long zeroed;
  })
  traced (suc t) now at = ⊎_elim (λ over. past-end plan first schedule t now now (traced t now over.0) over.1)
      (λ r. let bound = few-before plan first schedule s gives t r.before r.at in
      let more = few-before plan first schedule s gives (suc t) now at in
      one-step-more plan first schedule t r.before now (traced t r.before r.at) r refl within
      (omega (arith, one-step plan r.before r.turn now r.is)))
      (moment-before plan first schedule t now at)
