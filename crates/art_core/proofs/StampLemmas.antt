-- The clock counts the events of the logs, and a plan has few of them.
use Rattle.art_core.proofs.Common.{◌≡◌, ◌≢◌, ℕ, suc, ◌+◌, ◌*◌, ◌%◌, ◌^◌, ◌<◌, ◌≤◌, Bool, true, false, cond, arith, refl, sym, subst, ap, List}
use Rattle.art_core.proofs.Common.{[], ◌∷◌, length, map, get_or-set_same, get_or-set_other, Option, Some, None, is_some, All, slice_get}
use Rattle.art_core.proofs.Common.{slice_index, slice_set, filter_map, flat_map, sum_by, length-append, sum-map, sum_by-set, sum_by-cons}
use Rattle.art_core.proofs.Common.{All-nil, slice_get_within, get_or_from_slice_get, same_Some, none-some, Call, Invoke, Answer, Stamped}
use Rattle.art_core.proofs.Common.{AreBelow, table_words, word_of, Turn, Asks, Answers, act, act-stays, Process, Plan, State, Move, Invokes}
use Rattle.art_core.proofs.Common.{Makes, Responds, begun, invoked, answered, moved, after_move, move_of, move_from, next_move, next_call}
use Rattle.art_core.proofs.Common.{invocation, step, opened_on, history_of, run_on, IsPlan}
use Rattle.std.proofs.lemmas.List.Elements.{All-cons}
use Rattle.events.proofs.GrowthLemmas.{AreBelow-front, AreBelow-back}
use Rattle.art_core.specs.Accesses.{changed}
use Rattle.art_core.specs.Laws.{ClocksAreAhead}
use Rattle.art_core.proofs.HistoryLemmas.{IsLogged, one-drawn, is-moved, nowhere, opened-logged, calls-within, all-idle}
use Rattle.art_core.proofs.CountLemmas.{IsCounted, are_counted, counted-step}

-- each event is an invocation or a response
log-parts : (log : List Stamped) → length log ≡ length (filter_map (λ e. invoked e.1) log) + length (filter_map (λ e. answered e.1) log)
log-parts [] = refl
log-parts ((n, Invoke p call) ∷ log) = let rest = log-parts log in omega arith
log-parts ((n, Answer p reply) ∷ log) = let rest = log-parts log in omega arith

cond-small : (b : Bool) → cond b 1 0 ≤ 1
cond-small true = omega arith
cond-small false = omega arith

sums-within : (f g : Process → ℕ) (ps : List Process) → ((i : ℕ) (q : Process) → slice_get ps i ≡ Some q → f q ≤ 2 * g q)
    → sum_by f ps ≤ 2 * sum_by g ps
sums-within f g [] each = omega arith
sums-within f g (x ∷ xs) each =
    let first = each 0 x refl in
    let rest = sums-within f g xs (λ i q at. each (suc i) q at) in
    omega (arith, sum_by-cons f x xs, sum_by-cons g x xs)

sum-changed : (f : Process → ℕ) (xs : List Process) (p : ℕ) (x y : Process) → slice_get xs p ≡ Some x
    → sum_by f (slice_set xs p y) + f x ≡ sum_by f xs + f y
sum-changed f xs p x y h =
    let e = sum_by-set f xs p y x (slice_get_within xs p x h) in
    let at = ap f (get_or_from_slice_get xs p x x h) in
    omega arith

-- an access is not on the clock
abbrev Elsewhere : Move → Type 0
Elsewhere (Invokes call) = Unit {0}
Elsewhere (Makes a) = 0 < word_of a
Elsewhere (Responds reply) = Unit {0}

module _ (plan : Plan) (within : IsPlan plan) where
  elsewhere : (p : ℕ) (q : Process) (m : Move) → next_move plan p q ≡ Some m → Elsewhere m
  elsewhere p q m next = go q.call next
    where
      calls : (o : Option Call) → invocation o ≡ Some m → Elsewhere m
      calls None k = absurd (none-some m k)
      calls (Some call) k = subst Elsewhere (same_Some (Invokes call) m k) tt

      turns : (call : Call) (t : Turn) → act plan.shape plan.variant call q.got ≡ t
          → ◌≡◌ {A = Option Move} (Some (move_of t)) (Some m) → Elsewhere m
      turns call (Asks a point) e k =
          subst Elsewhere (same_Some (Makes a) m k) (act-stays plan.shape plan.variant call within.shape.root q.got a point e).0
      turns call (Answers reply) e k = subst Elsewhere (same_Some (Responds reply) m k) tt

      go : (o : Option Call) → move_from plan p q o ≡ Some m → Elsewhere m
      go None k = calls (next_call plan p q) k
      go (Some call) k = turns call (act plan.shape plan.variant call q.got) refl k

  abbrev events : List Process → ℕ
  events ps = sum_by (λ q. length q.log) ps

  -- what holds of each state of a schedule
  record IsTicked (s : State) : Type 0 where
    logged : IsLogged plan s
    ticks : slice_index s.words 0 ≤ events s.processes
    counted : are_counted plan s

  -- twice as many events as calls, at most
  few-events : (s : State) → IsTicked s → slice_index s.words 0 ≤ 8192
  few-events s t =
      let half = sums-within (λ q. length q.log) (λ q. length (begun q)) s.processes
      (λ i q at. let parts = log-parts q.log in let c = (t.counted i q at).counts in let less =
      cond-small (is_some q.call) in omega arith) in
      let calls = calls-within s.processes plan.scripts t.logged.scripts in
      let sums = sum-map (λ q. length (begun q)) s.processes in
      let few = within.few_calls in
      let ticks = t.ticks in
      omega arith

  ticks-on : (s : State) (p : ℕ) (q : Process) (m : Move) → slice_get s.processes p ≡ Some q → Elsewhere m → 0 < length s.words
      → slice_index s.words 0 ≤ events s.processes → slice_index (moved s p q m).words 0 ≤ events (moved s p q m).processes
  ticks-on s p q m here = go m
    where
      draws : (q' : Process) (n : ℕ) → length q'.log ≡ length q.log + 1 → 0 < length s.words → n ≤ events s.processes
          → slice_index (slice_set s.words 0 ((n + 1) % 2 ^ 64)) 0 ≤ events (slice_set s.processes p q')
      draws q' n one some ticks =
          let at = get_or-set_same s.words 0 ((n + 1) % 2 ^ 64) 0 some in
          let more = sum-changed (λ q. length q.log) s.processes p q q' here in
          let low : (n + 1) % 2 ^ 64 ≤ n + 1 = omega arith in
          omega arith

      go : (m : Move) → Elsewhere m → 0 < length s.words
          → slice_index s.words 0 ≤ events s.processes → slice_index (moved s p q m).words 0 ≤ events (moved s p q m).processes
      go (Invokes call) away some ticks =
          draws (after_move p (Invokes call) (slice_index s.words 0) q) (slice_index s.words 0) (length-append q.log _) some ticks
      go (Responds reply) away some ticks =
          draws (after_move p (Responds reply) (slice_index s.words 0) q) (slice_index s.words 0) (length-append q.log _) some ticks
      go (Makes a) away some ticks =
          let other : 0 ≢ word_of a = λ e. omega arith in
          let new = changed a (slice_index s.words (word_of a)) in
          let at : slice_index (slice_set s.words (word_of a) new) 0 ≡ slice_index s.words 0 =
          get_or-set_other s.words (word_of a) 0 new 0 other in
          let q' = after_move p (Makes a) (slice_index s.words (word_of a)) q in
          let same : events (slice_set s.processes p q') + length q.log ≡ events s.processes + length q.log =
          sum-changed (λ q. length q.log) s.processes p q q' here in
          omega arith

  ticked-step : (s : State) (p : ℕ) (next : State) → step plan s p ≡ Some next → IsTicked s → IsTicked next
  ticked-step s p next e t =
      let m = is-moved plan s p next e in
      let few = few-events s t in
      let small : slice_index s.words 0 + 1 < 2 ^ 64 = omega arith in
      let some : 0 < length s.words = let long = t.logged.table in omega arith in
      record {
        logged = subst (IsLogged plan) (sym m.is)
            (one-drawn plan within s p m.process t.logged m.here small m.process.call m.move refl m.is_next);
        ticks = subst (λ n. slice_index n.words 0 ≤ events n.processes) (sym m.is)
            (ticks-on s p m.process m.move m.here (elsewhere p m.process m.move m.is_next) some t.ticks);
        counted = counted-step plan s p next e t.counted;
      }

  ticked-run : (schedule : List ℕ) (first s : State) → run_on plan (Some first) schedule ≡ Some s → IsTicked first → IsTicked s
  ticked-run [] first s e h = subst IsTicked (same_Some first s e) h
  ticked-run (p ∷ schedule) first s e h = go (step plan first p) refl e (λ next. ticked-run schedule next s)
    where
      go : (o : Option State) → step plan first p ≡ o → run_on plan o schedule ≡ Some s
          → ((next : State) → run_on plan (Some next) schedule ≡ Some s → IsTicked next → IsTicked s) → IsTicked s
      go None f l later = absurd (nowhere plan schedule s l)
      go (Some next) f l later = later next l (ticked-step first p next f h)

  ticked-first : (words : List ℕ) → length words ≡ table_words plan.shape → slice_index words 0 ≡ 0 → IsTicked (opened_on plan words)
  ticked-first words long zeroed = record {
    logged = opened-logged plan words long zeroed;
    ticks = omega arith;
    counted = λ i q at. subst (λ q. IsCounted plan i q) (sym (all-idle (length plan.scripts) i q at))
        (record { counts = refl; within = λ script at. omega arith });
  }

-- each log is among all of them
logs-below : (n : ℕ) (ps : List Process) → AreBelow n (flat_map (λ log. log) (map (λ q. q.log) ps))
    → All (λ q. All (λ (e : Stamped). e.0 < n) q.log) ps
logs-below n [] below = All-nil _
logs-below n (q ∷ ps) below =
    All-cons (λ q. All (λ (e : Stamped). e.0 < n) q.log) q ps (all-below q.log (AreBelow-front n q.log _ below))
    (logs-below n ps (AreBelow-back n q.log _ below))
  where
    all-below : (log : List Stamped) → AreBelow n log → All (λ (e : Stamped). e.0 < n) log
    all-below [] h = All-nil _
    all-below (e ∷ log) h = All-cons (λ (e : Stamped). e.0 < n) e log h.0 (all-below log h.1)

pub clocks-are-ahead : ClocksAreAhead
unfolding history_of
clocks-are-ahead plan words schedule s within long zeroed gives =
    let t = ticked-run plan within schedule (opened_on plan words) s gives (ticked-first plan within words long zeroed) in
    record {
      stamps = logs-below (slice_index s.words 0) s.processes t.logged.stamps;
      few = few-events plan within s t;
      history = t.logged.history;
    }
