-- The calls of a run's history are those that its processes begin.
use Rattle.art_schedules.proofs.Common.{◌≡◌, ℕ, suc, ◌+◌, ◌<◌, ◌≤◌, true, List, length, refl, sym, ap, ap₂, ◌∙◌, subst, ⊎_elim, arith, slice_get}
use Rattle.art_schedules.proofs.Common.{IfSome, cases_lt, cases_order, ltb-true, same_Some, none-some, slice_get-map, slice_get_within}
use Rattle.art_schedules.proofs.Common.{take-length, All-at, place_of-Contains, slice_get-below, Call, Event, Invoke, Answer, Reply, Operation}
use Rattle.art_schedules.proofs.Common.{Response, process_of, operations, is_before, Process, Plan, State, Invokes, Responds, begun, history_of}
use Rattle.art_schedules.proofs.Common.{known_reply, after_move, opened_on, step, At, Gives, logged, start-clock, start-length, IsIn, EndsAt}
use Rattle.art_schedules.proofs.Common.{RunCall, IsWithin, EndsWith, IsRunCall, last_step, HasCalls, RunsHaveCalls}
use Rattle.std.proofs.Common.{Option, Some, None}
use Rattle.std.specs.Prelude.{option_map}
use Rattle.events.proofs.Lists.{AllPairs-at}
use Rattle.events.proofs.TimeLemmas.{inv_rises}
use Rattle.art_schedules.specs.points.Windows.{WindowsKeepPrecedence}
use Rattle.art_schedules.proofs.points.ChoiceLemmas.{chosen}
use Rattle.art_schedules.proofs.calls.EventPlaceLemmas.{IsNextAnswer, IsCallAt, call_at, invocation_at, at_place, from_place}
use Rattle.art_schedules.proofs.calls.MomentLemmas.{LogsAt, begun-before, earlier-moment, goes-on, in-call, invokes-next, moment-before}
use Rattle.art_schedules.proofs.calls.MomentLemmas.{moved-now, responds-next, same-process, stage-after, stage-idle, stage-open, stage-rises}
use Rattle.art_schedules.proofs.calls.TraceLemmas.{Dated, Traced, traced}

-- what a mapped item comes from
mapped : {A B : Type 0} (f : A → B) (o : Option A) (y : B) → option_map f o ≡ Some y → (x : A) × (o ≡ Some x) × (f x ≡ y)
mapped f None y h = absurd (none-some y h)
mapped f (Some x) y h = (x, refl, same_Some (f x) y h)

module _ (plan : Plan) (words schedule : List ℕ) (s : State) (trace : Traced plan (opened_on plan words) schedule (length schedule) s)
    (end : At plan (opened_on plan words) schedule (length schedule) s) where
  abbrev first : State
  first = opened_on plan words

  abbrev history : List Event
  history = logged s.processes

  -- the step that logged the event at a place of the history
  abbrev IsDated : ℕ → ℕ → Event → Type 0
  IsDated place t e = slice_get trace.events place ≡ Some (t, e)

  dated : (place : ℕ) (e : Event) → slice_get history place ≡ Some e → (t : ℕ) × IsDated place t e
  dated place e here =
      let (x, is, event) = mapped (λ (x : Dated). x.1) (slice_get trace.events place) e
      (sym (slice_get-map (λ (x : Dated). x.1) trace.events place) ∙ (ap (λ es. slice_get es place) (sym trace.history) ∙ here)) in
      (x.0, subst (λ (f : Event). slice_get trace.events place ≡ Some (x.0, f)) event is)

  logs-dated : (place t : ℕ) (e : Event) → IsDated place t e → LogsAt plan first schedule t e
  logs-dated place t e is = All-at (λ (x : Dated). LogsAt plan first schedule x.0 x.1) trace.events place (t, e) trace.sound is

  -- places and steps rise together
  steps-go-up : (i j t u : ℕ) (e f : Event) → IsDated i t e → IsDated j u f → i < j → t < u
  steps-go-up i j t u e f here there less =
      AllPairs-at (λ (x y : Dated). x.0 < y.0) trace.events i j (t, e) (u, f) trace.rising less here there

  same-step : (i j t u : ℕ) (e f : Event) → IsDated i t e → IsDated j u f → i ≡ j → t ≡ u
  same-step i j t u e f here there same =
      ap (λ (x : Dated). x.0) (same_Some (t, e) (u, f) (sym here ∙ (ap (slice_get trace.events) same ∙ there)))

  places-go-up : (i j t u : ℕ) (e f : Event) → IsDated i t e → IsDated j u f → t < u → i < j
  places-go-up i j t u e f here there less = ⊎_elim
      (λ same. let k = same-step i j t u e f here there same in absurd (omega arith))
      (λ differ. ⊎_elim (λ before. before) (λ after. let k = steps-go-up j i u t f e there here after in absurd (omega arith))
      differ) (cases_order i j)

  same-place : (i j t u : ℕ) (e f : Event) → IsDated i t e → IsDated j u f → t ≡ u → i ≡ j
  same-place i j t u e f here there same = ⊎_elim (λ equal. equal)
      (λ differ. ⊎_elim (λ before. let k = steps-go-up i j t u e f here there before in absurd (omega arith))
      (λ after. let k = steps-go-up j i u t f e there here after in absurd (omega arith)) differ) (cases_order i j)

  -- a step that logs an event has its place in the history
  place-of-step : (t : ℕ) (e : Event) → LogsAt plan first schedule t e → (place : ℕ) × IsDated place t e
      × (slice_get history place ≡ Some e)
  place-of-step t e logs =
      let among = trace.complete t e (slice_get_within schedule t (process_of e) logs.turn) logs in
      let (place, is) = place_of-Contains trace.events (t, e) among in (
        place,
        is,
        ap (λ es. slice_get es place) trace.history
            ∙ (slice_get-map (λ (x : Dated). x.1) trace.events place ∙ ap (option_map (λ (x : Dated). x.1)) is),
      )

  -- the step that logs the response
  abbrev EndsAtPlace : ℕ → Option Response → Option ℕ → Type 0
  EndsAtPlace p None None = Unit {0}
  EndsAtPlace p (Some r) (Some t) = IsDated r.res t (Answer p r.reply)
  EndsAtPlace p response ends = ⊥

  -- a call with the steps that log its invocation and its response
  record Found (a : Operation) (c : RunCall) : Type 0 where
    run_call : IsRunCall plan first schedule a c
    begun_at : IsDated a.inv c.begins (Invoke c.process a.call)
    ended_at : EndsAtPlace c.process a.response c.ends

  module _ (a : Operation) (is : IsCallAt 0 history a) (begins : ℕ)
      (begun_at : IsDated a.inv begins (Invoke is.process a.call)) (ends : Option ℕ)
      (ended_at : EndsAtPlace is.process a.response ends) where
    abbrev p : ℕ
    p = is.process

    logs : LogsAt plan first schedule begins (Invoke p a.call)
    logs = logs-dated a.inv begins (Invoke p a.call) begun_at

    abbrev calls : ℕ
    calls = length (begun logs.process) + 1

    abbrev run_call : RunCall
    run_call = record { process = p; calls = calls; begins = begins; ends = ends }

    idle : logs.process.call ≡ None
    idle = (invokes-next plan p logs.process a.call logs.next).0

    -- the next moment
    next-moment : (next : State) → At plan first schedule (suc begins) next → IsIn next p calls a.call
    next-moment next at = ⊎_elim
        (λ over. let within = slice_get_within schedule begins p logs.turn in absurd (omega arith))
        (λ r.
        let turn = same_Some r.turn p (sym r.here ∙ logs.turn) in
        let before = same_Some r.before logs.now (sym r.at ∙ logs.at) in
        in-call plan next p logs.process a.call
        (moved-now plan r.before next p logs.process (Invokes a.call) (subst (λ i. step plan r.before i ≡ Some next) turn r.is)
        (ap (λ z. slice_get z.processes p) before ∙ logs.own) logs.next)) (moment-before plan first schedule begins next at)

    -- no response is logged before the one that ends the call
    silent : (t u : ℕ) (reply : Reply) → begins < u → u < t → IfSome ends (λ e. t ≤ e) → LogsAt plan first schedule u (Answer p reply) → ⊥
    silent t u reply low high until logs =
        let (place, is_dated, here) = place-of-step u (Answer p reply) logs in
        let after = places-go-up a.inv place begins u (Invoke p a.call) (Answer p reply) begun_at is_dated low in
        by_response place is_dated here after a.response ends is.response ended_at until
      where
        by_response : (place : ℕ) → IsDated place u (Answer p reply) → slice_get history place ≡ Some (Answer p reply) → a.inv < place
            → (response : Option Response) (ends : Option ℕ) → IsNextAnswer p 0 history a.inv response → EndsAtPlace p response ends
            → IfSome ends (λ e. t ≤ e) → ⊥
        by_response place is_dated here after None None none at until =
            none place reply after (from_place history place (Answer p reply) here)
        by_response place is_dated here after None (Some e) none at until = at
        by_response place is_dated here after (Some r) None next at until = at
        by_response place is_dated here after (Some r) (Some e) next at until =
            next.2 place reply after (places-go-up place r.res u e (Answer p reply) (Answer p r.reply) is_dated at (omega arith))
            (from_place history place (Answer p reply) here)

    during : (t : ℕ) (now : State) → At plan first schedule t now → IsWithin run_call t → IsIn now p calls a.call
    during t now at within =
        goes-on plan first schedule p t begins calls a.call now within.0 at next-moment
        (λ u reply low high logs. silent t u reply low high within.1 logs)

    -- the response
    ending : (r : Response) (e : ℕ) → a.response ≡ Some r → ends ≡ Some e → IsDated r.res e (Answer p r.reply) → a.inv < r.res
        → EndsAt plan first schedule e p calls a.call r.reply
    ending r e response is_ends at after =
        let le = logs-dated r.res e (Answer p r.reply) at in
        let up = steps-go-up a.inv r.res begins e (Invoke p a.call) (Answer p r.reply) begun_at at after in
        let in_it = during e le.now le.at (up, rw is_ends (omega arith)) in
        let (call, open_call, known) = responds-next plan p le.process r.reply le.next in
        let same = same_Some in_it.process le.process (sym in_it.own ∙ le.own) in
        let same_call = same_Some call a.call (sym open_call ∙ (sym (ap (λ q. q.call) same) ∙ in_it.is_open)) in
        record {
          turn = le.turn;
          before = le.now;
          at = le.at;
          is_in = in_it;
          known = ap₂ (λ (q : Process) (c : Call). known_reply plan q.got (Some c)) same (sym same_call) ∙ known;
        }

    -- a process that is in the call is not after its response
    not-after : (t : ℕ) (now : State) (call : Call) (r : Response) (e : ℕ) → At plan first schedule t now → IsIn now p calls call
        → a.response ≡ Some r
        → ends ≡ Some e → IsDated r.res e (Answer p r.reply) → a.inv < r.res → e < t → ⊥
    not-after t now call r e at in_it response is_ends dated_at after late =
        let le = logs-dated r.res e (Answer p r.reply) dated_at in
        let ended = ending r e response is_ends dated_at after in
        let within = slice_get_within schedule e p le.turn in
        let (next, next_at) = earlier-moment plan first schedule t (suc e) now (omega arith) at in
        let same = same-process plan first schedule p e ended.before le.now ended.is_in.process le.process ended.at le.at
        ended.is_in.own le.own in
        ⊎_elim (λ over. omega arith)
        (λ b.
        let turn : b.turn ≡ p = same_Some b.turn p (sym b.here ∙ le.turn) in
        let before : b.before ≡ le.now = same_Some b.before le.now (sym b.at ∙ le.at) in
        let m = moved-now plan b.before next p le.process (Responds r.reply) (subst (λ i. step plan b.before i ≡ Some next) turn b.is)
        (ap (λ z. slice_get z.processes p) before ∙ le.own) le.next in
        let high = stage-after plan next p le.process r.reply m in
        let low = stage-open in_it.process call in_it.is_open in
        let count : length (begun le.process) ≡ calls = ap (λ q. length (begun q)) (sym same) ∙ ended.is_in.count in
        let count_now = in_it.count in
        let up = stage-rises plan first schedule p (suc e) t next now (after_move p (Responds r.reply) m.word le.process) in_it.process
        (omega arith) next_at at
        m.own in_it.own in
        omega arith) (moment-before plan first schedule e next next_at)

    within : (t : ℕ) (now : State) (call : Call) → At plan first schedule t now → IsIn now p calls call
        → IsWithin run_call t × (call ≡ a.call)
    within t now call at in_it =
        let window : IsWithin run_call t = (begun_by_then, until a.response refl ends refl is.response ended_at) in
        let known = during t now at window in
        let same = same_Some in_it.process known.process (sym in_it.own ∙ known.own) in
        (window, same_Some call a.call (sym in_it.is_open ∙ (ap (λ q. q.call) same ∙ known.is_open)))
      where
        begun_by_then : begins < t
        begun_by_then = ⊎_elim (λ less. less)
            (λ more.
            let high = stage-open in_it.process call in_it.is_open in
            let low = stage-idle logs.process idle in
            let count = in_it.count in
            let up = stage-rises plan first schedule p t begins now logs.now in_it.process logs.process more at logs.at
            in_it.own logs.own in
            absurd (omega arith)) (cases_lt begins t)

        until : (response : Option Response) → a.response ≡ response → (o : Option ℕ) → ends ≡ o → IsNextAnswer p 0 history a.inv response
            → EndsAtPlace p response o
            → IfSome o (λ e. t ≤ e)
        until response is_response None is_ends next at_place = tt
        until None is_response (Some e) is_ends next at_place = absurd at_place
        until (Some r) is_response (Some e) is_ends next at_place = ⊎_elim
            (λ late. absurd (not-after t now call r e at in_it is_response is_ends at_place next.0 late))
            (λ fine. fine) (cases_lt e t)

    found : Found a run_call
    found = record {
      run_call = record {
        begins = record {
          turn = logs.turn;
          before = logs.now;
          at = logs.at;
          process = logs.process;
          own = logs.own;
          idle = idle;
          next = (invokes-next plan p logs.process a.call logs.next).1;
          count = refl;
        };
        ends = ends_with a.response refl ends refl is.response ended_at;
        during = during;
        within = within;
      };
      begun_at = begun_at;
      ended_at = ended_at;
    }
      where
        ends_with : (response : Option Response) → a.response ≡ response → (o : Option ℕ) → ends ≡ o
            → IsNextAnswer p 0 history a.inv response
            → EndsAtPlace p response o
            → EndsWith plan first schedule run_call a.call response o
        ends_with None is_response None is_ends next at_place = tt
        ends_with None is_response (Some e) is_ends next at_place = at_place
        ends_with (Some r) is_response None is_ends next at_place = at_place
        ends_with (Some r) is_response (Some e) is_ends next at_place = ending r e is_response is_ends at_place next.0

  -- each call of the history is found
  find : (n : ℕ) (a : Operation) → slice_get (operations history) n ≡ Some a → (c : RunCall) × Found a c
  find n a here =
      let is = call_at history n a here in
      let (begins, begun_at) = dated a.inv (Invoke is.process a.call) (at_place history a.inv (Invoke is.process a.call) is.invoked) in
      let (ends, ended_at) = find_end is.process a.response is.response in
      (run_call a is begins begun_at ends ended_at, found a is begins begun_at ends ended_at)
    where
      find_end : (p : ℕ) (response : Option Response) → IsNextAnswer p 0 history a.inv response → (o : Option ℕ) × EndsAtPlace p response o
      find_end p None next = (None, tt)
      find_end p (Some r) next = let (t, is) =
          dated r.res (Answer p r.reply) (at_place history r.res (Answer p r.reply) next.1) in (Some t, is)

  module _ (call_of : ℕ → RunCall) (each : (n : ℕ) (a : Operation) → slice_get (operations history) n ≡ Some a → Found a (call_of n)) where
    -- a call of a process is not begun before itself
    not-before : (c d : RunCall) (a b : Operation) → Found a c → Found b d → c.process ≡ d.process → c.calls ≡ d.calls → c.begins ≤ d.begins
    not-before c d a b f g process calls =
        let begun = g.run_call.begins in
        let within = slice_get_within schedule d.begins d.process begun.turn in
        let (next, at) = earlier-moment plan first schedule (length schedule) (suc d.begins) s (omega arith) end in
        let in_d = g.run_call.during (suc d.begins) next at (omega arith, behind b.response d.ends g.run_call.ends) in
        let in_c : IsIn next c.process c.calls b.call =
        subst (λ i. IsIn next i c.calls b.call) (sym process) (subst (λ i. IsIn next d.process i b.call) (sym calls) in_d) in
        let early = (f.run_call.within (suc d.begins) next b.call at in_c).0.0 in
        omega arith
      where
        behind : (response : Option Response) (o : Option ℕ) → EndsWith plan first schedule d b.call response o
            → IfSome o (λ e. suc d.begins ≤ e)
        behind None None ends = tt
        behind None (Some e) ends = absurd ends
        behind (Some r) None ends = tt
        behind (Some r) (Some e) ends = let window = (g.run_call.within e ends.before b.call ends.at ends.is_in).0.0 in omega arith

    -- calls that are begun at one step are one
    same-number : (m n : ℕ) (a b : Operation) → slice_get (operations history) m ≡ Some a → slice_get (operations history) n ≡ Some b
        → (call_of m).begins ≡ (call_of n).begins → m ≡ n
    same-number m n a b here there same =
        let f = each m a here in
        let g = each n b there in
        let place = same-place a.inv b.inv (call_of m).begins (call_of n).begins (Invoke (call_of m).process a.call)
        (Invoke (call_of n).process b.call)
        f.begun_at g.begun_at same in
        ⊎_elim (λ equal. equal)
        (λ differ. ⊎_elim
        (λ before. let less = AllPairs-at (λ a b. a.inv < b.inv) (operations history) m n a b (inv_rises history) before here
        there in absurd (omega arith))
        (λ after. let less = AllPairs-at (λ a b. a.inv < b.inv) (operations history) n m b a (inv_rises history) after there
        here in absurd (omega arith))
        differ) (cases_order m n)

    distinct : (m n : ℕ) → m < length (operations history) → n < length (operations history) → (call_of m).process ≡ (call_of n).process
        → (call_of m).calls ≡ (call_of n).calls
        → m ≡ n
    distinct m n m_within n_within process calls =
        let (a, here) = slice_get-below (operations history) m m_within in
        let (b, there) = slice_get-below (operations history) n n_within in
        let f = each m a here in
        let g = each n b there in
        let up = not-before (call_of m) (call_of n) a b f g process calls in
        let down = not-before (call_of n) (call_of m) b a g f (sym process) (sym calls) in
        same-number m n a b here there (omega arith)

    precedence : WindowsKeepPrecedence (operations history) (λ n. (call_of n).begins) (λ n. last_step (call_of n).ends)
    precedence m n a b here there before =
        let f = each m a here in
        let g = each n b there in
        by_response a.response (call_of m).ends f.ended_at before
      where
        by_response : (response : Option Response) (o : Option ℕ) → EndsAtPlace (call_of m).process response o
            → is_before response b.inv ≡ true
            → last_step o < (call_of n).begins
        by_response None o ended_at before = cc
        by_response (Some r) None ended_at before = absurd ended_at
        by_response (Some r) (Some e) ended_at before =
            steps-go-up r.res b.inv e (call_of n).begins (Answer (call_of m).process r.reply) (Invoke (call_of n).process b.call) ended_at
            (each n b there).begun_at (ltb-true r.res b.inv before)

    all : (t : ℕ) (now : State) (p calls : ℕ) (call : Call) → At plan first schedule t now → IsIn now p calls call
        → (n : ℕ) × (n < length (operations history)) × ((call_of n).process ≡ p) × ((call_of n).calls ≡ calls)
    all t now p calls call at in_it =
        let (u, logs, count) = begun-before plan words schedule t now p calls call at in_it in
        let (place, is, here) = place-of-step u (Invoke p call) logs in
        let (n, a, at_n, inv) = invocation_at history place p call here in
        let f = each n a at_n in
        let same = same_Some ((call_of n).begins, Invoke (call_of n).process a.call) (u, Invoke p call)
        (sym f.begun_at ∙ (ap (slice_get trace.events) inv ∙ is)) in
        let step_same : (call_of n).begins ≡ u = ap (λ (x : Dated). x.0) same in
        let process_same : (call_of n).process ≡ p = ap (λ (x : Dated). process_of x.1) same in
        let first_step = f.run_call.begins in
        let process = same-process plan first schedule p u first_step.before logs.now first_step.process logs.process
        (subst (λ i. At plan first schedule i first_step.before) step_same first_step.at) logs.at
        (subst (λ i. slice_get first_step.before.processes i ≡ Some first_step.process) process_same first_step.own) logs.own in (
          n,
          slice_get_within (operations history) n a at_n,
          process_same,
          first_step.count ∙ (ap (λ q. length (begun q) + 1) process ∙ count),
        )

  has-calls : (call_of : ℕ → RunCall) → ((n : ℕ) (a : Operation) → slice_get (operations history) n ≡ Some a → Found a (call_of n))
      → HasCalls plan first schedule s
  unfolding history_of
  has-calls call_of each = record {
    call_of = call_of;
    each = λ n a here. (each n a here).run_call;
    distinct = distinct call_of each;
    precedence = precedence call_of each;
    all = all call_of each;
  }

  calls-of-run : HasCalls plan first schedule s
  calls-of-run =
      let no_call : RunCall = record { process = 0; calls = 0; begins = 0; ends = None } in
      let (call_of, each) = chosen no_call (operations history) (λ n a c. Found a c) find in
      has-calls call_of each

pub run-has-calls : RunsHaveCalls
run-has-calls plan start words schedule s run =
    let long = start-length plan.shape plan.variant start words run.starts in
    let zeroed = start-clock plan.shape plan.variant start words run.starts in
    let end : At plan (opened_on plan words) schedule (length schedule) s =
    subst (λ xs. Gives plan (opened_on plan words) xs s) (sym (take-length schedule)) run.gives in
    calls-of-run plan words schedule s (traced plan words schedule s run.within long zeroed run.gives run.few_steps
    (length schedule) s end) end
