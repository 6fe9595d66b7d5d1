-- A serial schedule is a list of calls that run alone: at each moment of it at most one call is open, and that one has run alone so far.
use Rattle.art_schedules.proofs.Common.{◌≡◌, ℕ, ◌+◌, ◌^◌, ◌<◌, List, [], ◌∷◌, arith, refl, sym, subst, inl, inr, Option, same_Some}
use Rattle.art_schedules.proofs.Common.{All-from_contains, Plan, State, opened_on, history_of, step, run_on, HasFewSteps, IsPlan, IsSerial}
use Rattle.art_schedules.proofs.Common.{IsLogged, logged, is-moved, nowhere, opened-logged, SerialRun}
use Rattle.std.specs.Prelude.{◌⊎◌, Some, None}
use Rattle.events.proofs.Lists.{place_of-Contains}
use Rattle.art_core.proofs.HistoryLemmas.{one-move, one-step, steps-rise, all_steps, calls-within}
use Rattle.art_schedules.specs.serial.Serial.{HasRunAlone}
use Rattle.art_schedules.specs.serial.Laws.{SerialSchedulesRunAlone}
use Rattle.art_schedules.proofs.serial.OrderlyLemmas.{AreTreeCalls, IsAtRest, HasOneInCall, IsOrderly, one-more, opened-orderly}
use Rattle.art_schedules.proofs.serial.SerialHistoryLemmas.{calls_of, so-far, not-open, calls-counted, calls-are-done}

-- What each step keeps is so of each state of a schedule.
pub along : (plan : Plan) (P : State → Type 0)
    → ((t : State) (p : ℕ) (next : State) → step plan t p ≡ Some next → HasFewSteps next → P t → P next)
    → (schedule : List ℕ) (t s : State) → run_on plan (Some t) schedule ≡ Some s → HasFewSteps s → P t → P s
along plan P keeps [] t s gives few h = subst P (same_Some t s gives) h
along plan P keeps (p ∷ schedule) t s gives few h = go (step plan t p) refl (λ next. along plan P keeps schedule next s) gives
  where
    go : (o : Option State) → step plan t p ≡ o
        → ((next : State) → run_on plan (Some next) schedule ≡ Some s → HasFewSteps s → P next → P s)
        → run_on plan o schedule ≡ Some s → P s
    go None e later k = absurd (nowhere plan schedule s k)
    go (Some next) e later k =
        let bound = steps-rise plan schedule next s k in
        let fewer : HasFewSteps next = omega arith in
        later next k few (keeps t p next e fewer h)

-- one step of it
pub orderly-step : (plan : Plan) (first : List ℕ) → IsPlan plan → (t : State) (p : ℕ) (next : State) → step plan t p ≡ Some next
    → HasFewSteps next
    → IsLogged plan t × IsOrderly plan first t → IsLogged plan next × IsOrderly plan first next
orderly-step plan first within t p next e few h =
    let m = is-moved plan t p next e in
    let fewer : all_steps t + 1 < 2 ^ 61 = omega (arith, one-step plan t p next e) in (
      subst (IsLogged plan) (sym m.is) (one-move plan within t p m.process h.0 m.here fewer m.process.call m.move refl m.is_next),
      subst (IsOrderly plan first) (sym m.is) (one-more plan first within t p m.process h.0 m.here m.process.call m.move
          refl m.is_next h.1),
    )

at-end : (plan : Plan) (first : List ℕ) (s : State) → IsSerial (logged s.processes) → IsAtRest plan first s ⊎ HasOneInCall plan first s
    → IsAtRest plan first s
at-end plan first s serial (inl r) = r
at-end plan first s serial (inr o) = absurd (not-open o.3.before o.0 o.2 o.3.serial (subst IsSerial o.3.history serial))

-- the calls of the history, where it is serial
pub runs-alone : (plan : Plan) (first : List ℕ) (s : State) → IsLogged plan s → IsOrderly plan first s → IsSerial (logged s.processes)
    → HasRunAlone plan first s (calls_of (logged s.processes))
unfolding history_of
runs-alone plan first s logs orderly serial =
    let r = at-end plan first s serial (orderly (so-far (logged s.processes) serial)) in
    record {
      run = subst (λ es. SerialRun plan.shape plan.variant first (calls_of es) s.words) (sym r.history) r.run;
      operations = calls-are-done 0 (logged s.processes) serial;
      idle = All-from_contains (λ q. q.call ≡ None) s.processes
          (λ q in-it. let at = place_of-Contains s.processes q in-it in r.idle at.0 q at.1);
      calls = subst (λ es. AreTreeCalls (calls_of es)) (sym r.history) r.calls;
      few =
          let counted = calls-counted (logged s.processes) serial in
          omega (arith, logs.calls, calls-within s.processes plan.scripts logs.scripts);
    }

pub serial-runs-alone : SerialSchedulesRunAlone
unfolding history_of
serial-runs-alone plan first schedule s h serial =
    let run = along plan (λ t. IsLogged plan t × IsOrderly plan first t) (orderly-step plan first h.within) schedule
    (opened_on plan first) s
    h.gives h.few_steps (opened-logged plan first h.table h.clock_zero, opened-orderly plan first) in
    (calls_of (logged s.processes), runs-alone plan first s run.0 run.1 serial)
