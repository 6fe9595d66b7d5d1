-- The map of a run has no more pairs than it started with and calls were begun.
use Rattle.art_schedules.proofs.Common.{◌≡◌, ℕ, zero, suc, ◌+◌, ◌<◌, ◌≤◌, Bool, true, false, List, [], ◌∷◌, length, refl, ap, sym, subst, ◌∙◌}
use Rattle.art_schedules.proofs.Common.{arith, All, AllPairs, Option, Some, None, false≢true, All-cons, All-nil, AllPairs-cons, AllPairs-nil}
use Rattle.art_schedules.proofs.Common.{slice_get-below, Call, Operation, Response, operations, Contents, legal_from_DoesCall, Plan, State}
use Rattle.art_schedules.proofs.Common.{history_of, opened_on, At, IsRun, opened-logged, start-length, start-clock, IsIn, IsRunCall, HasCalls}
use Rattle.art_schedules.proofs.Common.{IsStepOf, ChangesOnce, Pends, HaveEffects, HasOwnEffect}
use Rattle.std.proofs.Common.{map, sum}
use Rattle.std.specs.Prelude.{◌≢◌}
use Rattle.std.proofs.lemmas.List.Elements.{All-weaker}
use Rattle.events.proofs.Lists.{length-distinct_below}
use Rattle.events.proofs.OperationLemmas.{length-operations_from}
use Rattle.orders.specs.Orders.{after_call}
use Rattle.art_core.proofs.HistoryLemmas.{calls-within, logged-on}
use Rattle.art_schedules.proofs.maps.LengthLemmas.{after-few, after_reply-few}
use Rattle.art_schedules.specs.calls.Effects.{Changes, Finds}
use Rattle.art_schedules.specs.calls.FewPairs.{ChangesIn, GrowByCalls, PairsStayFew, EffectsKeepFewPairs}
use Rattle.art_schedules.proofs.calls.RunCallLemmas.{run-has-calls}

-- ---- a call adds one pair at most

after-call-few : (m : Contents) (call : Call) (response : Option Response) → length (after_call m call response) ≤ length m + 1
after-call-few m call None = after-few m call
after-call-few m call (Some response) = after_reply-few m call response.reply

-- ---- a run has no more calls than its scripts

few-operations : (plan : Plan) (start : Contents) (words schedule : List ℕ) (s : State) → IsRun plan start words schedule s
    → length (operations (history_of s)) ≤ sum (map (λ script. length script) plan.scripts)
unfolding history_of
few-operations plan start words schedule s run =
    let first = opened-logged plan words (start-length plan.shape plan.variant start words run.starts)
    (start-clock plan.shape plan.variant start words run.starts) in
    let is = logged-on plan run.within schedule (opened_on plan words) s first run.gives run.few_steps in
    omega (arith, length-operations_from 0 (history_of s), is.calls, calls-within s.processes plan.scripts is.scripts)

-- ---- so the pairs are few

module _ (plan : Plan) (start : Contents) (first : State) (schedule : List ℕ) (s : State) (h : HasCalls plan first schedule s) where
  abbrev calls : List Operation
  calls = operations (history_of s)

  -- the call that a process was in when its step changed the pairs
  record TheCall (p number : ℕ) : Type 0 where
    n : ℕ
    known : n < length calls
    process : (h.call_of n).process ≡ p
    count : (h.call_of n).calls ≡ number
    operation : Operation
    is : IsRunCall plan first schedule operation (h.call_of n)

  the-call : (t p number : ℕ) (now : State) (call : Call) → At plan first schedule t now → IsIn now p number call → TheCall p number
  the-call t p number now call at in-it =
      let (n, known, process, count) = h.all t now p number call at in-it in
      let (a, here) = slice_get-below calls n known in
      record { n = n; known = known; process = process; count = count; operation = a; is = h.each n a here }

  -- each step of the process in that call is one of the call's
  its-step : (changes : ℕ → Bool) (p number : ℕ) (c : TheCall p number) (t : ℕ) → ChangesIn plan first schedule changes t p number
      → IsStepOf schedule (h.call_of c.n) t
  its-step changes p number c t x =
      let is_in : IsIn x.now (h.call_of c.n).process (h.call_of c.n).calls x.call =
      subst (λ i. IsIn x.now i (h.call_of c.n).calls x.call) (sym c.process) (subst (λ i. IsIn x.now p i x.call) (sym c.count) x.is_in) in
      (x.turn ∙ ap Some (sym c.process), (c.is.within t x.now x.call x.at is_in).0)

  module _ (pairs : ℕ → Contents) (changes : ℕ → Bool) (g : GrowByCalls plan start first schedule pairs changes) where
    -- call n has changed the pairs before moment t
    abbrev HasChangedBy : ℕ → ℕ → Type 0
    HasChangedBy t n = (u : ℕ) × (u < t) × ChangesIn plan first schedule changes u (h.call_of n).process (h.call_of n).calls

    -- the calls that have changed the pairs before moment t
    record Counted (t : ℕ) : Type 0 where
      numbers : List ℕ
      few : length (pairs t) ≤ length start + length numbers
      known : All (λ n. n < length calls) numbers
      distinct : AllPairs (λ m n. m ≢ n) numbers
      changed : All (HasChangedBy t) numbers

    later : (t n : ℕ) → HasChangedBy t n → HasChangedBy (t + 1) n
    later t n (u, before, is) = (u, omega (arith, before), is)

    module _ (t : ℕ) (less : t < length schedule) (before : Counted t) where
      kept : changes t ≡ false → Counted (t + 1)
      kept none = record {
        numbers = before.numbers;
        few = omega (arith, before.few, ap (λ m. length m) (g.stay t less none));
        known = before.known;
        distinct = before.distinct;
        changed = All-weaker (HasChangedBy t) (HasChangedBy (t + 1)) (later t) before.numbers before.changed;
      }

      -- a call that changes them now has not done so before
      fresh : (n m : ℕ) → ChangesIn plan first schedule changes t (h.call_of n).process (h.call_of n).calls → HasChangedBy t m → n ≢ m
      fresh n m own (u, earlier, is) same =
          let its : ChangesIn plan first schedule changes u (h.call_of n).process (h.call_of n).calls =
          subst (λ i. ChangesIn plan first schedule changes u (h.call_of i).process (h.call_of i).calls) (sym same) is in
          absurd (omega (arith, earlier, g.once t u (h.call_of n).process (h.call_of n).calls own its))

      grown : changes t ≡ true → Counted (t + 1)
      grown change =
          let (p, turn) = slice_get-below schedule t less in
          let (now, number, call, at, in-it) = g.in_call t p turn change in
          let c = the-call t p number now call at in-it in
          let own : ChangesIn plan first schedule changes t (h.call_of c.n).process (h.call_of c.n).calls = record {
            change = change;
            turn = turn ∙ ap Some (sym c.process);
            now = now;
            at = at;
            call = call;
            is_in = subst (λ i. IsIn now i (h.call_of c.n).calls call) (sym c.process) (subst (λ i. IsIn now p i call) (sym c.count) in-it);
          } in
          record {
            numbers = c.n ∷ before.numbers;
            few = omega (arith, before.few, g.grow t less change);
            known = All-cons (λ n. n < length calls) c.n before.numbers c.known before.known;
            distinct = AllPairs-cons (λ (m n : ℕ). m ≢ n) c.n before.numbers
                (All-weaker (HasChangedBy t) (λ m. c.n ≢ m) (λ m k. fresh c.n m own k) before.numbers before.changed) before.distinct;
            changed = All-cons (HasChangedBy (t + 1)) c.n before.numbers (t, omega arith, own)
                (All-weaker (HasChangedBy t) (HasChangedBy (t + 1)) (later t) before.numbers before.changed);
          }

      counted-next : (b : Bool) → changes t ≡ b → Counted (suc t)
      counted-next false none = subst Counted (omega arith) (kept none)
      counted-next true change = subst Counted (omega arith) (grown change)

    counted : (t : ℕ) → t ≤ length schedule → Counted t
    counted zero most = record {
      numbers = [];
      few = omega (arith, ap (λ m. length m) g.begins);
      known = All-nil (λ n. n < length calls);
      distinct = AllPairs-nil (λ (m n : ℕ). m ≢ n);
      changed = All-nil (HasChangedBy 0);
    }
    counted (suc t) most = counted-next t (omega (arith, most)) (counted t (omega (arith, most))) (changes t) refl

    pub pairs-below : (t : ℕ) → t ≤ length schedule → length (pairs t) ≤ length start + length calls
    pairs-below t most = let k = counted t most in omega (arith, k.few, length-distinct_below k.numbers (length calls) k.distinct k.known)

  -- if each call has its effect, pairs grow so
  module _ (e : HaveEffects plan start first schedule) where
    changes-once : (p number : ℕ) (c : TheCall p number) (t : ℕ) → ChangesIn plan first schedule e.changes t p number
        → ChangesOnce schedule e.pairs e.changes c.operation (h.call_of c.n)
    changes-once p number c t own = go (e.each c.operation (h.call_of c.n) c.is)
      where
        go : HasOwnEffect schedule e.pairs e.changes c.operation (h.call_of c.n)
            → ChangesOnce schedule e.pairs e.changes c.operation (h.call_of c.n)
        go (Changes x) = x
        go (Finds x) = absurd (false≢true (sym (x.nothing t (its-step e.changes p number c t own)) ∙ own.change))
        go (Pends pending nothing) = absurd (false≢true (sym (nothing t (its-step e.changes p number c t own)) ∙ own.change))

    once : (t u p number : ℕ) → ChangesIn plan first schedule e.changes t p number
        → ChangesIn plan first schedule e.changes u p number → t ≡ u
    once t u p number one two =
        let c = the-call t p number one.now one.call one.at one.is_in in
        let x = changes-once p number c t one in
        x.only t (its-step e.changes p number c t one) one.change ∙ sym (x.only u (its-step e.changes p number c u two) two.change)

    grow : (t : ℕ) → t < length schedule → e.changes t ≡ true → length (e.pairs (t + 1)) ≤ length (e.pairs t) + 1
    grow t less change =
        let (p, turn) = slice_get-below schedule t less in
        let (now, number, call, at, in-it) = e.in_call t p turn change in
        let c = the-call t p number now call at in-it in
        let own : ChangesIn plan first schedule e.changes t p number =
        record { change = change; turn = turn; now = now; at = at; call = call; is_in = in-it } in
        let x = changes-once p number c t own in
        let same : t ≡ x.t = x.only t (its-step e.changes p number c t own) change in
        let next : e.pairs (t + 1) ≡ after_call (e.pairs t) c.operation.call c.operation.response =
        subst (λ i. e.pairs (i + 1) ≡ after_call (e.pairs i) c.operation.call c.operation.response) (sym same)
        (legal_from_DoesCall (e.pairs x.t) c.operation.call c.operation.response (e.pairs (x.t + 1)) x.does).1 in
        omega (arith, ap (λ m. length m) next, after-call-few (e.pairs t) c.operation.call c.operation.response)

    effects-grow : GrowByCalls plan start first schedule e.pairs e.changes
    effects-grow = record { begins = e.begins; stay = e.stay; in_call = e.in_call; grow = grow; once = once }

pub pairs-few : PairsStayFew
pairs-few plan start words schedule s pairs changes run g t most =
    let h = run-has-calls plan start words schedule s run in
    omega (
      arith,
      pairs-below plan start (opened_on plan words) schedule s h pairs changes g t most,
      few-operations plan start words schedule s run,
      run.start_within.few,
    )

pub effects-few : EffectsKeepFewPairs
effects-few plan start words schedule s run effects t most =
    pairs-few plan start words schedule s effects.pairs effects.changes run
    (effects-grow plan start (opened_on plan words) schedule s (run-has-calls plan start words schedule s run) effects) t most
