-- A run whose calls have their effects within them has points.
use Rattle.art_schedules.proofs.Common.{◌≡◌, ℕ, ◌+◌, ◌<◌, ◌≤◌, Bool, true, false, List, length, refl, sym, ap, ◌∙◌, subst, inl, inr, ⊎_elim}
use Rattle.art_schedules.proofs.Common.{arith, slice_get, IsTrue, IsSome, IfSome, is_some, false≢true, same_Some, slice_get_within}
use Rattle.art_schedules.proofs.Common.{slice_get-below, Operation, Response, operations, is_completed, Contents, after_calls, calls_at, IsOrder}
use Rattle.art_schedules.proofs.Common.{DoesCall, HasPoint, AllKeep, OneLeads, TakeEffect, HasPoints, Plan, State, begun, history_of, opened_on}
use Rattle.art_schedules.proofs.Common.{IsIn, RunCall, IsWithin, EndsWith, IsRunCall, last_step, HasCalls, IsStepOf, ChangesNothing, ChangesOnce}
use Rattle.art_schedules.proofs.Common.{Pends, IsInCallAt, HaveEffects, HasOwnEffect, EffectsGiveOrders}
use Rattle.std.proofs.Common.{Option, Some, None}
use Rattle.std.specs.Prelude.{◌≢◌, ◌⊎◌}
use Rattle.events.proofs.NumberLemmas.{some_at}
use Rattle.orders.specs.Orders.{IsCompletedAt}
use Rattle.art_schedules.specs.points.Windows.{AreWithinWindows}
use Rattle.art_schedules.proofs.points.ChoiceLemmas.{chosen}
use Rattle.art_schedules.proofs.points.PointLemmas.{calls_by_point}
use Rattle.art_schedules.proofs.points.WindowLemmas.{precedence_from_windows}
use Rattle.art_schedules.specs.calls.Effects.{Changes, Finds}
use Rattle.art_schedules.specs.calls.Laws.{EffectsLeavePairs}
use Rattle.art_schedules.proofs.calls.RunCallLemmas.{run-has-calls}

module _ (plan : Plan) (start : Contents) (first : State) (schedule : List ℕ) (s : State) (h : HasCalls plan first schedule s)
    (e : HaveEffects plan start first schedule) where
  abbrev calls : List Operation
  calls = operations (history_of s)

  -- the point of a call is where it has its effect
  abbrev IsPointOf : Operation → RunCall → Option ℕ → Type 0
  IsPointOf a c None = (a.response ≡ None) × ChangesNothing schedule e.changes c
  IsPointOf a c (Some t) =
      (t < length schedule) × IsWithin c t
      × (((x : ChangesOnce schedule e.pairs e.changes a c) × (x.t ≡ t))
      ⊎ (DoesCall (e.pairs t) a.call a.response (e.pairs t) × ChangesNothing schedule e.changes c))

  point_of : (a : Operation) (c : RunCall) → IsRunCall plan first schedule a c → HasOwnEffect schedule e.pairs e.changes a c
      → (o : Option ℕ) × IsPointOf a c o
  point_of a c is (Changes x) = (Some x.t, (slice_get_within schedule x.t c.process x.own.0, x.own.1, inl (x, refl)))
  point_of a c is (Pends pending nothing) = (None, (pending, nothing))
  point_of a c is (Finds x) = by_response a.response refl c.ends is.ends x.within.1
    where
      by_response : (response : Option Response) → a.response ≡ response → (o : Option ℕ) → EndsWith plan first schedule c a.call response o
          → IfSome o (λ e. x.t ≤ e) → (o : Option ℕ) × IsPointOf a c o
      by_response None pending o ends le = (None, (pending, x.nothing))
      by_response (Some r) answered None ends le = absurd ends
      by_response (Some r) answered (Some u) ends le =
          let within = slice_get_within schedule u c.process ends.turn in
          (Some x.t, (omega arith, x.within, inr (x.does, x.nothing)))

  module _ (points : ℕ → Option ℕ) (each : (n : ℕ) (a : Operation) → slice_get calls n ≡ Some a → IsPointOf a
      (h.call_of n) (points n)) where
    pointed : (n t : ℕ) (a : Operation) → HasPoint calls points n a t → IsPointOf a (h.call_of n) (Some t)
    pointed n t a has = subst (IsPointOf a (h.call_of n)) has.point (each n a has.call)

    complete : (n : ℕ) → IsCompletedAt calls n → IsSome (points n)
    complete n done =
        let (a, here, completed) = some_at (slice_get calls n) (λ a. IsTrue (is_completed a)) done in
        by_point (points n) a completed (each n a here)
      where
        by_point : (o : Option ℕ) (a : Operation) → IsTrue (is_completed a) → IsPointOf a (h.call_of n) o → IsSome o
        by_point (Some t) a completed is = refl
        by_point None a completed is = rw is.0 at completed

    windows : AreWithinWindows calls points (λ n. (h.call_of n).begins) (λ n. last_step (h.call_of n).ends)
    windows n p a has =
        let window = (pointed n p a has).1 in
        (omega (arith, window.0), λ completed. until a.response (h.call_of n).ends completed (h.each n a has.call).ends window.1)
      where
        until : (response : Option Response) (o : Option ℕ) → IsTrue (is_some response)
            → EndsWith plan first schedule (h.call_of n) a.call response o
            → IfSome o (λ e. p ≤ e) → p ≤ last_step o
        until None o completed ends le = cc
        until (Some r) None completed ends le = absurd ends
        until (Some r) (Some t) completed ends le = le

    -- the calls at a step that changes nothing find the pairs there
    kept : (t : ℕ) → e.changes t ≡ false → AllKeep calls points t (e.pairs t)
    kept t none n a has = ⊎_elim
        (λ x. absurd (false≢true (sym none ∙ subst (λ i. e.changes i ≡ true) x.1 x.0.change)))
        (λ x. x.0) (pointed n t a has).2

    -- at a step that changes them one call leads on
    led : (t p : ℕ) → slice_get schedule t ≡ Some p → e.changes t ≡ true → IsInCallAt plan first schedule t p
        → OneLeads calls points t (e.pairs t) (e.pairs (t + 1))
    led t p turn change (now, count, call, at, in_it) =
        let (n, n_within, process, number) = h.all t now p count call at in_it in
        let (a, here) = slice_get-below calls n n_within in
        let c = h.call_of n in
        let is_in : IsIn now c.process c.calls call =
        subst (λ i. IsIn now i c.calls call) (sym process) (subst (λ i. IsIn now p i call) (sym number) in_it) in
        let window = ((h.each n a here).within t now call at is_in).0 in
        let own : IsStepOf schedule c t = (turn ∙ ap Some (sym process), window) in
        leads n a here own (points n) refl (each n a here)
      where
        others : (n : ℕ) (a : Operation) → slice_get calls n ≡ Some a → IsStepOf schedule (h.call_of n) t → (m : ℕ) (b : Operation)
            → HasPoint calls points m b t → m ≢ n → DoesCall (e.pairs t) b.call b.response (e.pairs t)
        others n a here own m b has differ = ⊎_elim
            (λ x.
            let its : IsStepOf schedule (h.call_of m) t = subst (IsStepOf schedule (h.call_of m)) x.1 x.0.own in
            let i = (h.each m b has.call).during t now at its.1 in
            let j = (h.each n a here).during t now at own.1 in
            let process = same_Some (h.call_of m).process (h.call_of n).process (sym its.0 ∙ own.0) in
            let one = same_Some i.process j.process (sym i.own ∙ (ap (slice_get now.processes) process ∙ j.own)) in
            let number : (h.call_of m).calls ≡ (h.call_of n).calls = sym i.count ∙ (ap (λ q. length (begun q)) one ∙ j.count) in
            absurd (differ (h.distinct m n (slice_get_within calls m b has.call) (slice_get_within calls n a here) process number)))
            (λ x. x.0) (pointed m t b has).2

        leads : (n : ℕ) (a : Operation) → slice_get calls n ≡ Some a → IsStepOf schedule (h.call_of n) t → (o : Option ℕ) → points n ≡ o
            → IsPointOf a (h.call_of n) o → OneLeads calls points t (e.pairs t) (e.pairs (t + 1))
        leads n a here own None point is = absurd (false≢true (sym (is.1 t own) ∙ change))
        leads n a here own (Some u) point is = ⊎_elim
            (λ x.
            let same : t ≡ u = x.0.only t own change ∙ x.1 in
            let back : x.0.t ≡ t = x.1 ∙ sym same in
            record {
              number = n;
              call = a;
              has = record { call = here; point = point ∙ ap Some (sym same) };
              leads = subst (λ i. DoesCall (e.pairs i) a.call a.response (e.pairs (i + 1))) back x.0.does;
              others = others n a here own;
            })
            (λ x. absurd (false≢true (sym (x.1 t own) ∙ change))) is.2

    effect_at : (t : ℕ) → t < length schedule → TakeEffect calls points t (e.pairs t) (e.pairs (t + 1))
    effect_at t within = by_test (e.changes t) refl
      where
        by_test : (b : Bool) → e.changes t ≡ b → TakeEffect calls points t (e.pairs t) (e.pairs (t + 1))
        by_test false none = inl (kept t none, e.stay t within none)
        by_test true change = let (p, turn) = slice_get-below schedule t within in inr (led t p turn change (e.in_call t p turn change))

    abbrev points-of-run : HasPoints start calls
    points-of-run = record {
      points = points;
      bound = length schedule;
      pairs = e.pairs;
      begins = e.begins;
      complete = complete;
      below = λ n p a has. (pointed n p a has).0;
      precedence =
          precedence_from_windows calls points (λ n. (h.call_of n).begins) (λ n. last_step (h.call_of n).ends) h.precedence windows;
      effects = effect_at;
    }

  order-of-run : (order : List ℕ) × IsOrder start calls order × (after_calls start (calls_at calls order) ≡ e.pairs (length schedule))
  order-of-run =
      let (points, each) = chosen None calls (λ n a o. IsPointOf a (h.call_of n) o)
      (λ n a here. let is = h.each n a here in point_of a (h.call_of n) is (e.each a (h.call_of n) is)) in
      let (order, is, rising, after) = calls_by_point start calls (points-of-run points each) in
      (order, is, after)

pub pairs-from-effects : EffectsLeavePairs
pairs-from-effects plan start words schedule s run effects =
    order-of-run plan start (opened_on plan words) schedule s (run-has-calls plan start words schedule s run) effects

pub orders-from-effects : EffectsGiveOrders
orders-from-effects plan start words schedule s run effects =
    let (order, is, after) = pairs-from-effects plan start words schedule s run effects in (order, is)
