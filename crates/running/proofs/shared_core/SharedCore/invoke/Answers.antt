use Rattle.running.proofs.Common.{◌≡◌, ◌<◌, IsTrue, rules, arith, refl, ap, subst, sym, ◌∙◌, step, Some, is_idle, calls_left, AllStamps, NumbersRise}
use Rattle.running.proofs.Common.{noted, with_asked}
use mathlib.Core.Option.{none}
use Rattle.running.proofs.SharedStepLemmas.{note-allowed, invocation-allowed}
use Rattle.running.proofs.RisingLemmas.{invoking-rises}
use Rattle.running.proofs.shared_core.SharedCore.invoke.Goals as goal

pub compare_exchange_with-requires : goal.compare_exchange_with-requires
compare_exchange_with-requires c =
    let core = c.args.self.now in (search rules, omega (arith, core.words), note-allowed _ core.limits _ _ _ c.requires.own.setup _)

pub fetch_add-requires : goal.fetch_add-requires
fetch_add-requires c =
    let core = c.args.self.now in
    let me = c.compare_exchange_with.new.seat.me in
    let v = c.args.place.now.seat.me.0.view in
    let is : me.0 ≡ noted v (Some c.args.call.now) = c.compare_exchange_with.ensures.2.1 c.args.call.now refl in (
      search rules,
      omega (arith, core.words),
      invocation-allowed _ core.limits _ _ me (ap (λ z. z.view.setup) is ∙ c.requires.own.setup) c.args.call.now
          (ap (λ z. z.asked) is) c.fits.ensures
          (subst (λ z. IsTrue (is_idle z.view)) (sym is) c.requires.idle) (subst (λ z. 0 < calls_left z.view) (sym is) c.requires.left)
          (step core.table.shared.table_id.slots 0 1 0 none),
    )

pub returns-clause-own : goal.returns-clause-own
returns-clause-own c =
    let is = c.compare_exchange_with.ensures.2.1 c.args.call.now refl in
    let made = c.fetch_add.ensures.2.1 in
    record {
      same = c.fetch_add.ensures.0 ∙ (c.compare_exchange_with.ensures.0 ∙ c.requires.own.same);
      setup = ap (λ z. z.setup) made ∙ (ap (λ z. (with_asked z.asked z.view c.fetch_add.result).setup) is ∙ c.requires.own.setup);
    }

pub returns-clause-invoked : goal.returns-clause-invoked
returns-clause-invoked c =
    c.fetch_add.ensures.2.1 ∙ ap (λ z. with_asked z.asked z.view c.fetch_add.result) (c.compare_exchange_with.ensures.2.1
    c.args.call.now refl)

pub returns-clause-later : goal.returns-clause-later
returns-clause-later c =
    subst (λ z. AllStamps (λ stamp. stamp < c.fetch_add.result) z.view) (c.compare_exchange_with.ensures.2.1 c.args.call.now refl)
    c.fetch_add.ensures.2.2

pub invariant_of-place-clause-rising : goal.invariant_of-place-clause-rising
invariant_of-place-clause-rising c =
    let is = c.compare_exchange_with.ensures.2.1 c.args.call.now refl in
    let made = c.fetch_add.ensures.2.1 ∙ ap (λ z. with_asked z.asked z.view c.fetch_add.result) is in
    subst NumbersRise (sym made) (invoking-rises c.args.call.now c.args.place.now.seat.me.0.view _ c.args.place.now.rising)
