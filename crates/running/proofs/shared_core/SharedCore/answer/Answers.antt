use Rattle.running.proofs.Common.{rules, arith, subst, sym, step, NumbersRise}
use mathlib.Core.Option.{none}
use Rattle.running.proofs.SharedStepLemmas.{response-allowed}
use Rattle.running.proofs.RisingLemmas.{advanced-rises}
use Rattle.running.proofs.shared_core.SharedCore.answer.Goals as goal

pub fetch_add-requires : goal.fetch_add-requires
fetch_add-requires c =
    let core = c.args.self.now in
    let st = step core.table.shared.table_id.slots 0 1 0 none in
    (search rules, omega (arith, core.words), response-allowed _ core.limits _ _ _ c.requires.own.setup _ c.requires.next.1 st)

pub invariant_of-place-clause-rising : goal.invariant_of-place-clause-rising
invariant_of-place-clause-rising c = subst NumbersRise (sym c.fetch_add.ensures.2.0.1) (advanced-rises c.args.place.now.seat.me.0.view _
    c.args.place.now.rising)
