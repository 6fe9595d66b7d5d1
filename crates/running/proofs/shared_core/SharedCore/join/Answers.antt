use Rattle.running.proofs.Common.{rules, arith, ap, subst, sym, NumbersRise}
use Rattle.running.proofs.SharedStepLemmas.{join-allowed}
use Rattle.running.proofs.RisingLemmas.{merged-rises}
use Rattle.running.proofs.shared_core.SharedCore.join.Goals as goal

pub join_seat-requires : goal.join_seat-requires
join_seat-requires c =
    let core = c.args.self.now in (
      search rules,
      search rules,
      search rules,
      omega (arith, core.words),
      join-allowed _ core.limits core.table.shared.table_id.slots _ c.args.place.now.seat.me c.requires.own.setup _ _,
    )

pub invariant_of-place-clause-rising : goal.invariant_of-place-clause-rising
invariant_of-place-clause-rising c =
    subst NumbersRise (sym (ap (λ z. z.0.view) c.join_seat.ensures.2))
    (merged-rises c.args.place.now.seat.me.0.view c.args.other.seat.me.0.view c.args.place.now.rising)
