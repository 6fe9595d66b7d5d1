use Rattle.running.proofs.Common.{◌≡◌, ◌≤◌, length, rules, arith, subst, step, Ended}
use mathlib.Core.Option.{none}
use Rattle.running.proofs.EndLemmas.{look-allowed}
use Rattle.running.proofs.shared_core.SharedCore.look.Goals as goal

pub load-requires : goal.load-requires
load-requires c =
    let core = c.args.self.now in
    let me = c.args.place.now.seat.me in (
      search rules,
      omega (arith, core.words),
      look-allowed core.table.shared.key core.limits core.table.shared.table_id.slots _ me c.requires.own.setup
          (step core.table.shared.table_id.slots 0 0 0 none),
    )

pub returns-clause-few : goal.returns-clause-few
returns-clause-few c =
    subst (λ z. length c.args.place.now.seat.me.0.view.processes ≤ z.processes) c.requires.own.setup c.load.ensures.2.2

pub returns-clause-all : goal.returns-clause-all
returns-clause-all c =
    subst (λ z. length c.args.place.now.seat.me.0.view.processes ≡ z.processes → Ended z c.args.place.now.seat.me.0.view)
    c.requires.own.setup
    c.load.ensures.2.3
