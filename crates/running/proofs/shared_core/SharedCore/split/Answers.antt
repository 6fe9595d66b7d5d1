use Rattle.std.proofs.Common.{rules, arith}
use Rattle.running.proofs.SharedStepLemmas.{split-allowed}
use Rattle.running.proofs.shared_core.SharedCore.split.Goals as goal

pub split_seat-seat-requires : goal.split_seat-seat-requires
split_seat-seat-requires c =
    let core = c.args.self.now in (
      search rules,
      omega (arith, core.words),
      split-allowed _ core.limits core.table.shared.table_id.slots _ c.args.place.now.seat.me
          c.requires.own.setup,
    )
