use Rattle.std.proofs.Common.{arith, length-take}
use Rattle.cli_io.proofs.ProgressLemmas.{ConsumesAtMost-more}
use Rattle.std.proofs.lemmas.Result.{err_from_is_err_and}
use Rattle.cli_io.proofs.reading.read_up_to.Goals as goal

pub returns-in_err-count-clause-stopped : goal.returns-in_err-count-clause-stopped
returns-in_err-count-clause-stopped g c =
    let exit = err_from_is_err_and c.from_residual-in_err-count.result c.from_residual-in_err-count.ensures.1 in
    rw exit.1
    (ConsumesAtMost-more _ _ _ _ _ _ (omega (arith, length-take c.min-room.result c.deref_mut.result.now))
    c.loop-chunk.invariant.consumed c.in_err-count.ensures.stopped)
