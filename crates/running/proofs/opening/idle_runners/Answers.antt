use Rattle.running.proofs.Common.{◌+◌, map, refl, sym, subst, arith, range_with_len, Fit}
use Rattle.running.proofs.FitLemmas.{first_process, fits-idle, fit-idle-more}
use Rattle.running.proofs.opening.idle_runners.Goals as goal

pub loop-number-preserved : goal.loop-number-preserved
loop-number-preserved c =
    let i = c.loop-number.invariant in
    let n = c.loop-number.number in
    let il = i.long in
    let ir = i.room in
    let pl = c.in_ok-push.ensures.len in
    let pc = c.in_ok-push.ensures.capacity in
    record {
      fit = subst (Fit c.args.setup (map first_process (range_with_len 0 (n + 1)))) (sym c.in_ok-push.ensures.items)
          (fit-idle-more c.args.setup n c.loop-number.runners.items _ i.fit (fits-idle c.args.setup n _ refl refl c.new.ensures.items));
      long = omega arith;
      room = omega arith;
    }
