use Rattle.std.proofs.Common.{length, ap, arith}
use Rattle.follow_pasts.proofs.OpenReadLemmas.{read_ended}
use Rattle.follow_pasts.proofs.open_reads.end_in.Goals as goal

pub returns-then-index-inv : goal.returns-then-index-inv
returns-then-index-inv c =
    let so = c.loop-place.invariant in
    read_ended c.args.inv c.args.reads.now.items c.loop-place.reads.items c.remove-ended.new.self.items c.loop-place.place c.remove-ended.result
    c.index.result.now so
    (omega (arith, c.args.reads.now.ok.0, c.len-place-end.ensures, c.loop-place-test.true, ap length so.same)) c.remove-ended.ensures.value
    c.index.ensures c.if-index-inv.true c.remove-ended.ensures.items
