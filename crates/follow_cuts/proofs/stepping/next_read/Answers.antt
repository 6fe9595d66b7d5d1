use Rattle.follow_cuts.proofs.Common.{length, refl, slice_get_read}
use Rattle.follow_cuts.proofs.EndLemmas.{read_at}
use Rattle.follow_cuts.proofs.stepping.next_read.Goals as goal

pub returns-then-may_come : goal.returns-then-may_come
returns-then-may_come c =
    read_at c.args.answered c.args.calls.now c.args.position.now c.loop-place.place c.index-calls-place.result
    (slice_get_read c.args.calls.now (length c.args.calls.now) c.loop-place.place c.index-calls-place.result refl c.loop-place-test.true
    c.index-calls-place.is)
    (c.is_read.ensures.0 c.if-not-is_read.false) (c.may_come.ensures.0 c.if-may_come.true)
