use Rattle.follow_violations.proofs.Common.{kept_of, origin_in, IsNotedOnce, Origin, subst}
use Rattle.follow_violations.proofs.WriterLemmas.{once_all, once_more}
use Rattle.follow_violations.proofs.writers.origins_in.Goals as goal

pub loop-past-preserved : goal.loop-past-preserved
loop-past-preserved c =
    once_more (λ past. origin_in c.args.own.now c.args.key (kept_of past)) c.args.pasts.now c.loop-past.past-index c.past-item.result
    c.loop-past.from.items
    c.note_origin.new.from.items c.loop-past-test.true c.past-item.is c.loop-past.invariant
    (subst (λ (o : Origin). IsNotedOnce o c.loop-past.from.items c.note_origin.new.from.items) c.origin_in.ensures c.in_ok-note_origin.ensures)

pub returns : goal.returns
returns c =
    let all = once_all (λ past. origin_in c.args.own.now c.args.key (kept_of past)) c.args.pasts.now c.loop-past.past-index c.loop-past.from.items
    c.loop-past-test.false c.loop-past.invariant in record { distinct = all.distinct; same = all.same }
