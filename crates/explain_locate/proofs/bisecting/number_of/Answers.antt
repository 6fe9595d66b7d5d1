use Rattle.std.proofs.Common.{arith, ap, length}
use Rattle.explain_locate.proofs.BisectionLemmas.{answer_within}
use Rattle.explain_locate.proofs.bisecting.number_of.Goals as goal

pub unreachable-requires : goal.unreachable-requires
unreachable-requires c =
    let history = c.args.history.now in
    let (number, wrong) = c.orders_are_lost_at_answers.ensures history c.args.event c.calls-calls.ensures.history c.requires.within
    c.requires.before c.requires.after in
    let among = answer_within history.events number c.args.event wrong.answer in
    let end = c.loop-number-test.false in
    c.loop-number.invariant number (omega (arith, among, end, ap length c.calls-calls.ensures.calls)) wrong.answer
