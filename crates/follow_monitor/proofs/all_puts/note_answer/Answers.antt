use Rattle.follow_monitor.proofs.Common.{Buffer, AreLastPuts, Put, begun, is_reported, ◌++◌, ◌∷◌, sym, subst}
use Rattle.follow_monitor.proofs.PutLemmas.{puts_answered, puts_answered_none}
use Rattle.follow_monitor.proofs.all_puts.note_answer.Goals as goal

pub returns-in-Some-clause-puts : goal.returns-in-Some-clause-puts
returns-in-Some-clause-puts c front back place rising earlier h =
    let old = c.args.recent.now in
    let calls = front ++ is_reported (begun c.args.call.now c.args.event) c.args.reply.now place ∷ back in
    subst (λ (b : Buffer Put). AreLastPuts old.capacity calls b.items) (sym c.push_back-oldest.ensures.items)
    (puts_answered old.capacity front back c.args.call.now c.args.event c.args.reply.now place rising earlier old.items c.in-Some.put
    (c.in-Some.ensures place) h)

pub returns-in_default-clause-puts : goal.returns-in_default-clause-puts
returns-in_default-clause-puts c front back place rising earlier h =
    let old = c.args.recent.now in
    puts_answered_none old.capacity front back c.args.call.now c.args.event c.args.reply.now place rising earlier old.items
    (c.in_default.ensures place) h
