use Rattle.std.proofs.Common.{◌∙◌, sym}
use Rattle.explain_histories.proofs.StepLemmas.{has_reply, end_step}
use Rattle.explain_histories.proofs.seats.Seats.end.Goals as goal

pub returns-in_default-clause-seated : goal.returns-in_default-clause-seated
returns-in_default-clause-seated c = λ count limit seated ends.
    let old = c.args.self.now in
    absurd (has_reply c.args.calls.now count limit old.free.items old.open_seats.items old.events.items c.args.at c.remove-seat.result c.requires
    c.remove-seat.ensures.value seated ends (sym c.in_ok-reply.ensures ∙ c.in_default.is))

pub returns-clause-seated : goal.returns-clause-seated
returns-clause-seated c = λ count limit seated ends.
    let old = c.args.self.now in
    end_step c.args.calls.now count limit old.free.items old.open_seats.items old.events.items c.args.at c.remove-seat.result c.requires
    c.remove-seat.ensures.value seated ends c.in-Some.reply c.push-2.new.self.items c.remove-seat.new.self.items c.push.new.self.items
    (sym c.in_ok-reply.ensures ∙ c.in-Some.is) c.in_ok-push-2.ensures.items c.remove-seat.ensures.by_index.2 c.in_ok-push.ensures.items
