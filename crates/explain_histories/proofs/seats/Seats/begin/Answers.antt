use Rattle.explain_histories.proofs.Common.{◌∙◌, sym, nil_from_length}
use Rattle.explain_histories.proofs.StepLemmas.{none_free, begin_step}
use Rattle.explain_histories.proofs.seats.Seats.begin.Goals as goal

pub returns-in_default : goal.returns-in_default
returns-in_default c = λ place seated none place_is follows.
    let old = c.args.self.now in
    none_free c.args.calls.now c.args.number place old.free.items old.open_seats.items old.events.items c.requires seated none place_is follows
    (nil_from_length old.free.items (sym old.free.ok.0 ∙ c.in_default.ensures.cases.0))

pub returns : goal.returns
returns c = λ place seated none place_is follows.
    let old = c.args.self.now in
    begin_step c.args.calls.now c.args.number place old.free.items old.open_seats.items old.events.items c.requires seated none place_is follows
    c.in-Some.process c.index-calls-number.result c.place_in-res.result c.pop.new.self.items c.push.new.self.items c.push-2.new.self.items
    c.index-calls-number.is c.place_in-res.ensures c.in-Some.ensures.items c.in_ok-push.ensures.items c.in_ok-push-2.ensures.items
