-- The values before the one at hand spell the events so far.
use Rattle.history_text.proofs.Common.{◌≡◌, ◌+◌, ◌∷◌, ◌++◌, ◌∙◌, length, map, take, drop, ap, subst, err_from_is_err_and, view, HistoryView}
use Rattle.history_text.proofs.Common.{AreHistoryEvents}
use Rattle.history_text.proofs.ValueFaultLemmas.{events_before, events_more, stands_more, split_at, fault_alone, fault_on_taking}
use Rattle.history_text.proofs.read_text.events_of.Goals.{After-event_of}
use Rattle.history_text.proofs.read_text.events_of.Goals as goal

module _ (c : After-event_of) where
  size : length c.loop-place.turns.events ≡ c.loop-place.place
  size = events_before c.args.version c.args.items.now c.loop-place.turns.events c.loop-place.place c.loop-place-test.true
      c.loop-place.invariant.spelled

  parts : map view c.args.items.now ≡ map view (take c.loop-place.place c.args.items.now) ++ view c.index-items-place.result ∷ map view
      (drop (c.loop-place.place + 1) c.args.items.now)
  parts = split_at c.args.items.now c.loop-place.place c.index-items-place.result c.loop-place-test.true c.index-items-place.is

pub returns-in_err-event-clause-refused : goal.returns-in_err-event-clause-refused
returns-in_err-event-clause-refused c =
    let p = err_from_is_err_and c.from_residual.result c.from_residual.ensures.1 in
    let here = (goal.at.returns-in_err-event-clause-refused c).After-event_of in
    rw (p.1, p.2)
    (fault_alone c.args.version _ c.loop-place.turns.events (view c.index-items-place.result) c.in_err-event.field-0.0
    (rw (size here) c.in_err-event.ensures.refused) _ _ (parts here) c.loop-place.invariant.spelled c.loop-place.invariant.events)

pub returns-in_err-take-clause-refused : goal.returns-in_err-take-clause-refused
returns-in_err-take-clause-refused c =
    let p = err_from_is_err_and c.from_residual-in_err-take.result c.from_residual-in_err-take.ensures.1 in
    let here = (goal.at.returns-in_err-take-clause-refused c).After-event_of in
    rw (p.1, p.2)
    (fault_on_taking c.args.version _ c.loop-place.turns.events c.in_ok-event.event
    (view c.index-items-place.result) c.in_err-take.field-0.0 _ _ c.in_err-take.ensures.refused c.in_ok-event.ensures.ok
    c.in_ok-event.ensures.standing
    (parts here) c.loop-place.invariant.spelled c.loop-place.invariant.events)

pub loop-place-preserved : goal.loop-place-preserved
loop-place-preserved c =
    let taken = c.in_ok-take.ensures.taken in
    let history = c.take.ensures.history in
    let before = c.loop-place.turns.events in
    let e = c.in_ok-event.event in
    record {
      start = ap (λ (h : HistoryView). h.start) taken ∙ c.loop-place.invariant.start;
      spelled = rw taken
          (events_more c.args.version c.args.items.now before c.loop-place.place c.index-items-place.result e c.loop-place-test.true
          c.index-items-place.is c.loop-place.invariant.spelled c.in_ok-event.ensures.ok);
      history = history;
      events = rw taken
          (stands_more c.args.version before e c.loop-place.invariant.events
          (subst (λ (h : HistoryView). AreHistoryEvents h.events) taken history.events) c.in_ok-event.ensures.standing);
    }
