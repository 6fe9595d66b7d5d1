use Rattle.events.proofs.Common.{◌≡◌, List, IfOk, map, sym, ap, ◌∙◌, subst, rules, answers_always, Event, HistoryView, AreHistoryEvents}
use Rattle.events.proofs.Common.{events_by_stamp}
use Rattle.events.proofs.SortLemmas.{sorted_is}
use Rattle.events.proofs.stamped.history_by_stamp.Goals.{In_ok-events}
use Rattle.events.proofs.stamped.history_by_stamp.Goals as goal

-- the sorted events, without their stamps
same : (c : In_ok-events) → c.in_ok-events.events.items ≡ events_by_stamp c.args.stamped.items
same c =
    c.in_ok-events.ensures
    ∙ ap (map (λ e. e.1))
    (sorted_is c.args.stamped.items c.sort_by_key.new.self.items
    (c.in_ok-sort_by_key.ensures.sorted (λ e. e.0) (answers_always _ _ _ (λ f a r g h. search rules)))
    (c.sort_by_key.ensures.stable (λ e. e.0) (answers_always _ _ _ (λ f a r g h. search rules))))

pub with_calls-requires : goal.with_calls-requires
with_calls-requires c = record {
  start = c.requires.start;
  events = subst AreHistoryEvents (sym (same (goal.at.with_calls-requires c).In_ok-events)) c.requires.events;
}

pub returns : goal.returns
returns c =
    subst (λ (events : List Event). IfOk c.with_calls.result
    (λ (h : HistoryView). h ≡ record { start = c.args.start.items; events = events }))
    (same (goal.at.returns c).In_ok-events) c.with_calls.ensures
