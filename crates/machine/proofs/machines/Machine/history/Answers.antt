use Rattle.machine.proofs.Common.{◌≡◌, IfOk, ap, sym, subst, ◌∙◌, IfOk-weaker, AreHistoryEvents, HistoryView, IsStart, events_by_stamp, start_of}
use Rattle.std.proofs.Common.{flat_map}
use Rattle.machine.proofs.RecordLemmas.{reached, shown-history, recorded-history, recorded-start, does-the-map, is-linearizable}
use Rattle.machine.proofs.ReadMomentLemmas.{scans-have-moments, gets-have-moments}
use Rattle.machine.proofs.machines.Machine.history.Goals as goal

pub returns-in_err-stamped-clause-reached : goal.returns-in_err-stamped-clause-reached
returns-in_err-stamped-clause-reached c = reached c.args.self.now

pub returns-in_err-start-clause-reached : goal.returns-in_err-start-clause-reached
returns-in_err-start-clause-reached c = reached c.args.self.now

pub history_by_stamp-requires-clause-start : goal.history_by_stamp-requires-clause-start
history_by_stamp-requires-clause-start c = subst IsStart (sym (c.in_ok-start.ensures.items ∙ c.deref-2.ensures.value))
    (recorded-start c.args.self.now)

pub history_by_stamp-requires-clause-events : goal.history_by_stamp-requires-clause-events
history_by_stamp-requires-clause-events c =
    subst (λ es. AreHistoryEvents (events_by_stamp es))
    (sym (c.in_ok-stamped.ensures ∙ ap (flat_map (λ r. r.log.items)) c.deref.ensures.value))
    (recorded-history c.args.self.now)

pub returns-clause-history : goal.returns-clause-history
returns-clause-history c = λ plan s shows.
    subst (λ (h : HistoryView). IfOk c.history_by_stamp.result (λ (found : HistoryView). found ≡ h))
    (ap (λ start. record { start = start; events = events_by_stamp c.in_ok-stamped.stamped.items })
    (c.in_ok-start.ensures.items ∙ c.deref-2.ensures.value)
    ∙ ap (λ events. record { start = start_of c.args.self.now; events = events })
    (ap events_by_stamp (c.in_ok-stamped.ensures ∙ ap (flat_map (λ r. r.log.items)) c.deref.ensures.value)
    ∙ sym (shown-history plan c.args.self.now s shows))) c.history_by_stamp.ensures

pub returns-clause-reached : goal.returns-clause-reached
returns-clause-reached c = reached c.args.self.now

pub returns-clause-serial : goal.returns-clause-serial
returns-clause-serial c =
    IfOk-weaker c.history_by_stamp.result _ _ (λ (found : HistoryView) is. does-the-map c.serial_is_map.ensures c.args.self.now found
    (λ plan s shows. is
    ∙ ap (λ start. record { start = start; events = events_by_stamp c.in_ok-stamped.stamped.items })
    (c.in_ok-start.ensures.items ∙ c.deref-2.ensures.value)
    ∙ ap (λ events. record { start = start_of c.args.self.now; events = events })
    (ap events_by_stamp (c.in_ok-stamped.ensures ∙ ap (flat_map (λ r. r.log.items)) c.deref.ensures.value)
    ∙ sym (shown-history plan c.args.self.now s shows)))) c.history_by_stamp.ensures

pub returns-clause-linearizable : goal.returns-clause-linearizable
returns-clause-linearizable c =
    IfOk-weaker c.history_by_stamp.result _ _ (λ (found : HistoryView) is. is-linearizable c.coupled_is_linearizable.ensures
    c.optimistic_is_linearizable.ensures c.args.self.now found
    (λ plan s shows. is
    ∙ ap (λ start. record { start = start; events = events_by_stamp c.in_ok-stamped.stamped.items })
    (c.in_ok-start.ensures.items ∙ c.deref-2.ensures.value)
    ∙ ap (λ events. record { start = start_of c.args.self.now; events = events })
    (ap events_by_stamp (c.in_ok-stamped.ensures ∙ ap (flat_map (λ r. r.log.items)) c.deref.ensures.value)
    ∙ sym (shown-history plan c.args.self.now s shows)))) c.history_by_stamp.ensures

pub returns-clause-moments : goal.returns-clause-moments
returns-clause-moments c = scans-have-moments c.answered_scans_have_moments.ensures c.args.self.now

pub returns-in_err-stamped-clause-moments : goal.returns-in_err-stamped-clause-moments
returns-in_err-stamped-clause-moments c = scans-have-moments c.answered_scans_have_moments.ensures c.args.self.now

pub returns-in_err-start-clause-moments : goal.returns-in_err-start-clause-moments
returns-in_err-start-clause-moments c = scans-have-moments c.answered_scans_have_moments.ensures c.args.self.now

pub returns-clause-gets : goal.returns-clause-gets
returns-clause-gets c = gets-have-moments c.answered_gets_have_moments.ensures c.args.self.now

pub returns-in_err-stamped-clause-gets : goal.returns-in_err-stamped-clause-gets
returns-in_err-stamped-clause-gets c = gets-have-moments c.answered_gets_have_moments.ensures c.args.self.now

pub returns-in_err-start-clause-gets : goal.returns-in_err-start-clause-gets
returns-in_err-start-clause-gets c = gets-have-moments c.answered_gets_have_moments.ensures c.args.self.now
