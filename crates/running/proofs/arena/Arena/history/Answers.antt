use Rattle.running.proofs.Common.{ap, sym, subst, ◌∙◌, flat_map, AreHistoryEvents, HistoryView, with_no_start, events_by_stamp, HasOwnEvents, Run}
use Rattle.running.proofs.Common.{shows, opened_for}
use Rattle.std.proofs.lemmas.Result.{IfOk-weaker}
use Rattle.running.proofs.CloseLemmas.{logged-history}
use Rattle.running.proofs.ReadMomentLemmas.{scans-have-moments, gets-have-moments, is-linearizable}
use Rattle.running.proofs.arena.Arena.history.Goals as goal

pub history_by_stamp-requires-clause-events : goal.history_by_stamp-requires-clause-events
history_by_stamp-requires-clause-events c =
    let e = c.look.ensures.all c.requires.all in
    let same = ap events_by_stamp (c.in_ok-stamped.ensures ∙ ap (flat_map (λ (r : Run). r.1.log.items)) c.deref.ensures.value)
    ∙ sym (logged-history c.args.group.now.setup e.words (shows c.args.group.now) c.args.group.now.runners.items c.requires.own.group.fit) in
    subst AreHistoryEvents (sym same) e.history

pub returns-clause-history : goal.returns-clause-history
returns-clause-history c =
    let e = c.look.ensures.all c.requires.all in
    let same = ap events_by_stamp (c.in_ok-stamped.ensures ∙ ap (flat_map (λ (r : Run). r.1.log.items)) c.deref.ensures.value)
    ∙ sym (logged-history c.args.group.now.setup e.words (shows c.args.group.now) c.args.group.now.runners.items c.requires.own.group.fit) in
    IfOk-weaker c.history_by_stamp.result _ _ (λ (found : HistoryView) is. record {
      words = e.words;
      schedule = e.schedule;
      within = e.within;
      gives = e.gives;
      is = is ∙ (ap (λ start. record { start = start; events = events_by_stamp c.in_ok-stamped.stamped.items }) c.new.ensures.items
          ∙ ap with_no_start same);
    }) c.history_by_stamp.ensures

pub returns-clause-own_events : goal.returns-clause-own_events
returns-clause-own_events c =
    let e = c.look.ensures.all c.requires.all in
    let same = ap events_by_stamp (c.in_ok-stamped.ensures ∙ ap (flat_map (λ (r : Run). r.1.log.items)) c.deref.ensures.value)
    ∙ sym (logged-history c.args.group.now.setup e.words (shows c.args.group.now) c.args.group.now.runners.items c.requires.own.group.fit) in
    IfOk-weaker c.history_by_stamp.result _ _ (λ (found : HistoryView) is.
    subst (HasOwnEvents (opened_for c.args.self.now) (shows c.args.group.now)) (sym (ap (λ (h : HistoryView). h.events) is ∙ same)) e.own)
    c.history_by_stamp.ensures

pub returns-clause-moments : goal.returns-clause-moments
returns-clause-moments c = scans-have-moments c.answered_scans_have_moments.ensures (opened_for c.args.self.now) (shows c.args.group.now)
    (c.look.ensures.all c.requires.all)

pub returns-in_err-stamped-clause-moments : goal.returns-in_err-stamped-clause-moments
returns-in_err-stamped-clause-moments c = scans-have-moments c.answered_scans_have_moments.ensures (opened_for c.args.self.now)
    (shows c.args.group.now) (c.look.ensures.all c.requires.all)

pub returns-clause-gets : goal.returns-clause-gets
returns-clause-gets c = gets-have-moments c.answered_gets_have_moments.ensures (opened_for c.args.self.now) (shows c.args.group.now)
    (c.look.ensures.all c.requires.all)

pub returns-in_err-stamped-clause-gets : goal.returns-in_err-stamped-clause-gets
returns-in_err-stamped-clause-gets c = gets-have-moments c.answered_gets_have_moments.ensures (opened_for c.args.self.now)
    (shows c.args.group.now) (c.look.ensures.all c.requires.all)

pub returns-clause-linearizable : goal.returns-clause-linearizable
returns-clause-linearizable c =
    let e = c.look.ensures.all c.requires.all in
    let same = ap events_by_stamp (c.in_ok-stamped.ensures ∙ ap (flat_map (λ (r : Run). r.1.log.items)) c.deref.ensures.value)
    ∙ sym (logged-history c.args.group.now.setup e.words (shows c.args.group.now) c.args.group.now.runners.items c.requires.own.group.fit) in
    IfOk-weaker c.history_by_stamp.result _ _ (λ (found : HistoryView) is.
    is-linearizable c.coupled_is_linearizable.ensures c.optimistic_is_linearizable.ensures (opened_for c.args.self.now)
    (shows c.args.group.now) e found
    (is ∙ (ap (λ start. record { start = start; events = events_by_stamp c.in_ok-stamped.stamped.items }) c.new.ensures.items
    ∙ ap with_no_start same)))
    c.history_by_stamp.ensures
