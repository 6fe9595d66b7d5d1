use Rattle.recorder.proofs.Common.{◌≡◌, IfOk, subst, sym, ap, ◌∙◌, AreHistoryEvents, events_by_stamp, history_of}
use Rattle.events.specs.HistoryView.{HistoryView, with_no_start}
use Rattle.recorder.proofs.MergeLemmas.{together-is}
use Rattle.recorder.proofs.CloseLemmas.{all-history, all-own}
use Rattle.recorder.proofs.recorders.Recorder.history.Goals.{In_ok-stamped}
use Rattle.recorder.proofs.recorders.Recorder.history.Goals as goal

-- the events of all logs make the history of the passes
same : (c : In_ok-stamped) → events_by_stamp c.in_ok-stamped.stamped.items ≡ history_of c.args.passes.now
same c = ap events_by_stamp (c.in_ok-stamped.ensures ∙ together-is c.args.passes.now)

pub returns-in_err-stamped-clause-well_formed : goal.returns-in_err-stamped-clause-well_formed
returns-in_err-stamped-clause-well_formed c = all-history c.args.self.now c.args.passes.now c.requires.own c.requires.all

pub history_by_stamp-requires-clause-events : goal.history_by_stamp-requires-clause-events
history_by_stamp-requires-clause-events c =
    subst AreHistoryEvents (sym (same (goal.at.history_by_stamp-requires-clause-events c).In_ok-stamped))
    (all-history c.args.self.now c.args.passes.now c.requires.own c.requires.all)

pub returns-clause-history : goal.returns-clause-history
returns-clause-history c =
    subst (λ events. IfOk c.history_by_stamp.result (λ (h : HistoryView). h ≡ with_no_start events))
    (same (goal.at.returns-clause-history c).In_ok-stamped)
    (subst
    (λ start. IfOk c.history_by_stamp.result (λ (h : HistoryView). h ≡ record {
      start = start;
      events = events_by_stamp
          c.in_ok-stamped.stamped.items;
    }))
    c.new.ensures.items c.history_by_stamp.ensures)

pub returns-clause-well_formed : goal.returns-clause-well_formed
returns-clause-well_formed c = all-history c.args.self.now c.args.passes.now c.requires.own c.requires.all

pub returns-in_err-stamped-clause-own_events : goal.returns-in_err-stamped-clause-own_events
returns-in_err-stamped-clause-own_events c = all-own c.args.self.now c.args.passes.now c.requires.own c.requires.all

pub returns-clause-own_events : goal.returns-clause-own_events
returns-clause-own_events c = all-own c.args.self.now c.args.passes.now c.requires.own c.requires.all
