use Rattle.replays.proofs.Common.{◌∙◌, ap, subst, sym, refl, arith, Contents, history_of, IsUnrecorded, is_memory}
use Rattle.replays.proofs.PlayLemmas.{stops-at, unrecorded}
use Rattle.replays.proofs.play.record.Goals as goal

pub returns-in-Ok-history-clause-recorded : goal.returns-in-Ok-history-clause-recorded
returns-in-Ok-history-clause-recorded c plan first shows =
    let ran = c.in-Ok.ensures.made plan first shows in
    record {
      state = ran.state;
      made = ran.made;
      turns = ran.turns;
      few = omega (arith, ran.costs);
      recorded = c.in-Ok-history.ensures.history plan ran.state ran.shows
          ∙ ap (λ (start : Contents). record { start = start; events = history_of ran.state }) c.in-Ok.ensures.same_start;
    }

pub returns-clause-refused : goal.returns-clause-refused
returns-clause-refused c plan first shows =
    let stop = c.in-Err.stop in
    subst (IsUnrecorded plan c.args.schedule.now first c.args.machine.left) (sym c.schedule_fault.ensures)
    (unrecorded plan c.args.schedule.now first c.args.machine.left stop (is_memory stop.fault) refl
    (stops-at plan c.args.schedule.now first c.args.machine.left stop.item stop.fault c.run.new.self
    (c.in-Err.ensures.stopped plan first shows)))
