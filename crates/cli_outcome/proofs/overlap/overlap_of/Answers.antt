use Rattle.std.proofs.Common.{◌≡◌, get_or, sym, subst, arith}
use Rattle.events.specs.declared.event.Event.{Event}
use Rattle.cli_outcome.proofs.OverlapLemmas.{counted-invoke, counted-answer}
use Rattle.cli_outcome.proofs.overlap.overlap_of.Goals.{in-Invoke, in-Answer}
use Rattle.cli_outcome.proofs.overlap.overlap_of.Goals as goal

pub loop-event-preserved : goal.loop-event-preserved
loop-event-preserved c = elim c.match-event.branch [
  | in-Invoke w ↦
      let events = c.args.events.now in
      let place = c.loop-event.event-index in
      let here = subst (λ (e : Event). get_or events place e ≡ e) w.in-Invoke.is (sym c.event-item.is) in
      rw (w.pending-is, w.overlap-is, w.saturating_add-pending.ensures, w.saturating_add-overlap.ensures)
      (counted-invoke events place w.in-Invoke.process w.in-Invoke.call c.loop-event.pending c.loop-event.overlap c.loop-event-test.true
      (omega arith) here c.loop-event.invariant)
  | in-Answer w ↦
      let events = c.args.events.now in
      let place = c.loop-event.event-index in
      let here = subst (λ (e : Event). get_or events place e ≡ e) w.in-Answer.is (sym c.event-item.is) in
      rw (w.pending-is, w.overlap-is, w.saturating_sub-pending.ensures)
      (counted-answer events place w.in-Answer.process w.in-Answer.reply c.loop-event.pending c.loop-event.overlap c.loop-event-test.true here
      c.loop-event.invariant)
]
