use Rattle.history_text.proofs.Common.{◌≡◌, true, false, get_or, refl, ap, sym, ◌∙◌, list_all_at, list_all_more, is_told_event}
use Rattle.history_text.proofs.write_text.are_complete.Goals as goal

pub loop-event-preserved : goal.loop-event-preserved
loop-event-preserved c =
    let events = c.args.events.now in
    let i = c.loop-event.event-index in
    let a = c.event-item.result in
    let here : is_told_event (get_or events i a) ≡ true =
    sym (ap is_told_event c.event-item.is) ∙ (sym c.is_told_event.ensures ∙ c.if-not-is_told_event.false) in
    list_all_more is_told_event events i a c.loop-event-test.true ∙ rw (here, c.loop-event.invariant) refl

pub returns-then-not-is_told_event : goal.returns-then-not-is_told_event
returns-then-not-is_told_event c =
    let events = c.args.events.now in
    let i = c.loop-event.event-index in
    let a = c.event-item.result in
    let here : is_told_event (get_or events i a) ≡ false =
    sym (ap is_told_event c.event-item.is) ∙ (sym c.is_told_event.ensures ∙ c.if-not-is_told_event.true) in
    sym (list_all_at is_told_event events i a c.loop-event-test.true here)
