use Rattle.draw_picture.proofs.ViewportLemmas.{few-shown}
use Rattle.draw_picture.proofs.few.few_of.Goals as goal

pub returns : goal.returns
returns c =
    few-shown c.args.places.now c.args.wrong c.args.picture c.in_ok-narrowed.narrowed c.in_ok-part.part c.event_meant-event.result
    c.column_of-column.result (rw c.deref.ensures.value at c.event_meant-event.ensures)
    (rw c.deref-2.ensures.value at c.column_of-column.ensures) c.in_ok-narrowed.ensures c.in_ok-part.ensures
