use Rattle.std.proofs.Common.{sym, ◌∙◌}
use Rattle.draw_picture.proofs.ViewportLemmas.{shown-part}
use Rattle.draw_picture.proofs.viewports.part_of.Goals as goal

pub returns : goal.returns
returns c =
    shown-part c.args.events c.args.wrong c.args.view c.args.picture c.viewport_around.result c.room_for-room.result
    c.event_shown-event.result c.column_of-column.result c.room_for-room.ensures (sym c.is_whole.ensures ∙ c.if-is_whole.false)
    (rw c.deref.ensures.value at c.event_shown-event.ensures) (rw c.deref-2.ensures.value at c.column_of-column.ensures)
    c.viewport_around.ensures
