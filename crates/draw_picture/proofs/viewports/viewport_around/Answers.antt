use Rattle.std.proofs.Common.{arith}
use Rattle.draw_picture.proofs.ViewportLemmas.{viewport-around}
use Rattle.draw_picture.proofs.viewports.viewport_around.Goals as goal

pub returns : goal.returns
returns c =
    viewport-around c.args.room c.args.column c.args.event c.args.picture c.viewport_at.result c.in_ok-columns.columns.items
    c.rank-middle.result c.len.result c.viewport_from-from.result c.len-2.result c.min.result
    (rw (c.deref.ensures.value, c.deref-2.ensures.value) at c.in_ok-columns.ensures)
    (rw c.deref-3.ensures.value at c.rank-middle.ensures.value)
    (omega (arith, c.len.ensures, c.in_ok-columns.columns.ok)) c.viewport_from-from.ensures.value
    (omega (arith, c.len-2.ensures, c.in_ok-columns.columns.ok)) c.min.ensures (rw c.deref-4.ensures.value at c.viewport_at.ensures)
