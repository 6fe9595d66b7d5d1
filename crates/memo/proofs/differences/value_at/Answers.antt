use Rattle.std.proofs.Common.{sym}
use Rattle.memo.proofs.differences.value_at.Goals as goal

pub bounds-pairs-at : goal.bounds-pairs-at
bounds-pairs-at c = c.in-Ok.ensures.found.in_range

pub returns-in-Ok : goal.returns-in-Ok
returns-in-Ok c = sym (c.in-Ok.ensures.found.value (0, 0))

pub returns-in-Err : goal.returns-in-Err
returns-in-Err c = sym c.in-Err.ensures.absent.value
