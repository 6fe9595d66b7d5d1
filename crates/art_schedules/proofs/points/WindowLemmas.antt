-- Points within windows that keep precedence keep it too.
use Rattle.art_schedules.proofs.Common.{◌≡◌, true, refl, arith, IsTrue, Operation, Response, is_completed, is_before, precedes}
use Rattle.std.proofs.Common.{Option, Some, None, is_some}
use Rattle.art_schedules.specs.points.Laws.{WindowsGivePrecedence}

-- a call that precedes another is completed
pub completed-from_precedes : (a b : Operation) → precedes a b ≡ true → IsTrue (is_completed a)
completed-from_precedes a b h = of_response a.response h
  where
    of_response : (o : Option Response) → is_before o b.inv ≡ true → IsTrue (is_some o)
    of_response None h = cc
    of_response (Some r) h = refl

pub precedence_from_windows : WindowsGivePrecedence
precedence_from_windows calls points first last keep within m n p q a b here there before =
    let apart = keep m n a b here.call there.call before in
    let left = within m p a here in
    let right = within n q b there in
    let until = left.1 (completed-from_precedes a b before) in
    omega arith
