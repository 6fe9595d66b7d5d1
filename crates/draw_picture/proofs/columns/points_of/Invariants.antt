use Rattle.draw_picture.proofs.Common.{◌≡◌, map, take, point_in, latest}
use Rattle.draw_picture.proofs.columns.points_of.Given as goal

abbrev pub invariant-loop-number : goal.invariant-loop-number
invariant-loop-number l = record {
  point : l.point ≡ latest l.calls l.order l.number-index;
  points : l.points.items ≡ map (point_in l.calls l.order) (take l.number-index l.order);
}
