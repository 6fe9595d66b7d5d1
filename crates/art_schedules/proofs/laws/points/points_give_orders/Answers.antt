use Rattle.art_schedules.proofs.points.PointLemmas.{order_by_points}
use Rattle.art_schedules.proofs.laws.points.points_give_orders.Goals as goal

pub returns : goal.returns
returns c = order_by_points
