use Rattle.art_schedules.proofs.points.PlaceLemmas.{points_by_place}
use Rattle.art_schedules.proofs.laws.points.orders_give_points.Goals as goal

pub returns : goal.returns
returns c = points_by_place
