use Rattle.art_schedules.proofs.scan_points.PointLemmas.{scan-point}
use Rattle.art_schedules.proofs.laws.scan_points.answered_scans_have_points.Goals as goal

pub returns : goal.returns
returns c = scan-point c.fronts_have_moments.ensures c.moments_end_runs.ensures c.runs_have_calls.ensures c.scans_are_the_maps.ensures
