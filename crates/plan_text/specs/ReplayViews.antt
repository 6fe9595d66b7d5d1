-- What a contract sees of a replay.
use Rattle.std.specs.Prelude.{map}
use Rattle.plan_text.specs.declared.replay.Replay.{Replay}
use Rattle.plan_text.specs.Replays.{ReplayView}

abbrev pub shown : Replay → ReplayView
shown r = record {
  limit = r.limit;
  shape = r.shape;
  variant = r.variant;
  start = r.start.items;
  scripts = map (λ script. script.items) r.scripts.items;
  schedule = r.schedule.items;
}
