use Rattle.std.proofs.Common.{[], refl}
use Rattle.cli_follow.proofs.followed.Followed.new.Goals as goal

pub returns : goal.returns
returns c = record {
  stream = record { start = []; events = [] };
  spelled = (refl, tt);
  follows = c.in_ok-monitor.ensures;
  pending = refl;
  overlap = refl;
}
