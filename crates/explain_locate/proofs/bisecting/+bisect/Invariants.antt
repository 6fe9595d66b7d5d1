use Rattle.std.proofs.Common.{◌-◌}
use Rattle.explain_locate.proofs.bisecting.+bisect.Given as goal

-- a half is shorter
abbrev pub decreases-bisect : goal.decreases-bisect
decreases-bisect l = l.high - l.low
