use Rattle.pool.proofs.Common.{length, IsExactAnswer}
use Rattle.pool.proofs.KnownLemmas.{none_wrong}
use Rattle.pool.proofs.PassedLemmas.{none_passed}
use Rattle.pool.proofs.pool.search_alone.Goals as goal

pub complete-requires-clause-exact : goal.complete-requires-clause-exact
complete-requires-clause-exact g c = rw c.in_ok-known.ensures (none_wrong (IsExactAnswer c.args.budget) c.args.segments.now)

pub complete-requires-clause-passed : goal.complete-requires-clause-passed
complete-requires-clause-passed g c =
    rw c.in_ok-known.ensures (none_passed (g.G.Gate.was_passed c.args.gate.now) 0 (length c.args.segments.now))
