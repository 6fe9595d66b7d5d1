use Rattle.search.proofs.Common.{length, Stands, rest_of}
use Rattle.search.proofs.walk.search_on.Given as goal

-- the walk is in some state
abbrev pub invariant-loop-found : goal.invariant-loop-found
invariant-loop-found l = Stands l.segment.start l.segment.calls l.standing

-- what the walk still has to do
abbrev pub decreases-loop-found : goal.decreases-loop-found
decreases-loop-found l = rest_of l.budget (length l.segment.calls) l.standing.levels.items l.standing.next l.standing.memo
