use Rattle.search.proofs.Common.{◌+◌, ◌≤◌, length, Stands, rest_of}
use Rattle.search.proofs.LongestLemmas.{IsLongestSoFar}
use Rattle.search.proofs.longest.longest_from.Given as goal

-- the walk is in some state, within the budget, and of the configurations that it visited none has
-- more calls taken than the longest front
abbrev pub invariant-loop-longest : goal.invariant-loop-longest
invariant-loop-longest l =
    Stands l.segment.start l.segment.calls l.standing × IsLongestSoFar l.segment l.standing l.longest.items
    × (length l.standing.memo ≤ l.budget + 1)

-- what the walk still has to do
abbrev pub decreases-loop-longest : goal.decreases-loop-longest
decreases-loop-longest l = rest_of l.budget (length l.segment.calls) l.standing.levels.items l.standing.next l.standing.memo
