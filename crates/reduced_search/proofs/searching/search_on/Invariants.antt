use Rattle.std.proofs.Common.{length}
use Rattle.search_choices.specs.Standing.{Stands, rest_of}
use Rattle.reduced_search.proofs.searching.search_on.Given as goal

abbrev pub ghost-look_on : goal.ghost-look_on
ghost-look_on g a = g.start

abbrev pub ghost-make_step : goal.ghost-make_step
ghost-make_step g a = g.start

-- the search is in some state
abbrev pub invariant-loop-alloc : goal.invariant-loop-alloc
invariant-loop-alloc g l = Stands g.start l.calls l.standing

-- what it still has to do
abbrev pub decreases-loop-alloc : goal.decreases-loop-alloc
decreases-loop-alloc g l = rest_of l.budget (length l.calls) l.standing
