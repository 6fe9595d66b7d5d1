use Rattle.std.proofs.Common.{◌≡◌, take}
use Rattle.search_choices.specs.Standing.{places}
use Rattle.reduced_search.proofs.searching.order_of.Given as goal

-- the places of the levels so far
abbrev pub invariant-loop-level : goal.invariant-loop-level
invariant-loop-level l = l.order.items ≡ places (take l.level-index l.level-items)
