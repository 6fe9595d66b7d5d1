use Rattle.std.specs.Vec.Iter.{into_iter_items}
use Rattle.follow_parts.proofs.AliveLemmas.{AreAliveSoFar}
use Rattle.follow_parts.proofs.settling.those_alive.Given as goal

-- those that are alive so far
abbrev pub invariant-loop-past : goal.invariant-loop-past
invariant-loop-past l = AreAliveSoFar l.fn.made.items l.alive.items (into_iter_items l.past-iterator)
