use Rattle.std.specs.Vec.Iter.{into_iter_items}
use Rattle.follow_parts.proofs.SettlingLemmas.{IsSettledBut}
use Rattle.follow_parts.proofs.settling.settle_met.Given as goal

-- with the parts that are not yet put back, the state says the same of the calls
abbrev pub invariant-loop-part : goal.invariant-loop-part
invariant-loop-part l = IsSettledBut (into_iter_items l.part-iterator) l.fn.state l.state
