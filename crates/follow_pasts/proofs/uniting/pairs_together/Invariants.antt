use Rattle.map_object.specs.MapObject.{IsRising}
use Rattle.follow_pasts.proofs.MergeLemmas.{AreAdding}
use Rattle.follow_pasts.proofs.uniting.pairs_together.Given as goal

-- the result is right for the pairs so far
abbrev pub invariant-loop-pair : goal.invariant-loop-pair
invariant-loop-pair l = record {
  rises : IsRising l.both;
  adding : AreAdding l.pairs l.others l.pair-index l.both;
}
