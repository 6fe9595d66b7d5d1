use Rattle.recorder.proofs.Common.{◌≡◌, ◌+◌, ◌++◌, flat_map, sum_by, into_iter_items, counter, counter_of, drawn_by, share_of, source_of, stamps_of}
use Rattle.recorder.proofs.Common.{draws_of, all_stamps}
use Rattle.std.proofs.Common.{All}
use Rattle.recorder.proofs.closing.join_hands.Given as goal

abbrev pub invariant-loop-pass : goal.invariant-loop-pass
invariant-loop-pass l = record {
  can_next : (goal.iterator-loop-pass).can_next l.pass-iterator;
  is_finite : (goal.iterator-loop-pass).is_finite l.pass-iterator;
  own : counter_of l.hand ≡ counter l.tickets;
  others_own : All (λ p. source_of p ≡ counter l.tickets) (into_iter_items l.pass-iterator);
  drawn : drawn_by l.hand ++ flat_map stamps_of (into_iter_items l.pass-iterator) ≡ all_stamps l.fn.passes.items;
  share : share_of l.hand + sum_by draws_of (into_iter_items l.pass-iterator) ≡ sum_by draws_of l.fn.passes.items;
}
