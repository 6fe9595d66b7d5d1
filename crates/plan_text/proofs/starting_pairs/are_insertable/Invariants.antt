-- A tree can insert each pair so far.
use Rattle.plan_text.proofs.Common.{◌≡◌, take, true, list_all, Insert, is_tree_call}
use Rattle.plan_text.proofs.starting_pairs.are_insertable.Given as goal

abbrev pub invariant-loop-key : goal.invariant-loop-key
invariant-loop-key l = list_all (λ pair. is_tree_call (Insert pair.0 pair.1)) (take l.key-index l.pairs) ≡ true
