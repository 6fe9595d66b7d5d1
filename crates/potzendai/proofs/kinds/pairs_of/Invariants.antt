-- The pairs so far are copied.
use Rattle.potzendai.proofs.Common.{◌≡◌, All, map, take, IsWord}
use Rattle.potzendai.proofs.kinds.pairs_of.Given as goal

abbrev pub invariant-loop-pair : goal.invariant-loop-pair
invariant-loop-pair l =
    (l.items.items ≡ map (λ pair. (pair.key, pair.value)) (take l.pair-index l.pairs))
    × All (λ pair. IsWord pair.0 × IsWord pair.1) l.items.items
