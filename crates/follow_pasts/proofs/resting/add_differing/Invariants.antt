use Rattle.follow_pasts.proofs.Common.{◌≡◌, ℕ, take, list_any, covered}
use Rattle.std.specs.Prelude.{◌||◌}
use Rattle.follow_pasts.proofs.RestingLemmas.{differs_at}
use Rattle.follow_pasts.proofs.resting.add_differing.Given as goal

-- the keys of the pairs so far that the other map does not have
abbrev pub invariant-loop-pair : goal.invariant-loop-pair
invariant-loop-pair l =
    (key : ℕ) → covered l.busy.items key ≡ (covered l.fn.busy.items key || list_any (differs_at l.other key) (take l.pair-index l.pair-items))
