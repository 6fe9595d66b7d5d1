-- The keys rise from each pair to the next.
use Rattle.std.proofs.Common.{refl, arith}
use Rattle.plan_text.proofs.RisingPairLemmas.{IsRising-from_next}
use Rattle.plan_text.proofs.starting_pairs.keys_rise.Goals as goal

pub returns : goal.returns
returns c = (
  λ _. IsRising-from_next c.args.pairs.now (λ k d within. c.loop-place.invariant k d (omega (arith, c.loop-place-test.false))),
  λ _. refl,
)
