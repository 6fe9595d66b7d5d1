use Rattle.memo.proofs.Common.{refl, mix}
use Rattle.memo.proofs.digests.mix.Goals as goal

pub returns : goal.returns
unfolding mix
returns c = refl
