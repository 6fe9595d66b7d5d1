use Rattle.memo.proofs.Common.{◌∙◌, ◌+◌, ℕ, ap, mix}
use Rattle.memo.proofs.DigestLemmas.{mix-mod}
use Rattle.memo.proofs.digests.mix_pair.Goals as goal

pub returns : goal.returns
returns c = c.mix-2.ensures ∙ mix-mod (c.mix.result + c.args.pair.1) ∙ ap (λ (n : ℕ). mix (n + c.args.pair.1)) c.mix.ensures
