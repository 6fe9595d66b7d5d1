use Rattle.follow_laws.proofs.ChoiceLemmas.{begin}
use Rattle.follow_laws.proofs.effect_laws.choices_begin.Goals as goal

pub returns : goal.returns
returns c = begin
