use Rattle.follow_laws.proofs.ChoiceLemmas.{choices_on}
use Rattle.follow_laws.proofs.effect_laws.choices_stay.Goals as goal

pub returns : goal.returns
returns c = choices_on
