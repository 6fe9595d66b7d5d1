use Rattle.follow_laws.proofs.ChoiceLemmas.{judge_now}
use Rattle.follow_laws.proofs.effect_laws.choices_judge.Goals as goal

pub returns : goal.returns
returns c = judge_now
